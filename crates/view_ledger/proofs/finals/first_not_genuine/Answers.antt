use Rattle.std.proofs.Common.{◌≡◌, [], drop, sym, ap, ◌∙◌, arith}
use Rattle.std.proofs.lemmas.List.{drop_all}
use Rattle.view_ledger.specs.Extension.{first_not_genuine}
use Rattle.view_ledger.proofs.Extending.{all_genuine}
use Rattle.view_ledger.proofs.finals.first_not_genuine.Goals as goal

pub returns-clause-genuine : goal.returns-clause-genuine
returns-clause-genuine c =
    let none : drop c.loop-member.member-index c.args.members.now ≡ [] = drop_all c.loop-member.member-index c.args.members.now (omega arith) in
    all_genuine c.args.roster.now c.args.members.now (sym c.loop-member.invariant ∙ ap (first_not_genuine c.args.roster.now) none)
