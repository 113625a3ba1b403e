use Rattle.std.proofs.Common.{ℕ, List, refl, sym, ap, subst, ◌∙◌, rules, arith}
use Rattle.std.specs.List.{range_with_len}
use Rattle.statement.specs.declared.member.Member.{Member}
use Rattle.statement.specs.Ids.{IsRising}
use Rattle.statement.specs.Config.{ids as ids_of}
use Rattle.view_ledger.specs.Receipts.{Accepts}
use Rattle.roster_bank.specs.Roster.{AllAccept}
use Rattle.script_runs.specs.Ids.{all_ids}
use Rattle.script_runs.specs.Roster.{members_by}
use Rattle.world_run.proofs.Ids.{are_all}
use Rattle.world_run.proofs.Rosters.{all_rise, cells_all, cells_more, members_more, new_accept, new_bank, new_lines, new_members}
use Rattle.world_run.proofs.roster.endorsers_of.Goals as goal

pub loop-below-preserved : goal.loop-below-preserved
loop-below-preserved g c =
    let fewer = c.in_ok-push_endorser.ensures.left in
    let before = c.loop-below.invariant.3 in (
      members_more (g.M.Seals.key_of c.args.seals.now) c.loop-below.below c.loop-below.members.items c.push_endorser.new.members.items c.loop-below.invariant.0 c.in_ok-push_endorser.ensures.members,
      cells_more g.M.Scheme.Signer.Signer.key_of g.M.Scheme.Signer.Signer.left_of g.M.Scheme.Checker.Checker.accepts (g.M.Seals.key_of c.args.seals.now) (g.M.Seals.left_of c.args.seals.now) (g.M.Seals.accepts c.args.seals.now) c.loop-below.below c.loop-below.cells.items c.push_endorser.new.cells.items c.loop-below.invariant.1 c.in_ok-push_endorser.ensures.cells,
      c.in_ok-push_endorser.ensures.drawn ∙ c.loop-below.invariant.2,
      omega (arith, fewer, before),
    )

pub new-requires-clause-unused : goal.new-requires-clause-unused
new-requires-clause-unused g c =
    new_lines g.M.Scheme.Signer.Signer.key_of g.M.Scheme.Signer.Signer.left_of g.M.Scheme.Checker.Checker.accepts (g.M.Seals.key_of c.args.seals.now) (g.M.Seals.left_of c.args.seals.now) (g.M.Seals.accepts c.args.seals.now) all_ids c.loop-below.cells.items
    (cells_all g.M.Scheme.Signer.Signer.key_of g.M.Scheme.Signer.Signer.left_of g.M.Scheme.Checker.Checker.accepts (g.M.Seals.key_of c.args.seals.now) (g.M.Seals.left_of c.args.seals.now) (g.M.Seals.accepts c.args.seals.now) c.loop-below.below c.loop-below.cells.items (search rules) c.loop-below.invariant.1)

pub new-requires-clause-members : goal.new-requires-clause-members
new-requires-clause-members g c =
    new_members g.M.Scheme.Signer.Signer.key_of g.M.Scheme.Signer.Signer.left_of g.M.Scheme.Checker.Checker.accepts (g.M.Seals.key_of c.args.seals.now) (g.M.Seals.left_of c.args.seals.now) (g.M.Seals.accepts c.args.seals.now) all_ids c.loop-below.cells.items
    (cells_all g.M.Scheme.Signer.Signer.key_of g.M.Scheme.Signer.Signer.left_of g.M.Scheme.Checker.Checker.accepts (g.M.Seals.key_of c.args.seals.now) (g.M.Seals.left_of c.args.seals.now) (g.M.Seals.accepts c.args.seals.now) c.loop-below.below c.loop-below.cells.items (search rules) c.loop-below.invariant.1)
    ∙ sym c.requires.members

pub new-requires-clause-rising : goal.new-requires-clause-rising
new-requires-clause-rising g c = subst (λ (members : List Member). IsRising (ids_of members)) (sym c.requires.members) (all_rise (g.M.Seals.key_of c.args.seals.now))

pub new-requires-clause-accepted : goal.new-requires-clause-accepted
new-requires-clause-accepted g c =
    subst (λ (all : Accepts). AllAccept g.M.Scheme.Checker.Checker.accepts all c.loop-below.cells.items) (sym c.requires.accepts)
    (new_accept g.M.Scheme.Signer.Signer.key_of g.M.Scheme.Signer.Signer.left_of g.M.Scheme.Checker.Checker.accepts (g.M.Seals.key_of c.args.seals.now) (g.M.Seals.left_of c.args.seals.now) (g.M.Seals.accepts c.args.seals.now) all_ids c.loop-below.cells.items
    (cells_all g.M.Scheme.Signer.Signer.key_of g.M.Scheme.Signer.Signer.left_of g.M.Scheme.Checker.Checker.accepts (g.M.Seals.key_of c.args.seals.now) (g.M.Seals.left_of c.args.seals.now) (g.M.Seals.accepts c.args.seals.now) c.loop-below.below c.loop-below.cells.items (search rules) c.loop-below.invariant.1))

pub returns-clause-members : goal.returns-clause-members
returns-clause-members g c =
    c.loop-below.invariant.0
    ∙ ap (λ (ids : List ℕ). members_by (g.M.Seals.key_of c.args.seals.now) ids) (are_all (range_with_len 1 c.loop-below.below) c.loop-below.below refl (search rules))

pub returns-clause-bank : goal.returns-clause-bank
returns-clause-bank g c =
    new_bank g.M.Scheme.Signer.Signer.key_of g.M.Scheme.Signer.Signer.left_of g.M.Scheme.Checker.Checker.accepts (g.M.Seals.key_of c.args.seals.now) (g.M.Seals.left_of c.args.seals.now) (g.M.Seals.accepts c.args.seals.now) c.loop-below.cells.items c.new.result
    (cells_all g.M.Scheme.Signer.Signer.key_of g.M.Scheme.Signer.Signer.left_of g.M.Scheme.Checker.Checker.accepts (g.M.Seals.key_of c.args.seals.now) (g.M.Seals.left_of c.args.seals.now) (g.M.Seals.accepts c.args.seals.now) c.loop-below.below c.loop-below.cells.items (search rules) c.loop-below.invariant.1)
    c.new.ensures
