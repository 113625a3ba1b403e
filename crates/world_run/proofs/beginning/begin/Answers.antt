use Rattle.std.proofs.Common.{ℕ, List, ap, ap₂, ◌∙◌}
use Rattle.script_runs.specs.Begins.{first_ids}
use Rattle.script_runs.specs.Roster.{members_by}
use Rattle.world_run.proofs.RunBegins.{begun_so, one_view}
use Rattle.world_run.proofs.beginning.begin.Goals as goal

pub returns-clause-begins : goal.returns-clause-begins
returns-clause-begins g c =
    begun_so g.M.Scheme.Signer.Signer.key_of g.M.Scheme.Signer.Signer.left_of g.M.Scheme.Checker.Checker.accepts
    (g.M.Seals.key_of c.args.seals.now) (g.M.Seals.left_of c.args.seals.now) (g.M.Seals.accepts c.args.seals.now) (first_ids c.args.script.now)
    c.new-2.result c.new-coordinator.result c.in_ok-chain.chain c.in_ok-first.first c.new.result c.in_ok-members.field-0.bank c.in_ok-checker.checker
    c.new-2.ensures c.new-coordinator.ensures c.in_ok-first.ensures
    (c.in_ok-chain.ensures
    ∙ ap₂ one_view (c.deref-2.ensures.value ∙ c.in_ok-members.ensures.members)
    (c.in_ok-genesis.ensures.config (g.M.Seals.key_of c.args.seals.now) (c.deref.ensures.value ∙ c.in_ok-members.ensures.members)
    ∙ ap (λ (ids : List ℕ). members_by (g.M.Seals.key_of c.args.seals.now) ids) (c.ids_of.ensures ∙ ap first_ids c.lines.ensures.lines)))
    c.new.ensures.truth c.new.ensures.told c.in_ok-checker.ensures.accepts c.in_ok-members.ensures.bank
