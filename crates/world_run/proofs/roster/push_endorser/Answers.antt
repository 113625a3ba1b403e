use Rattle.std.proofs.Common.{ap, ◌∙◌}
use Rattle.stamp_clock.specs.Stamps.{Stamps}
use Rattle.world_run.proofs.Rosters.{new_cell}
use Rattle.world_run.proofs.roster.push_endorser.Goals as goal

pub returns-clause-cells : goal.returns-clause-cells
returns-clause-cells g c = (
  c.new-cell.result,
  c.in_ok-push-2.ensures.items,
  new_cell g.M.Scheme.Signer.Signer.key_of g.M.Scheme.Signer.Signer.left_of g.M.Scheme.Checker.Checker.accepts (g.M.Seals.key_of c.args.seals.now) (g.M.Seals.left_of c.args.seals.now)
      (g.M.Seals.accepts c.args.seals.now) c.new-cell.result c.args.id c.in_ok-signer.signer c.in_ok-checker.checker
      (c.new-cell.ensures.endorser ∙ c.new.ensures)
      c.in_ok-signer.ensures.key
      c.in_ok-signer.ensures.left
      c.in_ok-checker.ensures.accepts
      c.new-cell.ensures.lines
      (c.new-cell.ensures.left ∙ ap (λ (given : Stamps). given.left) c.in_ok-pass.ensures.new)
      c.new-cell.ensures.lossless,
)
