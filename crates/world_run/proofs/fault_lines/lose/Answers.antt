use Rattle.std.proofs.Common.{refl, sym, ◌∙◌}
use Rattle.world_run.proofs.fault_lines.lose.Goals as goal

pub returns : goal.returns
returns g c = record { rest = c.lose.ensures.rest; cells = c.lose.ensures.cells; log = c.lose.ensures.log; fresh = c.calls_are_kept-2.ensures.roster.fresh ∙ sym c.calls_are_kept.ensures.roster.fresh; none = refl }
