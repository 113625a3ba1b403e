use Rattle.std.proofs.Common.{refl}
use Rattle.world_run.proofs.fault_lines.honest.Goals as goal

pub returns : goal.returns
returns g c = (
  record {
    rest = c.honest.ensures.rest;
    source = c.honest.ensures.source;
    forks = c.honest.ensures.forks;
    contents = c.honest.ensures.held;
    due = c.honest.ensures.due;
  },
  refl,
)
