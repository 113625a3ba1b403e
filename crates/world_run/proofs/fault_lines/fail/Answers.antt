use Rattle.std.proofs.Common.{refl}
use Rattle.world_run.proofs.fault_lines.fail.Goals as goal

pub returns : goal.returns
returns g c = (record { rest = c.fail_next.ensures.rest; due = c.fail_next.ensures.due; contents = c.fail_next.ensures.contents; source = c.fail_next.ensures.source; forks = c.fail_next.ensures.forks }, refl)
