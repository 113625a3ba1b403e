use Rattle.std.proofs.Common.{◌≡◌, true}
use Rattle.catch_up.specs.State.{is_live, calls_left}
use Rattle.service_tests.proofs.catch_ups.finish.Given as goal

abbrev pub invariant-loop-steps : goal.invariant-loop-steps
invariant-loop-steps g l = is_live l.catch_up ≡ true

abbrev pub decreases-loop-steps : goal.decreases-loop-steps
decreases-loop-steps g l = calls_left l.catch_up
