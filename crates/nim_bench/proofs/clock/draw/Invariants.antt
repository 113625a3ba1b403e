use Rattle.std.proofs.Common.{◌+◌, ◌≤◌}
use Rattle.nim_bench.proofs.clock.draw.Given as goal

abbrev pub invariant-loop : goal.invariant-loop
invariant-loop g l = l.count ≤ l.counter + l.pass.left
