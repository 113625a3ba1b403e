use Rattle.std.proofs.Common.{◌≡◌, length}
use Rattle.port.specs.Finding.{AreBytes}
use Rattle.port.proofs.Steps.{Stands}
use Rattle.port.proofs.finals_reading.read_each.Given as goal

abbrev pub invariant-loop : goal.invariant-loop
invariant-loop l = (length l.finals.items ≡ l.counter) × (AreBytes l.fn.cursor → Stands l.fn.cursor l.cursor l.finals.items l.before)
