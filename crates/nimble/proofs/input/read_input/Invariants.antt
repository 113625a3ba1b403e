use Rattle.std.proofs.Common.{◌≡◌, ◌≤◌, length}
use Rattle.std.specs.Io.KnownBytes.{Consumes}
use Rattle.nimble.proofs.input.read_input.Given as goal

abbrev pub invariant-loop : goal.invariant-loop
invariant-loop g l =
    (length l.text.bytes ≤ 1048577) × (l.counter ≤ length l.text.bytes) × (length l.piece ≡ 4096)
    × Consumes (g.S.Source.left l.fn.source) (g.S.Source.left l.source) l.text.bytes × (g.S.Source.fault_count l.fn.source ≤ g.S.Source.fault_count l.source)
