use Rattle.std.proofs.Common.{◌≡◌, map, drop, length, []}
use Rattle.fault_script.specs.Script.{read_after}
use Rattle.fault_script.proofs.reading.read_lines.Given as goal

abbrev pub invariant-loop-place : goal.invariant-loop-place
invariant-loop-place l =
    (length l.reader ≡ l.place) × (read_after l.reader (map (λ line. line.now) (drop l.place l.lines)) ≡ read_after [] (map (λ line. line.now) l.lines))
