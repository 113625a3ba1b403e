use Rattle.std.proofs.Common.{◌≡◌, ◌∷◌, length, take}
use Rattle.std.specs.List.{flat_map, AllByRecursion}
use Rattle.port.specs.FinalsForm.{IsFinal, final_bytes}
use Rattle.port.proofs.finals_form.write_finals.Given as goal

-- the finals up to here were written
abbrev pub invariant-loop-ended : goal.invariant-loop-ended
invariant-loop-ended l = (l.text.bytes ≡ 0x31 ∷ length l.finals ∷ flat_map final_bytes (take l.ended-index l.finals)) × AllByRecursion IsFinal (take l.ended-index l.finals)
