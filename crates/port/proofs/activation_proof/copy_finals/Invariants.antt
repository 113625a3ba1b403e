use Rattle.std.proofs.Common.{◌≡◌, take}
use Rattle.port.proofs.activation_proof.copy_finals.Given as goal

-- the finals up to here were copied
abbrev pub invariant-loop-ended : goal.invariant-loop-ended
invariant-loop-ended l = l.copies.items ≡ take l.ended-index l.finals
