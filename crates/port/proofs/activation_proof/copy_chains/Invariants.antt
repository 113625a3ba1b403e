use Rattle.std.proofs.Common.{◌≡◌, take}
use Rattle.port.proofs.activation_proof.copy_chains.Given as goal

-- the chains up to here were copied
abbrev pub invariant-loop-chain : goal.invariant-loop-chain
invariant-loop-chain l = l.copies.items ≡ take l.chain-index l.chains
