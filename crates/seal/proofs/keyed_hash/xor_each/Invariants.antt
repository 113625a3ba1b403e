-- The bytes so far are written, and the others stand as they were.
use Rattle.std.proofs.Common.{◌≡◌, ◌++◌, take, drop}
use Rattle.seal.specs.Hmac.{xor_each}
use Rattle.seal.proofs.keyed_hash.xor_each.Given as goal

abbrev pub invariant-loop-byte : goal.invariant-loop-byte
invariant-loop-byte l =
    l.bytes ≡ xor_each l.pad (take l.byte-index l.initial.bytes) ++ drop l.byte-index l.initial.bytes
