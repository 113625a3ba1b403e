-- The byte at the index is written as the map says.
use Rattle.std.proofs.Common.{◌<◌, length, bit_xor, arith}
use Rattle.std.proofs.lemmas.List.{get_or_default}
use Rattle.std.proofs.lemmas.List.Edits.{map_over_more}
use Rattle.seal.proofs.keyed_hash.xor_each.Goals as goal

pub loop-byte-preserved : goal.loop-byte-preserved
loop-byte-preserved c =
    let within : c.loop-byte.byte-index < length c.loop-byte.bytes = omega arith in
    map_over_more (λ byte. bit_xor byte c.args.pad) c.args.bytes.now c.loop-byte.bytes c.loop-byte.byte-index _ (omega arith) c.loop-byte.invariant
    (get_or_default _ _ _ _ within)
