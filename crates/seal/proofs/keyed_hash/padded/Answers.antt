-- The block is the key and what the zeros have behind its length.
use Rattle.std.proofs.Common.{◌≡◌, ◌++◌, ◌∙◌, ap, length, drop, replicate}
use Rattle.std.proofs.lemmas.List.{drop-replicate}
use Rattle.seal.specs.Hmac.{xor_each}
use Rattle.seal.proofs.keyed_hash.padded.Goals as goal

pub returns : goal.returns
returns c =
    let key = c.args.key.now in
    let whole : c.xor_each.new.bytes ≡ xor_each c.args.pad (c.copy_from_slice.new.self ++ drop (length key) (replicate 64 0)) = c.xor_each.ensures in
    whole ∙ ap (λ front. xor_each c.args.pad (front ++ drop (length key) (replicate 64 0))) c.copy_from_slice.ensures.after
    ∙ ap (λ rest. xor_each c.args.pad (key ++ rest)) (drop-replicate (length key) 64 0)
