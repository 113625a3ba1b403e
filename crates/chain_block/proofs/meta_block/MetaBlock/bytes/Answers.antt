use Rattle.std.proofs.Common.{◌≡◌, ◌∷◌, [], ◌++◌, replicate, rules, ap, ◌∙◌}
use Rattle.std.specs.Int.{w64, to_be_bytes}
use Rattle.chain_block.proofs.Places.{four_placed}
use Rattle.chain_block.proofs.meta_block.MetaBlock.bytes.Goals as goal

pub returns : goal.returns
returns c =
    let height_is : c.to_be_bytes.result ≡ to_be_bytes w64 c.args.self.now.height = search rules in
    let prev = c.self.inside.0.0.0 in
    let entry = c.self.inside.0.1.0.0 in
    rw (← c.self.view_is)
    (four_placed (replicate 73 0) (16 ∷ []) prev entry c.to_be_bytes.result _ _ _ _ (search rules) (search rules) (search rules) (search rules) (search rules) c.place.ensures c.place-2.ensures c.place-3.ensures c.place-4.ensures
    ∙ (rw (← c.self.view_is) at (ap (λ bytes. 16 ∷ prev ++ entry ++ bytes) height_is)))
