-- How the links of metablocks follow from those of the metablocks behind the first.
use Rattle.std.proofs.Common.{◌≡◌, ℕ, ◌+◌, ◌<◌, List, [], ◌∷◌, ◌++◌, length, get_or, drop, map, sym, ap, subst, ◌∙◌, append_assoc}
use Rattle.std.proofs.lemmas.List.{at_drop_more, append-nil, length-append}
use Rattle.chain_block.specs.declared.meta_block.MetaBlock.{MetaBlock}
use Rattle.chain_block.specs.Tail.{tail_after, tail_of_list, tail_of_list-push}
use Rattle.chain_block.specs.Links.{Links}

module _ (blocks : List MetaBlock) (i : ℕ) (block : MetaBlock) (below : i < length blocks) (is : block ≡ get_or blocks i block) (tail : List ℕ) (height : ℕ) (to : List ℕ) where
  behind : drop i blocks ≡ block ∷ drop (i + 1) blocks
  behind = at_drop_more (λ bs. bs) blocks i block below ∙ ap (λ (b : MetaBlock). b ∷ drop (i + 1) blocks) (sym is)

  -- the first block fits, and the others follow on it
  pub first : Links (drop i blocks) tail height to → (block.height ≡ height) × (block.prev ≡ tail) × Links (drop (i + 1) blocks) (tail_after block.prev block.entry block.height) (height + 1) to
  first linked = subst (λ (bs : List MetaBlock). Links bs tail height to) behind linked

  pub one_more : (next : List ℕ) → next ≡ tail_after block.prev block.entry block.height → block.height ≡ height → block.prev ≡ tail → Links (drop (i + 1) blocks) next (height + 1) to → Links (drop i blocks) tail height to
  one_more next next_is height_is prev_is linked =
      let rest : Links (drop (i + 1) blocks) (tail_after block.prev block.entry block.height) (height + 1) to = subst (λ (t : List ℕ). Links (drop (i + 1) blocks) t (height + 1) to) next_is linked in
      subst (λ (bs : List MetaBlock). Links bs tail height to) (sym behind) (height_is, prev_is, rest)

  pub one_less : (next : List ℕ) → next ≡ tail_after block.prev block.entry block.height → Links (drop i blocks) tail height to → Links (drop (i + 1) blocks) next (height + 1) to
  one_less next next_is linked = subst (λ (t : List ℕ). Links (drop (i + 1) blocks) t (height + 1) to) (sym next_is) (first linked).2

-- blocks on the tail of some digests lead to the tail of these and their own
pub lead_to_tail : (below : List (List ℕ)) (blocks : List MetaBlock) (to : List ℕ) → Links blocks (tail_of_list below) (length below) to → to ≡ tail_of_list (below ++ map (λ block. block.entry) blocks)
lead_to_tail below [] to linked = sym linked ∙ ap tail_of_list (sym (append-nil below))
lead_to_tail below (block ∷ blocks) to linked =
    let more = below ++ block.entry ∷ [] in
    let tail_is : tail_after block.prev block.entry block.height ≡ tail_of_list more =
    ap (λ prev. tail_after prev block.entry block.height) linked.1 ∙ ap (tail_after (tail_of_list below) block.entry) linked.0 ∙ sym (tail_of_list-push below block.entry) in
    let count_is : length below + 1 ≡ length more = sym (length-append below (block.entry ∷ [])) in
    let rest : Links blocks (tail_of_list more) (length more) to =
    subst (λ (count : ℕ). Links blocks (tail_of_list more) count to) count_is (subst (λ (tail : List ℕ). Links blocks tail (length below + 1) to) tail_is linked.2) in
    lead_to_tail more blocks to rest ∙ ap tail_of_list (append_assoc below (block.entry ∷ []) (map (λ b. b.entry) blocks))
