-- The tail of a ledger, by the digests of all its entries.
use Rattle.std.specs.Prelude.{◌≡◌, ℕ, List, [], ◌∷◌, ◌++◌, length, replicate, reverse, refl}
use Rattle.std.proofs.Common.{ap, ◌∙◌}
use Rattle.std.proofs.lemmas.List.{reverse-append, length-reverse}
use Rattle.sha2.specs.Sha256.{sha256}
use Rattle.chain_block.specs.Bytes.{metablock_bytes}

-- the tail after one more entry
abbrev pub tail_after : List ℕ → List ℕ → ℕ → List ℕ
tail_after prev entry height = sha256 (metablock_bytes prev entry height)

-- the tail of these digests, the newest first: 32 zeros where there is none
abbrev pub tail_of_newest_first : List (List ℕ) → List ℕ
tail_of_newest_first [] = replicate 32 0
tail_of_newest_first (digest ∷ older) = tail_after (tail_of_newest_first older) digest (length older)

-- the tail of these digests, the oldest first
unfoldable pub tail_of_list : List (List ℕ) → List ℕ
tail_of_list digests = tail_of_newest_first (reverse digests)

pub tail_of_list-none : tail_of_list [] ≡ replicate 32 0
unfolding tail_of_list
tail_of_list-none = refl

pub tail_of_list-push : (digests : List (List ℕ)) (digest : List ℕ) → tail_of_list (digests ++ digest ∷ []) ≡ tail_after (tail_of_list digests) digest (length digests)
unfolding tail_of_list
tail_of_list-push digests digest =
    ap tail_of_newest_first (reverse-append digests (digest ∷ []))
    ∙ ap (λ height. tail_after (tail_of_newest_first (reverse digests)) digest height) (length-reverse digests)
