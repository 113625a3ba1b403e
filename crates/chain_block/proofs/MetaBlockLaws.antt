-- Metablocks have bytes of their own, and these are read as they.
use Rattle.std.proofs.Common.{◌≡◌, ℕ, ◌<◌, ◌≤◌, ◌^◌, List, [], ◌∷◌, ◌++◌, length, refl, sym, ap, subst, ◌∙◌, append_assoc, arith}
use Rattle.std.specs.Int.{w8, w64, to_be_bytes, from_be_bytes}
use Rattle.std.proofs.lemmas.List.{append-nil, nil_from_length, length-append}
use Rattle.std.proofs.lemmas.Nat.{be_bytes_8}
use Rattle.chain_block.specs.Bytes.{metablock_bytes}
use Rattle.chain_block.specs.MetaBlock.{IsMetaBlock}
use Rattle.chain_block.proofs.Parts.{same_parts, same_number_8, IsBytes, IsBytes-rest}

parts : (prev entry : List ℕ) (height : ℕ) → metablock_bytes prev entry height ≡ (16 ∷ prev) ++ (entry ++ to_be_bytes w64 height)
parts prev entry height = append_assoc (16 ∷ prev) entry (to_be_bytes w64 height)

rest_of : (a b : List ℕ) → 16 ∷ a ≡ 16 ∷ b → a ≡ b
rest_of a b e = cc

pub own_bytes : (prev prev' entry entry' : List ℕ) (height height' : ℕ) → IsMetaBlock prev entry height → IsMetaBlock prev' entry' height'
    → metablock_bytes prev entry height ≡ metablock_bytes prev' entry' height' → (prev ≡ prev') × (entry ≡ entry') × (height ≡ height')
own_bytes prev prev' entry entry' height height' is is' e =
    let long : length (16 ∷ prev) ≡ 33 = omega (arith, is.0) in
    let long' : length (16 ∷ prev') ≡ 33 = omega (arith, is'.0) in
    let first = same_parts (16 ∷ prev) (16 ∷ prev') (entry ++ to_be_bytes w64 height) (entry' ++ to_be_bytes w64 height') 33 long long' (sym (parts prev entry height) ∙ e ∙ parts prev' entry' height') in
    let second = same_parts entry entry' (to_be_bytes w64 height) (to_be_bytes w64 height') 32 is.1 is'.1 first.1 in
    (rest_of prev prev' first.0, second.0, same_number_8 height height' is.2 is'.2 second.1)

one_byte : (k : List ℕ) → length k ≡ 1 → k ≡ from_be_bytes w8 k ∷ []
one_byte [] e = absurd (omega arith)
one_byte (x ∷ []) e = refl
one_byte (x ∷ y ∷ k) e = absurd (omega arith)

-- what is read has the bytes that were read
pub found : (bytes k r1 prev r2 entry r3 h rest : List ℕ) (kind height : ℕ) → IsBytes bytes → bytes ≡ k ++ r1 → length k ≡ 1 → kind ≡ from_be_bytes w8 k → kind ≡ 16 → r1 ≡ prev ++ r2 → r2 ≡ entry ++ r3
    → r3 ≡ h ++ rest → length h ≡ 8 → height ≡ from_be_bytes w64 h → length rest ≤ 0
    → (height < 2 ^ 64) × (bytes ≡ metablock_bytes prev entry height)
found bytes k r1 prev r2 entry r3 h rest kind height fits e lk ek ek' e1 e2 e3 lh eh none =
    let kind_is : k ≡ 16 ∷ [] = one_byte k lk ∙ ap (λ n. n ∷ []) (sym ek ∙ ek') in
    let end : h ++ rest ≡ h = ap (λ l. h ++ l) (nil_from_length rest (omega arith)) ∙ append-nil h in
    let all : bytes ≡ (16 ∷ []) ++ (prev ++ (entry ++ h)) = e ∙ ap (λ l. l ++ r1) kind_is ∙ ap (λ l. 16 ∷ l) (e1 ∙ ap (λ l. prev ++ l) (e2 ∙ ap (λ l. entry ++ l) (e3 ∙ end))) in
    let h_fits : IsBytes h = IsBytes-rest entry h (IsBytes-rest prev (entry ++ h) (IsBytes-rest (16 ∷ []) (prev ++ (entry ++ h)) (subst IsBytes all fits))) in (
      omega (arith, eh, h_fits 0, h_fits 1, h_fits 2, h_fits 3, h_fits 4, h_fits 5, h_fits 6, h_fits 7),
      all ∙ ap (λ l. 16 ∷ (prev ++ (entry ++ l))) (sym (be_bytes_8 h height lh h_fits eh)) ∙ sym (parts prev entry height),
    )

pub length-metablock_bytes : (prev entry : List ℕ) (height : ℕ) → length prev ≡ 32 → length entry ≡ 32 → length (metablock_bytes prev entry height) ≡ 73
length-metablock_bytes prev entry height lp le = omega (arith, length-append (16 ∷ prev ++ entry) (to_be_bytes w64 height), length-append (16 ∷ prev) entry)
