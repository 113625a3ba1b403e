-- The parts of a row's bytes, and the bytes of numbers.
use Rattle.std.proofs.Common.{◌≡◌, ℕ, ◌+◌, List, ◌++◌, length, get_or, take, drop, sym, ap, ◌∙◌, append_assoc, inl, inr, arith}
use Rattle.std.proofs.lemmas.List.{take_at, drop_at, length-append, get_or-append-add, get_or_append_left, get_or_past}
use Rattle.std.proofs.lemmas.Bool.{cases_lt}
use Rattle.tail_map.specs.MapForm.{IsBytes}

-- what was taken from the front
pub taken : (n : ℕ) (old front rest : List ℕ) → length front ≡ n → old ≡ front ++ rest → (take n old ≡ front) × (drop n old ≡ rest) × (length old ≡ n + length rest)
taken n old front rest len e =
    (ap (take n) e ∙ take_at front rest n len, ap (drop n) e ∙ drop_at front rest n len, ap length e ∙ length-append front rest ∙ ap (λ (k : ℕ). k + length rest) len)

pub rest_bytes : (old front rest : List ℕ) → old ≡ front ++ rest → IsBytes old → IsBytes rest
rest_bytes old front rest e fits i =
    let at : get_or old (length front + i) 0 ≡ get_or rest i 0 = ap (λ (bs : List ℕ). get_or bs (length front + i) 0) e ∙ get_or-append-add front rest i 0 in
    omega (arith, at, fits (length front + i))

pub front_bytes : (old front rest : List ℕ) → old ≡ front ++ rest → IsBytes old → IsBytes front
front_bytes old front rest e fits i =
    elim (cases_lt i (length front)) [
      | inl lt ↦
          let at : get_or old i 0 ≡ get_or front i 0 = ap (λ (bs : List ℕ). get_or bs i 0) e ∙ get_or_append_left front rest 0 i lt in
          omega (arith, at, fits i)
      | inr past ↦ omega (arith, get_or_past front i 0 past)
    ]

-- a row's parts
pub row_parts : (text h t c rest : List ℕ) → length h ≡ 32 → length t ≡ 32 → length c ≡ 8 → text ≡ h ++ (t ++ (c ++ rest))
    → (take 32 text ≡ h) × (take 32 (drop 32 text) ≡ t) × (take 8 (drop 64 text) ≡ c) × (drop 72 text ≡ rest) × (length text ≡ 72 + length rest)
row_parts text h t c rest lh lt lc e =
    let a = taken 32 text h (t ++ (c ++ rest)) lh e in
    let b = taken 32 (drop 32 text) t (c ++ rest) lt a.1 in
    let ht : text ≡ (h ++ t) ++ (c ++ rest) = e ∙ sym (append_assoc h t (c ++ rest)) in
    let d = taken 64 text (h ++ t) (c ++ rest) (omega (arith, length-append h t)) ht in
    let f = taken 8 (drop 64 text) c rest lc d.1 in
    let htc : text ≡ ((h ++ t) ++ c) ++ rest = ht ∙ sym (append_assoc (h ++ t) c rest) in
    let g = taken 72 text ((h ++ t) ++ c) rest (omega (arith, length-append (h ++ t) c, length-append h t)) htc in
    (a.0, b.0, f.0, g.1, g.2)
