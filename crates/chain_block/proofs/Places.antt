-- Parts that are put one after another into a list of one length.
use Rattle.std.proofs.Common.{◌≡◌, ℕ, ◌+◌, List, [], ◌++◌, length, take, drop, refl, sym, ap, ◌∙◌, arith}
use Rattle.std.proofs.lemmas.List.{take_at, drop-drop, append-nil, length-append, length-drop, nil_from_length}
use Rattle.std.proofs.Math.Seq.{drop-append-add}

-- behind what is in place already, the next part
pub placed : (zeros front part old new : List ℕ) (at : ℕ) → length front ≡ at → old ≡ front ++ drop at zeros
    → new ≡ take at old ++ part ++ drop (at + length part) old → new ≡ (front ++ part) ++ drop (at + length part) zeros
placed zeros front part old new at len e put =
    let before : take at old ≡ front = ap (take at) e ∙ take_at front (drop at zeros) at len in
    let behind : drop (at + length part) old ≡ drop (at + length part) zeros =
    ap (drop (at + length part)) e
    ∙ ap (λ n. drop (n + length part) (front ++ drop at zeros)) (sym len)
    ∙ drop-append-add front (drop at zeros) (length part)
    ∙ drop-drop (length part) at zeros in
    put ∙ rw (before, behind) refl

-- four parts fill the list
pub four_placed : (zeros a b c d one two three four : List ℕ) → length zeros ≡ 73 → length a ≡ 1 → length b ≡ 32 → length c ≡ 32 → length d ≡ 8
    → one ≡ take 0 zeros ++ a ++ drop (0 + length a) zeros → two ≡ take 1 one ++ b ++ drop (1 + length b) one
    → three ≡ take 33 two ++ c ++ drop (33 + length c) two → four ≡ take 65 three ++ d ++ drop (65 + length d) three
    → four ≡ a ++ b ++ c ++ d
four_placed zeros a b c d one two three four len la lb lc ld e1 e2 e3 e4 =
    let p1 : one ≡ a ++ drop 1 zeros = placed zeros [] a zeros one 0 refl refl e1 ∙ ap (λ n. a ++ drop (0 + n) zeros) la in
    let p2 : two ≡ (a ++ b) ++ drop 33 zeros = placed zeros a b one two 1 la p1 e2 ∙ ap (λ n. (a ++ b) ++ drop (1 + n) zeros) lb in
    let p3 : three ≡ (a ++ b ++ c) ++ drop 65 zeros = placed zeros (a ++ b) c two three 33 (omega (arith, length-append a b)) p2 e3 ∙ ap (λ n. (a ++ b ++ c) ++ drop (33 + n) zeros) lc in
    let p4 : four ≡ (a ++ b ++ c ++ d) ++ drop (65 + length d) zeros = placed zeros (a ++ b ++ c) d three four 65 (omega (arith, length-append a b, length-append (a ++ b) c)) p3 e4 in
    let end : drop (65 + length d) zeros ≡ [] = nil_from_length _ (omega (arith, length-drop (65 + length d) zeros)) in
    p4 ∙ ap (λ l. (a ++ b ++ c ++ d) ++ l) end ∙ append-nil (a ++ b ++ c ++ d)
