-- The lines of a text, and the text of lines.
use Rattle.std.proofs.Common.{◌≡◌, refl, sym, ap, subst, ◌∙◌, Bool, true, false, cond, ℕ, ◌+◌, ◌-◌, ◌≤◌, ◌<◌, List, [], ◌∷◌, ◌++◌, length, take, append_assoc, eqb, ltb, arith}
use Rattle.std.specs.List.{flat_map, join_with_byte, slice_split, onto_first}
use Rattle.std.proofs.lemmas.Bool.{eqb-true, ltb-true, ltb-false}
use Rattle.std.proofs.Math.Seq.{take-append_seam}
use Rattle.std.proofs.lemmas.List.{append-nil, take-append-le, take_all, take_more, length_push}
use Rattle.std.proofs.lemmas.List.Splits.{join_with_byte-slice_split}
use Rattle.std.proofs.lemmas.List.Concat.{flat_map-append}
use Rattle.fault_script.specs.Words.{word_at}
use Rattle.fault_script.specs.Script.{lines, without_empty_last}

-- lines, each with its line feed
abbrev pub ended : List (List ℕ) → List ℕ
ended ls = flat_map (λ line. line ++ 10 ∷ []) ls

abbrev parts : List ℕ → List (List ℕ)
parts text = slice_split (λ b. eqb b 10) text

ended_joined : (line : List ℕ) (ls : List (List ℕ)) → ended (line ∷ ls) ≡ join_with_byte 10 (line ∷ ls) ++ 10 ∷ []
ended_joined line [] = append-nil (line ++ 10 ∷ [])
ended_joined line (next ∷ ls) =
    ap (λ text. (line ++ 10 ∷ []) ++ text) (ended_joined next ls)
    ∙ append_assoc line (10 ∷ []) (join_with_byte 10 (next ∷ ls) ++ 10 ∷ [])
    ∙ sym (append_assoc line (10 ∷ join_with_byte 10 (next ∷ ls)) (10 ∷ []))

-- there is a first part
pub record Parts (ps : List (List ℕ)) : Type 0 where
  first : List ℕ
  rest : List (List ℕ)
  are : ps ≡ first ∷ rest

some_parts : (text : List ℕ) → Parts (parts text)
some_parts [] = record { first = []; rest = []; are = refl }
some_parts (b ∷ text) = by_test (eqb b 10) (parts text) (some_parts text) where
  by_test : (t : Bool) (ps : List (List ℕ)) → Parts ps → Parts (cond t ([] ∷ ps) (onto_first b ps))
  by_test true ps more = record { first = []; rest = ps; are = refl }
  by_test false ps more = record { first = b ∷ more.first; rest = more.rest; are = ap (onto_first b) more.are }

all_ended : (text : List ℕ) → ended (parts text) ≡ text ++ 10 ∷ []
all_ended text =
    let some = some_parts text in
    ap ended some.are ∙ ended_joined some.first some.rest ∙ ap (λ ps. join_with_byte 10 ps ++ 10 ∷ []) (sym some.are) ∙ ap (λ t. t ++ 10 ∷ []) (join_with_byte-slice_split 10 text)

cut_last : (xs ys : List ℕ) (x : ℕ) → xs ++ x ∷ [] ≡ ys ++ x ∷ [] → xs ≡ ys
cut_last xs ys x h =
    let size : length xs ≡ length ys = omega (arith, ap length h, length_push xs x, length_push ys x) in
    sym (take_all (length xs) xs (omega arith)) ∙ sym (take-append-le (length xs) xs (x ∷ []) (omega arith))
    ∙ ap (take (length xs)) h ∙ take-append-le (length xs) ys (x ∷ []) (omega (arith, size)) ∙ take_all (length xs) ys (omega (arith, size))

last_apart : (ps : List (List ℕ)) → 0 < length ps → ps ≡ take (length ps - 1) ps ++ word_at ps (length ps - 1) ∷ []
last_apart ps some =
    sym (take_all (length ps - 1 + 1) ps (omega arith)) ∙ take_more ps (length ps - 1) [] (omega arith)

no_bytes : (bytes : List ℕ) → length bytes ≡ 0 → bytes ≡ []
no_bytes [] h = refl
no_bytes (b ∷ bytes) h = absurd (omega arith)

-- a text ends with a line feed, or all its parts are lines
pub data Ending (text : List ℕ) : Type 0 where
  With : ended (lines text) ≡ text → Ending text
  Without : ended (lines text) ≡ text ++ 10 ∷ [] → lines text ≡ parts text → Ending text

ending_true : (text : List ℕ) → eqb (length (word_at (parts text) (length (parts text) - 1))) 0 ≡ true → Ending text
ending_true text e =
    let ps = parts text in
    let some = some_parts text in
    let ls : lines text ≡ take (length ps - 1) ps = ap (λ b. cond b (take (length ps - 1) ps) ps) e in
    let last : word_at ps (length ps - 1) ≡ [] = no_bytes (word_at ps (length ps - 1)) (eqb-true (length (word_at ps (length ps - 1))) 0 e) in
    let split : ps ≡ take (length ps - 1) ps ++ [] ∷ [] = last_apart ps (omega (arith, ap length some.are)) ∙ ap (λ l. take (length ps - 1) ps ++ l ∷ []) last in
    let cut : ended (take (length ps - 1) ps) ++ 10 ∷ [] ≡ text ++ 10 ∷ [] = sym (flat_map-append (λ line. line ++ 10 ∷ []) (take (length ps - 1) ps) ([] ∷ [])) ∙ ap ended (sym split) ∙ all_ended text in
    With (ap ended ls ∙ cut_last (ended (take (length ps - 1) ps)) text 10 cut)

ending_false : (text : List ℕ) → eqb (length (word_at (parts text) (length (parts text) - 1))) 0 ≡ false → Ending text
ending_false text e =
    let ps = parts text in
    let ls : lines text ≡ ps = ap (λ b. cond b (take (length ps - 1) ps) ps) e in
    Without (ap ended ls ∙ all_ended text) ls

ending : (text : List ℕ) → Ending text
ending text = by_last (eqb (length (word_at (parts text) (length (parts text) - 1))) 0) refl where
  by_last : (t : Bool) → eqb (length (word_at (parts text) (length (parts text) - 1))) 0 ≡ t → Ending text
  by_last true e = ending_true text e
  by_last false e = ending_false text e

onto_more : (t : Bool) (b : ℕ) (ps last : List (List ℕ)) → Parts ps → cond t ([] ∷ (ps ++ last)) (onto_first b (ps ++ last)) ≡ cond t ([] ∷ ps) (onto_first b ps) ++ last
onto_more true b ps last some = refl
onto_more false b ps last some =
    let P : List (List ℕ) → Type 0 = λ ps. onto_first b (ps ++ last) ≡ onto_first b ps ++ last in
    subst P (sym some.are) refl

-- a line feed more is a part more
one_part_more : (text : List ℕ) → parts (text ++ 10 ∷ []) ≡ parts text ++ [] ∷ []
one_part_more [] = refl
one_part_more (b ∷ text) =
    ap (λ ps. cond (eqb b 10) ([] ∷ ps) (onto_first b ps)) (one_part_more text) ∙ onto_more (eqb b 10) b (parts text) ([] ∷ []) (some_parts text)

without_last : (ps : List (List ℕ)) → without_empty_last (ps ++ [] ∷ []) ≡ ps
without_last ps =
    let n : length (ps ++ [] ∷ []) - 1 ≡ length ps = omega (arith, length_push ps []) in
    let Q : ℕ → List (List ℕ) = λ k. cond (eqb (length (word_at (ps ++ [] ∷ []) k)) 0) (take k (ps ++ [] ∷ [])) (ps ++ [] ∷ []) in
    ap Q n
    ∙ ap (λ l. cond (eqb (length l) 0) (take (length ps) (ps ++ [] ∷ [])) (ps ++ [] ∷ [])) (last_of ps)
    ∙ take-append_seam ps ([] ∷ []) where
      last_of : (qs : List (List ℕ)) → word_at (qs ++ [] ∷ []) (length qs) ≡ []
      last_of [] = refl
      last_of (q ∷ qs) = last_of qs

lines_more : (text : List ℕ) → lines (text ++ 10 ∷ []) ≡ parts text
lines_more text = ap without_empty_last (one_part_more text) ∙ without_last (parts text)

-- the text that is written has the lines of the one that was read
pub same_lines : (n : ℕ) (text whole : List ℕ) → length text ≤ n → whole ≡ ended (lines text) → lines (take n whole) ≡ lines text
same_lines n text whole fits is = by_ending (ending text) where
  by_room : (t : Bool) → ltb (length text) n ≡ t → whole ≡ text ++ 10 ∷ [] → lines text ≡ parts text → lines (take n whole) ≡ lines text
  by_room true e long all =
      ap lines (ap (take n) long ∙ take_all n (text ++ 10 ∷ []) (omega (arith, length_push text 10, ltb-true (length text) n e))) ∙ lines_more text ∙ sym all
  by_room false e long all =
      let full = ltb-false (length text) n e in
      ap lines (ap (take n) long ∙ take-append-le n text (10 ∷ []) full ∙ take_all n text fits)

  by_ending : Ending text → lines (take n whole) ≡ lines text
  by_ending (With same) = ap lines (ap (take n) (is ∙ same) ∙ take_all n text fits)
  by_ending (Without long all) = by_room (ltb (length text) n) refl (is ∙ long) all
