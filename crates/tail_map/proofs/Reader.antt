-- Reading as a function of the bytes: what a map writes is read as it.
use Rattle.std.proofs.Common.{◌≡◌, ℕ, zero, suc, ◌+◌, ◌^◌, ◌≤◌, Bool, true, false, cond, ltb, leb, eqb, ◌&&◌, List, [], ◌∷◌, ◌++◌, length, take, drop, Result, Ok, Err, refl, sym, ap, subst, ◌∙◌, append_assoc, arith}
use Rattle.std.specs.Cmp.Lexicographic.{slice_cmp}
use Rattle.std.specs.Ordering.{nat_cmp, is_lt}
use Rattle.std.specs.List.{flat_map, AllByRecursion}
use Rattle.std.specs.Int.{w32, w64, from_be_bytes, to_be_bytes}
use Rattle.std.proofs.lemmas.Bool.{lt-ltb, le-ltb, le-leb, and_from, and_parts, false_from_ne_true, leb-true, ltb-true}
use Rattle.std.proofs.lemmas.List.{append-nil}
use Rattle.std.proofs.lemmas.List.Concat.{flat_map-cons}
use Rattle.std.proofs.lemmas.Nat.{from_be_bytes-to_be_bytes_4, from_be_bytes-to_be_bytes_8}
use Rattle.nim_base.specs.declared.form_fault.FormFault.{FormFault}
use Rattle.nim_base.specs.declared.form_fault.FormFault.TheVariants.{Short, Kind, Value, Order, Trailing}
use Rattle.tail_map.specs.declared.tail_row.TailRow.{TailRow}
use Rattle.tail_map.specs.TailMap.{IsCount, IsRising, IsRow, IsMap}
use Rattle.tail_map.specs.MapForm.{row_bytes, head_bytes, map_bytes}
use Rattle.tail_map.specs.FormFault.{IsAbove}
use Rattle.tail_map.proofs.Order.{is_less}
use Rattle.tail_map.proofs.Rising.{above_middle}
use Rattle.tail_map.proofs.Texts.{row_parts, taken}

unfoldable pub above : List TailRow → List ℕ → Bool
above [] handle = true
above (r ∷ rs) handle = is_lt (slice_cmp nat_cmp r.handle handle) && above rs handle

pub above_true : (rows : List TailRow) (handle : List ℕ) → IsAbove rows handle → above rows handle ≡ true
unfolding above
above_true [] handle all = refl
above_true (r ∷ rs) handle all = and_from _ _ (ap is_lt all.0) (above_true rs handle all.1)

above_is : (rows : List TailRow) (handle : List ℕ) → above rows handle ≡ true → IsAbove rows handle
unfolding above
above_is [] handle e = tt
above_is (r ∷ rs) handle e = let both = and_parts (is_lt (slice_cmp nat_cmp r.handle handle)) (above rs handle) e in (is_less _ both.0, above_is rs handle both.1)

pub above_false : (rows : List TailRow) (handle : List ℕ) → (IsAbove rows handle → ⊥) → above rows handle ≡ false
above_false rows handle not_above = false_from_ne_true (above rows handle) (λ e. not_above (above_is rows handle e))

unfoldable pub counts : ℕ → Bool
counts n = ltb 0 n && leb n (2 ^ 32)

pub counts_true : (n : ℕ) → IsCount n → counts n ≡ true
unfolding counts
counts_true n h = and_from _ _ (lt-ltb 0 n h.0) (le-leb n (2 ^ 32) h.1)

pub counts_false : (n : ℕ) → (IsCount n → ⊥) → counts n ≡ false
unfolding counts
counts_false n not_count = false_from_ne_true _ (λ e. let both = and_parts (ltb 0 n) (leb n (2 ^ 32)) e in not_count (ltb-true 0 n both.0, leb-true n (2 ^ 32) both.1))

-- one row behind those before it, and the bytes after it
unfoldable pub row_at : List TailRow → List ℕ → Result (TailRow × List ℕ) FormFault
row_at rows text =
    cond (ltb (length text) 32) (Err Short) (cond (above rows (take 32 text)) (cond (ltb (length text) 72) (Err Short)
    (cond (counts (from_be_bytes w64 (take 8 (drop 64 text))))
    (Ok (record { handle = take 32 text; tail = take 32 (drop 32 text); count = from_be_bytes w64 (take 8 (drop 64 text)) }, drop 72 text))
    (Err Value))) (Err Order))

row_from_parts : (rows : List TailRow) (row : TailRow) (text rest : List ℕ) → IsRow row → IsAbove rows row.handle → text ≡ row.handle ++ (row.tail ++ (to_be_bytes w64 row.count ++ rest)) → row_at rows text ≡ Ok (row, rest)
unfolding row_at
row_from_parts rows row text rest fits over e =
    let p = row_parts text row.handle row.tail (to_be_bytes w64 row.count) rest fits.handle fits.tail refl e in
    let number : from_be_bytes w64 (take 8 (drop 64 text)) ≡ row.count = ap (from_be_bytes w64) p.2 ∙ from_be_bytes-to_be_bytes_8 row.count (omega (arith, fits.count.1)) in
    rw (le-ltb (length text) 32 (omega (arith, p.4)), p.0, above_true rows row.handle over, le-ltb (length text) 72 (omega (arith, p.4)), number, counts_true row.count fits.count, p.1, p.3) refl

row_again : (rows : List TailRow) (row : TailRow) (rest : List ℕ) → IsRow row → IsAbove rows row.handle → row_at rows (row_bytes row ++ rest) ≡ Ok (row, rest)
row_again rows row rest fits over =
    let regrouped : row_bytes row ++ rest ≡ row.handle ++ (row.tail ++ (to_be_bytes w64 row.count ++ rest)) =
    append_assoc (row.handle ++ row.tail) (to_be_bytes w64 row.count) rest ∙ append_assoc row.handle row.tail (to_be_bytes w64 row.count ++ rest) in
    row_from_parts rows row (row_bytes row ++ rest) rest fits over regrouped

infixl 10 ◌>>=◌
abbrev pub ◌>>=◌ : {A B : Type 0} → Result A FormFault → (A → Result B FormFault) → Result B FormFault
(Ok x) >>= f = f x
(Err e) >>= f = Err e

-- this many more rows behind those before them, and then nothing
unfoldable pub rows_at : ℕ → List TailRow → List ℕ → Result (List TailRow) FormFault
rows_at zero rows [] = Ok rows
rows_at zero rows (b ∷ rest) = Err Trailing
rows_at (suc n) rows text = row_at rows text >>= λ x. rows_at n (rows ++ x.0 ∷ []) x.1

pub rows_again : (n : ℕ) (before rows : List TailRow) (rest : List ℕ) → IsRising (before ++ rows) → AllByRecursion IsRow rows
    → rows_at (length rows + n) before (flat_map row_bytes rows ++ rest) ≡ rows_at n (before ++ rows) rest
unfolding rows_at
rows_again n before [] rest up each =
    let none : 0 + n ≡ n = omega arith in
    rw (none, append-nil before) refl
rows_again n before (r ∷ rs) rest up each =
    let more : length (r ∷ rs) + n ≡ suc (length rs + n) = omega arith in
    let regrouped : flat_map row_bytes (r ∷ rs) ++ rest ≡ row_bytes r ++ (flat_map row_bytes rs ++ rest) =
    ap (λ (bs : List ℕ). bs ++ rest) (flat_map-cons row_bytes r rs) ∙ append_assoc (row_bytes r) (flat_map row_bytes rs) rest in
    let joined : (before ++ r ∷ []) ++ rs ≡ before ++ r ∷ rs = append_assoc before (r ∷ []) rs in
    let one = row_again before r (flat_map row_bytes rs ++ rest) each.0 (above_middle before r rs up) in
    let step : rows_at (suc (length rs + n)) before (row_bytes r ++ (flat_map row_bytes rs ++ rest)) ≡ rows_at (length rs + n) (before ++ r ∷ []) (flat_map row_bytes rs ++ rest) =
    ap (λ (read : Result (TailRow × List ℕ) FormFault). read >>= λ x. rows_at (length rs + n) (before ++ x.0 ∷ []) x.1) one in
    ap (λ (k : ℕ). rows_at k before (flat_map row_bytes (r ∷ rs) ++ rest)) more
    ∙ ap (rows_at (suc (length rs + n)) before) regrouped ∙ step
    ∙ rows_again n (before ++ r ∷ []) rs rest (subst IsRising (sym joined) up) each.1
    ∙ ap (λ (rows : List TailRow). rows_at n rows rest) joined

-- the whole
unfoldable pub map_at : List ℕ → Result (List TailRow) FormFault
map_at [] = Err Short
map_at (kind ∷ text) =
    cond (eqb kind 48) (cond (ltb (length text) 4) (Err Short) (cond (ltb 4096 (from_be_bytes w32 (take 4 text))) (Err Value) (rows_at (from_be_bytes w32 (take 4 text)) [] (drop 4 text)))) (Err Kind)

head_from_parts : (number : ℕ) (text rest : List ℕ) → number ≤ 4096 → text ≡ to_be_bytes w32 number ++ rest → map_at (48 ∷ text) ≡ rows_at number [] rest
unfolding map_at
head_from_parts number text rest few e =
    let p = taken 4 text (to_be_bytes w32 number) rest refl e in
    let is : from_be_bytes w32 (take 4 text) ≡ number = ap (from_be_bytes w32) p.0 ∙ from_be_bytes-to_be_bytes_4 number (omega arith) in
    rw (le-ltb (length text) 4 (omega (arith, p.2)), is, le-ltb 4096 number few, p.1) refl

pub head_again : (number : ℕ) (rest : List ℕ) → number ≤ 4096 → map_at (head_bytes number ++ rest) ≡ rows_at number [] rest
head_again number rest few = head_from_parts number (to_be_bytes w32 number ++ rest) rest few refl

pub map_again : (rows : List TailRow) → IsMap rows → map_at (map_bytes rows) ≡ Ok rows
unfolding rows_at
map_again rows map =
    let count : length rows ≡ length rows + 0 = omega arith in
    head_again (length rows) (flat_map row_bytes rows) map.few
    ∙ ap (λ (k : ℕ). rows_at k [] (flat_map row_bytes rows)) count
    ∙ ap (rows_at (length rows + 0) []) (sym (append-nil (flat_map row_bytes rows)))
    ∙ rows_again 0 [] rows [] map.rising map.each

abbrev done : List TailRow → Result (List TailRow) FormFault
done rows = Ok rows

ok_is : (a b : List TailRow) → done a ≡ done b → a ≡ b
ok_is a b e = cc

pub one_map : (a b : List TailRow) → IsMap a → IsMap b → map_bytes a ≡ map_bytes b → a ≡ b
one_map a b p q e = ok_is a b (sym (map_again a p) ∙ ap map_at e ∙ map_again b q)
