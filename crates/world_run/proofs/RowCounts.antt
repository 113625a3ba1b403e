-- How many rows a map has after one is set.
use Rattle.std.proofs.Common.{◌≡◌, ℕ, suc, ◌+◌, ◌<◌, ◌≤◌, Bool, true, false, ◌||◌, List, [], ◌∷◌, length, refl, sym, ap, ◌∙◌, arith}
use Rattle.std.specs.declared.cmp.Ordering.{Ordering}
use Rattle.std.specs.declared.cmp.Ordering.TheVariants.{Less, Equal, Greater}
use Rattle.std.specs.Cmp.Lexicographic.{slice_cmp}
use Rattle.std.specs.Ordering.{nat_cmp, is_eq, ordering_reverse}
use Rattle.std.specs.List.{AllByRecursion}
use Rattle.std.specs.Str.{bytes_eq}
use Rattle.std.proofs.lemmas.Cmp.{nat_list_cmp_total}
use Rattle.std.proofs.lemmas.Map.Text.{is_eq-slice_cmp}
use Rattle.tail_map.specs.declared.tail_row.TailRow.{TailRow}
use Rattle.tail_map.specs.TailMap.{IsBelow, IsRising, get, has_handle, set}

by_order : {G : Type 0} (o : Ordering) → (o ≡ Less → G) → (o ≡ Equal → G) → (o ≡ Greater → G) → G
by_order Less less equal greater = less refl
by_order Equal less equal greater = equal refl
by_order Greater less equal greater = greater refl

pub one_row_more : (rows : List TailRow) (row : TailRow) → length (set rows row) ≤ length rows + 1
one_row_more [] row = omega arith
one_row_more (first ∷ rows) row = by_order (slice_cmp nat_cmp first.handle row.handle)
    (λ e. rw e (let rest = one_row_more rows row in omega (arith, rest)))
    (λ e. rw e (omega arith))
    (λ e. rw e (omega arith))

other_bytes : (one other : List ℕ) (o : Ordering) → slice_cmp nat_cmp one other ≡ o → is_eq o ≡ false → bytes_eq one other ≡ false
other_bytes one other o e unlike = sym (is_eq-slice_cmp one other) ∙ ap is_eq e ∙ unlike

-- what is below all handles is none of them
none_above : (rows : List TailRow) (handle : List ℕ) → AllByRecursion (λ (row : TailRow). IsBelow handle row.handle) rows → has_handle rows handle ≡ false
none_above [] handle all = refl
none_above (row ∷ rows) handle all =
    let greater : slice_cmp nat_cmp row.handle handle ≡ Greater = nat_list_cmp_total.antisymm row.handle handle ∙ ap ordering_reverse all.0 in
    rw (other_bytes row.handle handle Greater greater refl) (none_above rows handle all.1)

lower : (one other : List ℕ) (rows : List TailRow) → IsBelow one other → AllByRecursion (λ (row : TailRow). IsBelow other row.handle) rows → AllByRecursion (λ (row : TailRow). IsBelow one row.handle) rows
lower one other [] below all = tt
lower one other (row ∷ rows) below all = (nat_list_cmp_total.trans one other row.handle below all.0, lower one other rows below all.1)

second_test : (a b : Bool) → a ≡ false → (a || b) ≡ true → b ≡ true
second_test true b unlike e = absurd cc
second_test false b unlike e = e

-- where a row stands already, it is written over
pub no_row_more : (rows : List TailRow) (row : TailRow) → IsRising rows → has_handle rows row.handle ≡ true → length (set rows row) ≡ length rows
no_row_more [] row rising has = absurd cc
no_row_more (first ∷ rows) row rising has = by_order (slice_cmp nat_cmp first.handle row.handle)
    (λ e.
    let differ : bytes_eq first.handle row.handle ≡ false = other_bytes first.handle row.handle Less e refl in
    let rest : has_handle rows row.handle ≡ true = second_test (bytes_eq first.handle row.handle) (has_handle rows row.handle) differ has in
    rw e (ap suc (no_row_more rows row rising.1 rest)))
    (λ e. rw e refl)
    (λ e.
    let below : IsBelow row.handle first.handle = nat_list_cmp_total.antisymm row.handle first.handle ∙ ap ordering_reverse e in
    let none : has_handle rows row.handle ≡ false = none_above rows row.handle (lower row.handle first.handle rows below rising.0) in
    let not : has_handle (first ∷ rows) row.handle ≡ false = rw (other_bytes first.handle row.handle Greater e refl) none in
    absurd (cc (has, not)))

-- a handle whose count isn't 0 has a row
pub counted_row : (rows : List TailRow) (handle tail : List ℕ) (count : ℕ) → get rows handle ≡ (tail, count) → 0 < count → has_handle rows handle ≡ true
counted_row [] handle tail count is some = let zero : 0 ≡ count = ap (λ (p : List ℕ × ℕ). p.1) is in absurd (omega (arith, zero, some))
counted_row (row ∷ rows) handle tail count is some = go (bytes_eq row.handle handle) refl (counted_row rows handle tail count) where
  go : (b : Bool) → bytes_eq row.handle handle ≡ b → (get rows handle ≡ (tail, count) → 0 < count → has_handle rows handle ≡ true) → (bytes_eq row.handle handle || has_handle rows handle) ≡ true
  go true e rest = rw e refl
  go false e rest =
      let same : get (row ∷ rows) handle ≡ get rows handle = rw e refl in
      rw e (rest (sym same ∙ is) some)
