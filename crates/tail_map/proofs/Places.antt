-- What a search finds among rising rows, and what an edit at that place does.
use Rattle.std.proofs.Common.{◌≡◌, ℕ, zero, suc, ◌<◌, ◌≤◌, true, false, List, [], ◌∷◌, length, get_or, replicate, Result, Ok, Err, is_ok, refl, ap, subst, arith}
use Rattle.std.specs.Prelude.{slice_set}
use Rattle.std.specs.List.{insert}
use Rattle.std.specs.declared.cmp.Ordering.TheVariants.{Less, Equal, Greater}
use Rattle.std.specs.Cmp.Lexicographic.{slice_cmp}
use Rattle.std.specs.Ordering.{nat_cmp}
use Rattle.std.specs.List.Sorted.{IsPartitionPoint, IsBinarySearchResult, IsSearchInRange}
use Rattle.std.proofs.lemmas.List.Elements.{All-from_recursion}
use Rattle.tail_map.specs.declared.tail_row.TailRow.{TailRow}
use Rattle.tail_map.specs.TailMap.{IsBelow, IsRising, get, set, has_handle}
use Rattle.tail_map.proofs.Order.{bytes_eq_equal, bytes_eq_less, bytes_eq_greater, equal_is}
use Rattle.tail_map.proofs.Rising.{searchable}

-- ---- the handle stands at place i

first_other : (r : TailRow) (rs : List TailRow) (handle : List ℕ) (i : ℕ) (d : TailRow) → IsRising (r ∷ rs) → i < length rs → slice_cmp nat_cmp (get_or rs i d).handle handle ≡ Equal → IsBelow r.handle handle
first_other r rs handle i d up below same =
    let later : IsBelow r.handle (get_or rs i d).handle = All-from_recursion (λ (later : TailRow). IsBelow r.handle later.handle) rs up.0 i d below in
    subst (λ (h : List ℕ). IsBelow r.handle h) (equal_is (get_or rs i d).handle handle same) later

pub get_at : (rows : List TailRow) (handle : List ℕ) (i : ℕ) (d : TailRow) → IsRising rows → i < length rows → slice_cmp nat_cmp (get_or rows i d).handle handle ≡ Equal
    → get rows handle ≡ ((get_or rows i d).tail, (get_or rows i d).count)
get_at [] handle i d up below same = absurd (omega arith)
get_at (r ∷ rs) handle zero d up below same = rw (bytes_eq_equal r.handle handle same) refl
get_at (r ∷ rs) handle (suc i) d up below same =
    let lt : i < length rs = omega arith in
    rw (bytes_eq_less r.handle handle (first_other r rs handle i d up lt same)) (get_at rs handle i d up.1 lt same)

pub has_at : (rows : List TailRow) (handle : List ℕ) (i : ℕ) (d : TailRow) → IsRising rows → i < length rows → slice_cmp nat_cmp (get_or rows i d).handle handle ≡ Equal → has_handle rows handle ≡ true
has_at [] handle i d up below same = absurd (omega arith)
has_at (r ∷ rs) handle zero d up below same = rw (bytes_eq_equal r.handle handle same) refl
has_at (r ∷ rs) handle (suc i) d up below same =
    let lt : i < length rs = omega arith in
    rw (bytes_eq_less r.handle handle (first_other r rs handle i d up lt same)) (has_at rs handle i d up.1 lt same)

pub set_at : (rows : List TailRow) (row : TailRow) (i : ℕ) (d : TailRow) → IsRising rows → i < length rows → slice_cmp nat_cmp (get_or rows i d).handle row.handle ≡ Equal → set rows row ≡ slice_set rows i row
set_at [] row i d up below same = absurd (omega arith)
set_at (r ∷ rs) row zero d up below same = rw same refl
set_at (r ∷ rs) row (suc i) d up below same =
    let lt : i < length rs = omega arith in
    rw (first_other r rs row.handle i d up lt same) (ap (λ (rows : List TailRow). r ∷ rows) (set_at rs row i d up.1 lt same))

-- ---- the handle is absent, and would stand at place i

abbrev pub Parts : List TailRow → List ℕ → ℕ → Type 0
Parts rows handle i = IsPartitionPoint (λ row. slice_cmp nat_cmp row.handle handle ≡ Less) (λ row. slice_cmp nat_cmp row.handle handle ≡ Greater) rows i

pub parts : (rows : List TailRow) (handle : List ℕ) (i : ℕ) → IsRising rows → IsBinarySearchResult (λ row. slice_cmp nat_cmp row.handle handle) rows (Err i) → Parts rows handle i
parts rows handle i up found = found (searchable rows handle up)

parts_rest : (r : TailRow) (rs : List TailRow) (handle : List ℕ) (i : ℕ) → Parts (r ∷ rs) handle (suc i) → Parts rs handle i
parts_rest r rs handle i p = (λ k d low high. p.0 (suc k) d (omega arith) (omega arith), λ k d low high. p.1 (suc k) d (omega arith) (omega arith))

parts_none : (r : TailRow) (rs : List TailRow) (handle : List ℕ) → Parts (r ∷ rs) handle zero → Parts rs handle zero
parts_none r rs handle p = (λ k d low high. absurd (omega arith), λ k d low high. p.1 (suc k) d (omega arith) (omega arith))

pub get_gap : (rows : List TailRow) (handle : List ℕ) (i : ℕ) → Parts rows handle i → get rows handle ≡ (replicate 32 0, 0)
get_gap [] handle i p = refl
get_gap (r ∷ rs) handle zero p = rw (bytes_eq_greater r.handle handle (p.1 0 r (omega arith) (omega arith))) (get_gap rs handle zero (parts_none r rs handle p))
get_gap (r ∷ rs) handle (suc i) p = rw (bytes_eq_less r.handle handle (p.0 0 r (omega arith) (omega arith))) (get_gap rs handle i (parts_rest r rs handle i p))

pub has_gap : (rows : List TailRow) (handle : List ℕ) (i : ℕ) → Parts rows handle i → has_handle rows handle ≡ false
has_gap [] handle i p = refl
has_gap (r ∷ rs) handle zero p = rw (bytes_eq_greater r.handle handle (p.1 0 r (omega arith) (omega arith))) (has_gap rs handle zero (parts_none r rs handle p))
has_gap (r ∷ rs) handle (suc i) p = rw (bytes_eq_less r.handle handle (p.0 0 r (omega arith) (omega arith))) (has_gap rs handle i (parts_rest r rs handle i p))

pub set_gap : (rows : List TailRow) (row : TailRow) (i : ℕ) → i ≤ length rows → Parts rows row.handle i → set rows row ≡ insert rows i row
set_gap [] row zero le p = refl
set_gap [] row (suc i) le p = absurd (omega arith)
set_gap (r ∷ rs) row zero le p = rw (p.1 0 r (omega arith) (omega arith)) refl
set_gap (r ∷ rs) row (suc i) le p =
    rw (p.0 0 r (omega arith) (omega arith)) (ap (λ (rows : List TailRow). r ∷ rows) (set_gap rs row i (omega arith) (parts_rest r rs row.handle i p)))

pub has_found : (rows : List TailRow) (handle : List ℕ) (r : Result ℕ ℕ) → IsRising rows → IsSearchInRange r (length rows) → IsBinarySearchResult (λ row. slice_cmp nat_cmp row.handle handle) rows r
    → has_handle rows handle ≡ is_ok r
has_found [] handle (Ok i) up range found = absurd (omega arith)
has_found (row ∷ rows) handle (Ok i) up range found = has_at (row ∷ rows) handle i row up range (found row)
has_found rows handle (Err i) up range found = has_gap rows handle i (parts rows handle i up found)
