-- Rows in rising handles.
use Rattle.std.proofs.Common.{◌≡◌, ℕ, zero, suc, ◌+◌, ◌-◌, ◌<◌, List, [], ◌∷◌, ◌++◌, length, get_or, sym, ap, subst, ◌∙◌, arith}
use Rattle.std.specs.List.{AllByRecursion}
use Rattle.std.specs.Cmp.Lexicographic.{slice_cmp}
use Rattle.std.specs.Ordering.{nat_cmp, is_lt, ordering_index}
use Rattle.std.specs.List.Sorted.{IsSortedBy, IsNonDecreasingBy}
use Rattle.std.proofs.lemmas.Cmp.{nat_list_cmp_total}
use Rattle.std.proofs.lemmas.List.Elements.{All-from_recursion}
use Rattle.std.proofs.lemmas.List.Sorted.{searchable_from_sorted}
use Rattle.tail_map.specs.declared.tail_row.TailRow.{TailRow}
use Rattle.tail_map.specs.TailMap.{IsBelow, IsRising}
use Rattle.tail_map.specs.FormFault.{IsAbove}
use Rattle.tail_map.proofs.Order.{below_trans, greater_below}

-- what holds of each element, for a whole list from its parts
pub all_weaker : {X : Type 0} (P Q : X → Type 0) (xs : List X) → ((x : X) → P x → Q x) → AllByRecursion P xs → AllByRecursion Q xs
all_weaker P Q [] f all = tt
all_weaker P Q (x ∷ xs) f all = (f x all.0, all_weaker P Q xs f all.1)

pub all_append : {X : Type 0} (P : X → Type 0) (xs ys : List X) → AllByRecursion P xs → AllByRecursion P ys → AllByRecursion P (xs ++ ys)
all_append P [] ys p q = q
all_append P (x ∷ xs) ys p q = (p.0, all_append P xs ys p.1 q)

pub all_at_end : {X : Type 0} (P : X → Type 0) (xs : List X) (y : X) (ys : List X) → AllByRecursion P (xs ++ y ∷ ys) → P y
all_at_end P [] y ys all = all.0
all_at_end P (x ∷ xs) y ys all = all_at_end P xs y ys all.1

pub rising_push : (rows : List TailRow) (row : TailRow) → IsRising rows → IsAbove rows row.handle → IsRising (rows ++ row ∷ [])
rising_push [] row up above = (tt, tt)
rising_push (r ∷ rs) row up above =
    (all_append (λ (later : TailRow). IsBelow r.handle later.handle) rs (row ∷ []) up.0 (above.0, tt), rising_push rs row up.1 above.1)

-- a row that stands in the middle is above those before it
pub above_middle : (rows : List TailRow) (row : TailRow) (more : List TailRow) → IsRising (rows ++ row ∷ more) → IsAbove rows row.handle
above_middle [] row more up = tt
above_middle (r ∷ rs) row more up =
    (all_at_end (λ (later : TailRow). IsBelow r.handle later.handle) rs row more up.0, above_middle rs row more up.1)

-- what is above the last row is above each
pub above_last : (rows : List TailRow) (last : TailRow) (handle : List ℕ) → IsRising rows → last ≡ get_or rows (length rows - 1) last → IsBelow last.handle handle → IsAbove rows handle
above_last [] last handle up is below = tt
above_last (r ∷ []) last handle up is below = (subst (λ (row : TailRow). IsBelow row.handle handle) is below, tt)
above_last (r ∷ s ∷ rs) last handle up is below =
    let place : length (r ∷ s ∷ rs) - 1 ≡ suc (length (s ∷ rs) - 1) = omega arith in
    let rest = above_last (s ∷ rs) last handle up.1 (is ∙ ap (λ (i : ℕ). get_or (r ∷ s ∷ rs) i last) place) below in
    (below_trans r.handle s.handle handle up.0.0 rest.0, rest)

pub last_below : (rows : List TailRow) (last : TailRow) (handle : List ℕ) → 0 < length rows → last ≡ get_or rows (length rows - 1) last → IsAbove rows handle → IsBelow last.handle handle
last_below rows last handle some is above =
    let P : TailRow → Type 0 = λ row. IsBelow row.handle handle in
    subst P (sym is) (All-from_recursion P rows above (length rows - 1) last (omega arith))

pub rising_at : (rows : List TailRow) (i j : ℕ) (d : TailRow) → IsRising rows → i < j → j < length rows → IsBelow (get_or rows i d).handle (get_or rows j d).handle
rising_at [] i j d up lt below = absurd (omega arith)
rising_at (r ∷ rs) i zero d up lt below = absurd (omega arith)
rising_at (r ∷ rs) zero (suc j) d up lt below = All-from_recursion (λ (later : TailRow). IsBelow r.handle later.handle) rs up.0 j d (omega arith)
rising_at (r ∷ rs) (suc i) (suc j) d up lt below = rising_at rs i j d up.1 (omega arith) (omega arith)

-- what a binary search asks
pub searchable : (rows : List TailRow) (handle : List ℕ) → IsRising rows → IsNonDecreasingBy (λ row. ordering_index (slice_cmp nat_cmp row.handle handle)) rows
searchable rows handle up =
    let sorted : IsSortedBy (λ (a : TailRow) (b : TailRow). is_lt (slice_cmp nat_cmp a.handle b.handle)) rows =
    λ k d low high. ap is_lt (greater_below (get_or rows k d).handle (get_or rows (k + 1) d).handle (rising_at rows k (k + 1) d up (omega arith) high)) in
    searchable_from_sorted nat_list_cmp_total (λ (row : TailRow). row.handle) rows handle sorted
