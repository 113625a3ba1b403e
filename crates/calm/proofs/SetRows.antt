-- Maps in which a row is set.
use Rattle.std.proofs.Common.{◌≡◌, inl, inr, ℕ, ◌+◌, ◌<◌, ◌≤◌, true, false, List, [], ◌∷◌, length, refl, sym, subst, ap, ◌∙◌, arith}
use Rattle.std.specs.Prelude.{bytes_eq}
use Rattle.std.specs.declared.cmp.Ordering.{Ordering}
use Rattle.std.specs.declared.cmp.Ordering.TheVariants.{Less, Equal, Greater}
use Rattle.std.specs.Cmp.Lexicographic.{slice_cmp}
use Rattle.std.specs.List.{AllByRecursion}
use Rattle.std.specs.Ordering.{nat_cmp, is_eq, ordering_reverse}
use Rattle.std.proofs.lemmas.Bool.{cases_Bool}
use Rattle.std.proofs.lemmas.Cmp.{nat_list_cmp_total}
use Rattle.std.proofs.lemmas.Map.Text.{is_eq-slice_cmp}
use Rattle.std.proofs.lemmas.Slice.Eq.{bytes_eq-Decides}
use Rattle.tail_map.specs.declared.tail_row.TailRow.{TailRow}
use Rattle.tail_map.specs.TailMap.{IsBelow, IsRising, IsRow, IsMap, get, has_handle, set}
use Rattle.calm.specs.Appending.{HasRoom}

by_order : {G : Type 0} (o : Ordering) → (o ≡ Less → G) → (o ≡ Equal → G) → (o ≡ Greater → G) → G
by_order Less less equal greater = less refl
by_order Equal less equal greater = equal refl
by_order Greater less equal greater = greater refl

same_handle : (a b : List ℕ) → slice_cmp nat_cmp a b ≡ Equal → bytes_eq a b ≡ true
same_handle a b e = sym (is_eq-slice_cmp a b) ∙ ap is_eq e

other_handle : (a b : List ℕ) → slice_cmp nat_cmp a b ≡ Less → bytes_eq a b ≡ false
other_handle a b e = sym (is_eq-slice_cmp a b) ∙ ap is_eq e

later_handle : (a b : List ℕ) → slice_cmp nat_cmp a b ≡ Greater → bytes_eq a b ≡ false
later_handle a b e = sym (is_eq-slice_cmp a b) ∙ ap is_eq e

all_set : (P : TailRow → Type 0) (rows : List TailRow) (row : TailRow) → AllByRecursion P rows → P row → AllByRecursion P (set rows row)
all_set P [] row all one = (one, tt)
all_set P (r ∷ rs) row all one = by_order (slice_cmp nat_cmp r.handle row.handle)
    (λ e. rw e (all.0, all_set P rs row all.1 one))
    (λ e. rw e (one, all.1))
    (λ e. rw e (one, all))

all_weaker : {X : Type 0} (P Q : X → Type 0) (xs : List X) → ((x : X) → P x → Q x) → AllByRecursion P xs → AllByRecursion Q xs
all_weaker P Q [] f all = tt
all_weaker P Q (x ∷ xs) f all = (f x all.0, all_weaker P Q xs f all.1)

rising_set : (rows : List TailRow) (row : TailRow) → IsRising rows → IsRising (set rows row)
rising_set [] row up = (tt, tt)
rising_set (r ∷ rs) row up = by_order (slice_cmp nat_cmp r.handle row.handle)
    (λ e. rw e (all_set (λ (later : TailRow). IsBelow r.handle later.handle) rs row up.0 e, rising_set rs row up.1))
    (λ e.
    let same : r.handle ≡ row.handle = (bytes_eq-Decides r.handle row.handle).0 (same_handle r.handle row.handle e) in
    rw e (subst (λ (h : List ℕ). AllByRecursion (λ (later : TailRow). IsBelow h later.handle) rs) same up.0, up.1))
    (λ e.
    let under : IsBelow row.handle r.handle = nat_list_cmp_total.antisymm row.handle r.handle ∙ ap ordering_reverse e in
    rw e ((under, all_weaker (λ (later : TailRow). IsBelow r.handle later.handle) (λ (later : TailRow). IsBelow row.handle later.handle) rs (λ later p. nat_list_cmp_total.trans row.handle r.handle later.handle under p) up.0), up))

-- one row more at most, and none where the handle has one
length_set : (rows : List TailRow) (row : TailRow) → length (set rows row) ≤ length rows + 1
length_set [] row = omega arith
length_set (r ∷ rs) row = by_order (slice_cmp nat_cmp r.handle row.handle)
    (λ e. rw e (let more = length_set rs row in omega (arith, more)))
    (λ e. rw e (omega arith))
    (λ e. rw e (omega arith))

none_below : (rows : List TailRow) (handle : List ℕ) → AllByRecursion (λ (later : TailRow). IsBelow handle later.handle) rows → has_handle rows handle ≡ false
none_below [] handle all = refl
none_below (r ∷ rs) handle all =
    let greater : slice_cmp nat_cmp r.handle handle ≡ Greater = nat_list_cmp_total.antisymm r.handle handle ∙ ap ordering_reverse all.0 in
    rw (later_handle r.handle handle greater) (none_below rs handle all.1)

length_held : (rows : List TailRow) (row : TailRow) → IsRising rows → has_handle rows row.handle ≡ true → length (set rows row) ≡ length rows
length_held [] row up has = absurd cc
length_held (r ∷ rs) row up has = by_order (slice_cmp nat_cmp r.handle row.handle)
    (λ e. let there : has_handle rs row.handle ≡ true = rw (other_handle r.handle row.handle e) at has in rw e (let more = length_held rs row up.1 there in omega (arith, more)))
    (λ e. rw e refl)
    (λ e.
    let under : IsBelow row.handle r.handle = nat_list_cmp_total.antisymm row.handle r.handle ∙ ap ordering_reverse e in
    let none = none_below rs row.handle (all_weaker (λ (later : TailRow). IsBelow r.handle later.handle) (λ (later : TailRow). IsBelow row.handle later.handle) rs (λ later p. nat_list_cmp_total.trans row.handle r.handle later.handle under p) up.0) in
    let there : has_handle rs row.handle ≡ true = rw (later_handle r.handle row.handle e) at has in
    absurd cc)

few_set : (rows : List TailRow) (row : TailRow) → IsMap rows → HasRoom rows row.handle → length (set rows row) ≤ 4096
few_set rows row map (inl has) = let same = length_held rows row map.rising has in let few = map.few in omega (arith, same, few)
few_set rows row map (inr few) = let more = length_set rows row in omega (arith, more, few)

pub map_set : (rows : List TailRow) (row : TailRow) → IsMap rows → IsRow row → HasRoom rows row.handle → IsMap (set rows row)
map_set rows row map one room = record {
  rising = rising_set rows row map.rising;
  each = all_set IsRow rows row map.each one;
  few = few_set rows row map room;
}

-- a handle has a row where its count is above 0
pub has_row : (rows : List TailRow) (handle : List ℕ) → 0 < (get rows handle).1 → has_handle rows handle ≡ true
has_row [] handle some = absurd (omega (arith, some))
has_row (r ∷ rs) handle some =
    elim (cases_Bool (bytes_eq r.handle handle)) [
      | inl same ↦ rw same refl
      | inr other ↦ let rest : 0 < (get rs handle).1 = rw other at some in rw other (has_row rs handle rest)
    ]

pub no_row : (rows : List TailRow) (handle : List ℕ) → AllByRecursion IsRow rows → (get rows handle).1 ≡ 0 → has_handle rows handle ≡ false
no_row [] handle all none = refl
no_row (r ∷ rs) handle all none =
    elim (cases_Bool (bytes_eq r.handle handle)) [
      | inl same ↦ let count : r.count ≡ 0 = rw same at none in let some = all.0.count.0 in absurd (omega (arith, count, some))
      | inr other ↦ let rest : (get rs handle).1 ≡ 0 = rw other at none in rw other (no_row rs handle all.1 rest)
    ]
