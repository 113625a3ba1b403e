-- What the rows are after one is set.
use Rattle.std.proofs.Common.{◌≡◌, ◌≢◌, ℕ, ◌<◌, ◌≤◌, List, [], ◌∷◌, length, get_or, refl, sym, subst, ◌∙◌, arith}
use Rattle.std.specs.Prelude.{slice_set}
use Rattle.std.specs.declared.cmp.Ordering.TheVariants.{Equal}
use Rattle.std.specs.Cmp.Lexicographic.{slice_cmp}
use Rattle.std.specs.Ordering.{nat_cmp}
use Rattle.std.specs.List.{AllByRecursion, insert}
use Rattle.std.proofs.lemmas.List.{length-set}
use Rattle.std.proofs.lemmas.List.Edits.{length-insert}
use Rattle.tail_map.specs.declared.tail_row.TailRow.{TailRow}
use Rattle.tail_map.specs.TailMap.{IsBelow, IsRising, IsRow, IsMap, get, set}
use Rattle.tail_map.proofs.Order.{by_order, bytes_eq_same, bytes_eq_other, bytes_eq_less, equal_is, below_trans, below_greater}
use Rattle.tail_map.proofs.Rising.{all_weaker}
use Rattle.tail_map.proofs.Places.{Parts, set_at, set_gap}

pub all_set : (P : TailRow → Type 0) (rows : List TailRow) (row : TailRow) → AllByRecursion P rows → P row → AllByRecursion P (set rows row)
all_set P [] row all one = (one, tt)
all_set P (r ∷ rs) row all one = by_order (slice_cmp nat_cmp r.handle row.handle)
    (λ e. rw e (all.0, all_set P rs row all.1 one))
    (λ e. rw e (one, all.1))
    (λ e. rw e (one, all))

pub rising_set : (rows : List TailRow) (row : TailRow) → IsRising rows → IsRising (set rows row)
rising_set [] row up = (tt, tt)
rising_set (r ∷ rs) row up = by_order (slice_cmp nat_cmp r.handle row.handle)
    (λ e. rw e (all_set (λ (later : TailRow). IsBelow r.handle later.handle) rs row up.0 e, rising_set rs row up.1))
    (λ e. rw e (subst (λ (h : List ℕ). AllByRecursion (λ (later : TailRow). IsBelow h later.handle) rs) (equal_is r.handle row.handle e) up.0, up.1))
    (λ e.
    let under = below_greater r.handle row.handle e in
    rw e ((under, all_weaker (λ (later : TailRow). IsBelow r.handle later.handle) (λ (later : TailRow). IsBelow row.handle later.handle) rs (λ later p. below_trans row.handle r.handle later.handle under p) up.0), up))

pub get_set_same : (rows : List TailRow) (row : TailRow) → get (set rows row) row.handle ≡ (row.tail, row.count)
get_set_same [] row = rw (bytes_eq_same row.handle) refl
get_set_same (r ∷ rs) row = by_order (slice_cmp nat_cmp r.handle row.handle)
    (λ e. rw (e, bytes_eq_less r.handle row.handle e) (get_set_same rs row))
    (λ e. rw (e, bytes_eq_same row.handle) refl)
    (λ e. rw (e, bytes_eq_same row.handle) refl)

pub get_set_other : (rows : List TailRow) (row : TailRow) (handle : List ℕ) → handle ≢ row.handle → get (set rows row) handle ≡ get rows handle
get_set_other [] row handle ne = rw (bytes_eq_other row.handle handle (λ e. ne (sym e))) refl
get_set_other (r ∷ rs) row handle ne = by_order (slice_cmp nat_cmp r.handle row.handle)
    (λ e. rw e (rw (get_set_other rs row handle ne) refl))
    (λ e.
    let other = bytes_eq_other row.handle handle (λ e. ne (sym e)) in
    let held = bytes_eq_other r.handle handle (λ same. ne (sym same ∙ equal_is r.handle row.handle e)) in
    rw (e, other, held) refl)
    (λ e. rw (e, bytes_eq_other row.handle handle (λ e. ne (sym e))) refl)

-- a map stays one, where a row is written over and where one is added
pub map_at : (rows : List TailRow) (row : TailRow) (i : ℕ) (d : TailRow) → IsMap rows → IsRow row → i < length rows → slice_cmp nat_cmp (get_or rows i d).handle row.handle ≡ Equal → IsMap (slice_set rows i row)
map_at rows row i d map one below same =
    let e = set_at rows row i d map.rising below same in
    record {
      rising = subst IsRising e (rising_set rows row map.rising);
      each = subst (AllByRecursion IsRow) e (all_set IsRow rows row map.each one);
      few = omega (arith, length-set rows i row, map.few);
    }

pub map_gap : (rows : List TailRow) (row : TailRow) (i : ℕ) → IsMap rows → IsRow row → i ≤ length rows → length rows < 4096 → Parts rows row.handle i → IsMap (insert rows i row)
map_gap rows row i map one le few p =
    let e = set_gap rows row i le p in
    record {
      rising = subst IsRising e (rising_set rows row map.rising);
      each = subst (AllByRecursion IsRow) e (all_set IsRow rows row map.each one);
      few = omega (arith, length-insert rows i row le);
    }
