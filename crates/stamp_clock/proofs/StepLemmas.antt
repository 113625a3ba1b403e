-- Each kind of step keeps the rule.
use Rattle.std.proofs.Common.{◌≡◌, ℕ, ◌+◌, ◌-◌, ◌%◌, ◌^◌, ◌<◌, ◌≤◌, List, [], ◌∷◌, ◌++◌, length, set, refl, sym, ap, ◌∙◌, subst, arith, length-append}
use Rattle.std.specs.Prelude.{slice_index}
use mathlib.Core.Option.{none, some}
use lib.ListN.{get_elem?}
use Rattle.atomic_table.specs.Table.{State, step, keeps, Allows, Splits, Joins, Seen}
use Rattle.stamp_clock.specs.declared.steps.Known.{Known}
use Rattle.stamp_clock.specs.Stamps.{times, below, EachOnce, NoneTwice}
use Rattle.stamp_clock.specs.Rule.{known, total, IsKept, Holds}
use Rattle.stamp_clock.specs.Steps.{Own, Stamped, SetAside, GaveBack, without_aside, split_off, joined, spent}
use Rattle.stamp_clock.proofs.Totals.{total_set, total_push, at_most_total, total_alone}
use Rattle.stamp_clock.proofs.Numbers.{times-append, times-le, below_le, below_more, all_below, none_below}

abbrev drawn_of : Known → ℕ
drawn_of v = length v.drawn

abbrev left_of : Known → ℕ
left_of v = v.left + v.aside

abbrev often : ℕ → Known → ℕ
often n v = times n v.drawn

-- the rule holds of a new clock
pub begins : Holds record { words = 0 ∷ []; homes = []; views = known [] (2 ^ 63) 0 ∷ [] }
begins = (0, refl, record { each = none_below; drawn = refl; whole = refl })

kept_stamp : (w : ℕ) (views : List Known) (id : ℕ) (v : Known) → IsKept w views → get_elem? views id ≡ some v → 0 < v.left → IsKept (w + 1) (set views id (known (v.drawn ++ w ∷ []) (v.left - 1) v.aside))
kept_stamp w views id v k at pos =
    let u = known (v.drawn ++ w ∷ []) (v.left - 1) v.aside in record {
      each = λ n. omega (arith, total_set (often n) views id v u at, times-append n v.drawn (w ∷ []), k.each n, below_more w n);
      drawn = omega (arith, total_set drawn_of views id v u at, length-append v.drawn (w ∷ []), k.drawn);
      whole = omega (arith, total_set left_of views id v u at, k.whole);
    }

kept_move : (w : ℕ) (views : List Known) (id : ℕ) (v : Known) (left aside : ℕ) → IsKept w views → get_elem? views id ≡ some v → left + aside ≡ v.left + v.aside → IsKept w (set views id (known v.drawn left aside))
kept_move w views id v left aside k at same =
    let u = known v.drawn left aside in record {
      each = λ n. omega (arith, total_set (often n) views id v u at, k.each n);
      drawn = omega (arith, total_set drawn_of views id v u at, k.drawn);
      whole = omega (arith, total_set left_of views id v u at, k.whole, same);
    }

-- what one pass has left, or has at all, doesn't go past 2^63
fits : (w : ℕ) (views : List Known) (id : ℕ) (v : Known) → IsKept w views → get_elem? views id ≡ some v → (w + v.left ≤ 2 ^ 63) × (length v.drawn + (v.left + v.aside) ≤ 2 ^ 63)
fits w views id v k at = (omega (arith, k.whole, at_most_total left_of views id v at), omega (arith, k.whole, k.drawn, at_most_total left_of views id v at, at_most_total drawn_of views id v at))

-- each number of a pass is below the word and stands once
part : (w : ℕ) (views : List Known) (id : ℕ) (v : Known) → IsKept w views → get_elem? views id ≡ some v → (n : ℕ) → times n v.drawn ≤ below w n
part w views id v k at n = omega (arith, k.each n, at_most_total (often n) views id v at)

part_with : (w : ℕ) (xs : List ℕ) → ((n : ℕ) → times n xs ≤ below w n) → NoneTwice (xs ++ w ∷ [])
part_with w xs h n = omega (arith, times-append n xs (w ∷ []), h n, below_more w n, below_le (w + 1) n)

pub stamp_step : (slots id : ℕ) (me : Own) → 0 < me.0.left → Allows Holds slots id me 0 (λ n. (n + 1) % 2 ^ 64) (Stamped (step slots 0 1 0 none) me)
stamp_step slots id me pos s h none_out at small =
    let w = h.0 in
    let n = slice_index s.words 0 in
    let found : n ≡ w = ap (λ (ws : List ℕ). slice_index ws 0) h.1 in
    let k = h.2 in
    let v = me.0 in
    let room = fits w s.views id v k at in
    let next : (n + 1) % 2 ^ 64 ≡ w + 1 = omega (arith, found, room.0, pos) in
    let words : set s.words 0 ((n + 1) % 2 ^ 64) ≡ (w + 1) ∷ [] = ap (λ (ws : List ℕ). set ws 0 ((n + 1) % 2 ^ 64)) h.1 ∙ ap (λ (x : ℕ). x ∷ []) next in
    let mine : (m : ℕ) → times m v.drawn ≤ below n m = λ m. subst (λ (x : ℕ). times m v.drawn ≤ below x m) (sym found) (part w s.views id v k at m) in (
      known (v.drawn ++ n ∷ []) (v.left - 1) v.aside,
      keeps,
      tt,
      (w + 1, words, subst (λ (x : ℕ). IsKept (w + 1) (set s.views id (known (v.drawn ++ x ∷ []) (v.left - 1) v.aside))) (sym found) (kept_stamp w s.views id v k at pos)),
      (refl, refl, all_below v.drawn n mine, part_with n v.drawn mine, omega (arith, found, room.0, pos)),
    )

same_words : (ws : List ℕ) (w : ℕ) → ws ≡ w ∷ [] → set ws 0 (slice_index ws 0) ≡ w ∷ []
same_words ws w e = subst (λ (xs : List ℕ). set xs 0 (slice_index xs 0) ≡ w ∷ []) (sym e) refl

pub set_aside_step : (slots id share : ℕ) (me : Own) → share ≤ me.0.left → Allows Holds slots id me 0 (λ n. n) (SetAside share (step slots 0 0 0 none) me)
set_aside_step slots id share me le s h none_out at small =
    let v = me.0 in (
      known v.drawn (v.left - share) (v.aside + share),
      keeps,
      tt,
      (h.0, same_words s.words h.0 h.1, kept_move h.0 s.views id v (v.left - share) (v.aside + share) h.2 at (omega arith)),
      (refl, refl),
    )

pub give_back_step : (slots id : ℕ) (me : Own) → Allows Holds slots id me 0 (λ n. n) (GaveBack (step slots 0 0 0 none) me)
give_back_step slots id me s h none_out at small =
    let v = me.0 in (
      known v.drawn (v.left + v.aside) 0,
      keeps,
      tt,
      (h.0, same_words s.words h.0 h.1, kept_move h.0 s.views id v (v.left + v.aside) 0 h.2 at (omega arith)),
      (refl, refl, (fits h.0 s.views id v h.2 at).1, λ n. omega (arith, part h.0 s.views id v h.2 at n, below_le h.0 n)),
    )

pub split_step : (id : ℕ) (v : Known) → Splits Holds id v (without_aside v) (split_off v)
split_step id v s h at =
    let k = h.2 in
    let u = without_aside v in
    let t = split_off v in
    let views = set s.views id u in (
      h.0,
      h.1,
      record {
        each = λ n. omega (arith, total_set (often n) s.views id v u at, total_push (often n) views t, k.each n);
        drawn = omega (arith, total_set drawn_of s.views id v u at, total_push drawn_of views t, k.drawn);
        whole = omega (arith, total_set left_of s.views id v u at, total_push left_of views t, k.whole);
      },
    )

pub join_step : (id : ℕ) (v : Known) (other : ℕ) (w : Known) → Joins Holds id v other w (joined v w) spent
join_step id v other w s h at apart there =
    let k = h.2 in
    let u = joined v w in
    let views = set s.views id u in (
      h.0,
      h.1,
      record {
        each = λ n. omega (arith, total_set (often n) s.views id v u at, total_set (often n) views other w spent there, times-append n v.drawn w.drawn, k.each n);
        drawn = omega (arith, total_set drawn_of s.views id v u at, total_set drawn_of views other w spent there, length-append v.drawn w.drawn, k.drawn);
        whole = omega (arith, total_set left_of s.views id v u at, total_set left_of views other w spent there, k.whole);
      },
    )

pub at_close : (id : ℕ) (v : Known) (s : State (Unit {0}) Known) → Seen Holds id v s → NoneTwice v.drawn
at_close id v s seen n = omega (arith, part seen.0.0 s.views id v seen.0.2 seen.1 n, below_le seen.0.0 n)

-- a pass that has all 2^63 drew each number below the word, once
pub has_all : (id : ℕ) (v : Known) (s : State (Unit {0}) Known) → Seen Holds id v s → length v.drawn + v.left ≡ 2 ^ 63 → EachOnce v.drawn (length v.drawn)
has_all id v s seen all n =
    let h = seen.0 in
    let k = h.2 in
    let at = seen.1 in
    let w : h.0 ≡ length v.drawn = omega (arith, k.whole, k.drawn, at_most_total left_of s.views id v at, at_most_total drawn_of s.views id v at) in
    let alone : total drawn_of s.views ≡ drawn_of v = k.drawn ∙ w in
    sym (total_alone (often n) drawn_of (λ (x : Known). times-le n x.drawn) s.views id v at alone) ∙ k.each n ∙ ap (λ (x : ℕ). below x n) w
