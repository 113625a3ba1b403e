-- What the rule says of all passes together.
use Rattle.std.proofs.Common.{◌≡◌, ℕ, zero, suc, ◌+◌, ◌^◌, ◌<◌, ◌≤◌, List, [], ◌∷◌, length, get_or, refl, ◌∙◌, arith}
use Rattle.std.specs.List.{All, flat_map}
use Rattle.stamp_clock.specs.declared.steps.Known.{Known}
use Rattle.stamp_clock.specs.Stamps.{times, EachOnce, NoneTwice}
use Rattle.stamp_clock.specs.Rule.{total, IsKept}
use Rattle.stamp_clock.proofs.Totals.{total_le}
use Rattle.stamp_clock.proofs.Numbers.{times-append, below_le, all_below}

times_of_all : (n : ℕ) (passes : List Known) → times n (flat_map (λ (pass : Known). pass.drawn) passes) ≡ total (λ (pass : Known). times n pass.drawn) passes
times_of_all n [] = refl
times_of_all n (v ∷ vs) = omega (arith, times-append n v.drawn (flat_map (λ (pass : Known). pass.drawn) vs), times_of_all n vs)

pub all_each_once : (word : ℕ) (passes : List Known) → IsKept word passes → EachOnce (flat_map (λ (pass : Known). pass.drawn) passes) word
all_each_once word passes k n = times_of_all n passes ∙ k.each n

pub once_none_twice : (numbers : List ℕ) (count : ℕ) → EachOnce numbers count → NoneTwice numbers
once_none_twice numbers count once n = omega (arith, once n, below_le count n)

pub once_below : (numbers : List ℕ) (count : ℕ) → EachOnce numbers count → All (λ number. number < count) numbers
once_below numbers count once = all_below numbers count (λ n. omega (arith, once n))

pub all_none_twice : (word : ℕ) (passes : List Known) → IsKept word passes → NoneTwice (flat_map (λ (pass : Known). pass.drawn) passes)
all_none_twice word passes k = once_none_twice _ word (all_each_once word passes k)

at_total : (f : Known → ℕ) (passes : List Known) (i : ℕ) (d : Known) → i < length passes → f (get_or passes i d) ≤ total f passes
at_total f [] i d inside = absurd (omega arith)
at_total f (v ∷ vs) zero d inside = omega arith
at_total f (v ∷ vs) (suc i) d inside = omega (arith, at_total f vs i d (omega arith))

pub each_below : (word : ℕ) (passes : List Known) → IsKept word passes → All (λ (pass : Known). All (λ number. number < word) pass.drawn) passes
each_below word passes k i d inside = all_below (get_or passes i d).drawn word (λ n. omega (arith, k.each n, at_total (λ (pass : Known). times n pass.drawn) passes i d inside))

pub left_bound : (word : ℕ) (passes : List Known) → IsKept word passes → word + total (λ (pass : Known). pass.left) passes ≤ 2 ^ 63
left_bound word passes k = omega (arith, k.whole, total_le (λ (pass : Known). pass.left) (λ (pass : Known). pass.left + pass.aside) (λ pass. omega arith) passes)
