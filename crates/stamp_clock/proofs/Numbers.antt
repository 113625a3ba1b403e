-- How often numbers stand in lists.
use Rattle.std.proofs.Common.{◌≡◌, ℕ, zero, suc, ◌+◌, ◌<◌, ◌≤◌, List, [], ◌∷◌, ◌++◌, length, get_or, Bool, true, false, cond, eqb, ltb, arith}
use Rattle.std.specs.List.{All}
use Rattle.std.proofs.lemmas.Bool.Decides.{nat_tests}
use Rattle.stamp_clock.specs.Stamps.{times, below}

pub times-append : (n : ℕ) (xs ys : List ℕ) → times n (xs ++ ys) ≡ times n xs + times n ys
times-append n [] ys = omega arith
times-append n (x ∷ xs) ys = omega (arith, times-append n xs ys)

pub bit_le : (b : Bool) → cond b 1 0 ≤ 1
bit_le true = omega arith
bit_le false = omega arith

pub below_le : (w n : ℕ) → below w n ≤ 1
below_le w n = bit_le (ltb n w)

pub times-le : (n : ℕ) (xs : List ℕ) → times n xs ≤ length xs
times-le n [] = omega arith
times-le n (x ∷ xs) = omega (arith, bit_le (eqb x n), times-le n xs)

pub below_more : (w n : ℕ) → below (w + 1) n ≡ below w n + cond (eqb w n) 1 0
below_more w n = grind (arith, nat_tests)

below_is : (w n : ℕ) → 0 < below w n → n < w
below_is w n h = grind (arith, nat_tests)

abbrev bit : Bool → ℕ
bit b = cond b 1 0

same_bit : (x : ℕ) → bit (eqb x x) ≡ 1
same_bit x = grind (arith, nat_tests)

-- what stands in a list stands there once at least
times_at : (xs : List ℕ) (k d : ℕ) → k < length xs → 0 < times (get_or xs k d) xs
times_at [] k d h = absurd (omega arith)
times_at (x ∷ xs) zero d h = omega (arith, same_bit x)
times_at (x ∷ xs) (suc k) d h = omega (arith, times_at xs k d (omega arith))

pub all_below : (xs : List ℕ) (w : ℕ) → ((n : ℕ) → times n xs ≤ below w n) → All (λ x. x < w) xs
all_below xs w h k d inside = below_is w (get_or xs k d) (omega (arith, times_at xs k d inside, h (get_or xs k d)))

pub none_below : (n : ℕ) → 0 ≡ below 0 n
none_below n = grind (arith, nat_tests)
