-- Sums over lists.
use Rattle.std.proofs.Common.{◌≡◌, ℕ, zero, suc, ◌+◌, ◌≤◌, List, [], ◌∷◌, ◌++◌, set, sym, ap, arith}
use mathlib.Core.Option.{some, some-ne-none, some-injective}
use lib.ListN.{get_elem?}
use Rattle.stamp_clock.specs.Rule.{total}

module _ {A : Type 0} (f : A → ℕ) where
  -- one element changes
  pub total_set : (xs : List A) (i : ℕ) (a b : A) → get_elem? xs i ≡ some a → total f (set xs i b) + f a ≡ total f xs + f b
  total_set [] i a b e = absurd (some-ne-none a (sym e))
  total_set (x ∷ xs) zero a b e = let same = ap f (some-injective x a e) in omega (arith, same)
  total_set (x ∷ xs) (suc i) a b e = omega (arith, total_set xs i a b e)

  -- one element more
  pub total_push : (xs : List A) (b : A) → total f (xs ++ b ∷ []) ≡ total f xs + f b
  total_push [] b = omega arith
  total_push (x ∷ xs) b = omega (arith, total_push xs b)

  -- each element is a part of the sum
  pub at_most_total : (xs : List A) (i : ℕ) (a : A) → get_elem? xs i ≡ some a → f a ≤ total f xs
  at_most_total [] i a e = absurd (some-ne-none a (sym e))
  at_most_total (x ∷ xs) zero a e = let same = ap f (some-injective x a e) in omega (arith, same)
  at_most_total (x ∷ xs) (suc i) a e = omega (arith, at_most_total xs i a e)

module _ {A : Type 0} (f g : A → ℕ) (le : (x : A) → f x ≤ g x) where
  pub total_le : (xs : List A) → total f xs ≤ total g xs
  total_le [] = omega arith
  total_le (x ∷ xs) = omega (arith, le x, total_le xs)

  -- beside one element the sum of f is at most that of g
  total_beside : (xs : List A) (i : ℕ) (a : A) → get_elem? xs i ≡ some a → total f xs + g a ≤ f a + total g xs
  total_beside [] i a e = absurd (some-ne-none a (sym e))
  total_beside (x ∷ xs) zero a e =
      let same_f = ap f (some-injective x a e) in
      let same_g = ap g (some-injective x a e) in
      omega (arith, same_f, same_g, total_le xs)
  total_beside (x ∷ xs) (suc i) a e = omega (arith, le x, total_beside xs i a e)

  -- where g is 0 beside one element, so is f
  pub total_alone : (xs : List A) (i : ℕ) (a : A) → get_elem? xs i ≡ some a → total g xs ≡ g a → total f xs ≡ f a
  total_alone xs i a e alone = omega (arith, total_beside xs i a e, at_most_total f xs i a e)
