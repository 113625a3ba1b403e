-- Where a list is split at one of its elements.
use Rattle.std.proofs.Common.{◌≡◌, ◌⊎◌, inl, inr, ◌<◌, List, [], ◌∷◌, ◌++◌, length, refl, ap, arith, length-append}

pub nothing_split : {X : Type 0} (below above : List X) (e : X) → [] ≡ below ++ e ∷ above → ⊥
nothing_split [] above e is = absurd cc
nothing_split (b ∷ below) above e is = absurd cc

-- a list with one more element is split there, or before
pub push_split : {X : Type 0} (xs : List X) (x : X) (below above : List X) (e : X) → xs ++ x ∷ [] ≡ below ++ e ∷ above
    → ((below ≡ xs) × (e ≡ x)) ⊎ ((rest : List X) × (xs ≡ below ++ e ∷ rest))
push_split [] x [] above e is = inl (refl, (cc))
push_split [] x (b ∷ below) above e is = absurd (nothing_split below above e (cc))
push_split (y ∷ xs) x [] above e is = inr (xs, (cc))
push_split (y ∷ xs) x (b ∷ below) above e is = more (push_split xs x below above e (cc))
  where
    first : y ≡ b
    first = cc

    more : ((below ≡ xs) × (e ≡ x)) ⊎ ((rest : List _) × (xs ≡ below ++ e ∷ rest)) → ((b ∷ below ≡ y ∷ xs) × (e ≡ x)) ⊎ ((rest : List _) × (y ∷ xs ≡ (b ∷ below) ++ e ∷ rest))
    more (inl here) = inl (let same = here.0 in cc, here.1)
    more (inr there) = inr (there.0, (let same = there.1 in cc))

-- what is below is shorter
pub shorter : {X : Type 0} (xs below above : List X) (e : X) → xs ≡ below ++ e ∷ above → length below < length xs
shorter xs below above e is = omega (arith, ap length is, length-append below (e ∷ above))
