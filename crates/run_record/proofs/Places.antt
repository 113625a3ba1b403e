-- The places of events: how they go on, how many they are, and that they rise.
use Rattle.std.proofs.Common.{◌≡◌, ℕ, zero, suc, ◌+◌, ◌<◌, ◌≤◌, Bool, true, false, List, [], ◌∷◌, ◌++◌, length, get_or, refl, ap, subst, ◌∙◌, arith}
use Rattle.std.specs.Prelude.{if◌then◌else◌}
use Rattle.std.specs.List.{count_by}
use Rattle.std.specs.List.Sorted.{IsStrictlyIncreasing}
use Rattle.run_record.specs.declared.actor.Actor.{Actor}
use Rattle.run_record.specs.Events.{places_from}
use Rattle.run_record.proofs.Counts.{bit, count_cons}

front_push : (b : Bool) (n : ℕ) (xs more ys : List ℕ) → more ≡ xs ++ ys → (if b then n ∷ more else more) ≡ (if b then n ∷ xs else xs) ++ ys
front_push true n xs more ys e = ap (λ (zs : List ℕ). n ∷ zs) e
front_push false n xs more ys e = e

-- one event more
pub places_push : (first : ℕ) (p : Actor → Bool) (order : List Actor) (a : Actor) → places_from first p (order ++ a ∷ []) ≡ places_from first p order ++ places_from (first + length order) p (a ∷ [])
places_push first p [] a = ap (λ (n : ℕ). places_from n p (a ∷ [])) (omega arith)
places_push first p (b ∷ order) a =
    let same : first + 1 + length order ≡ first + suc (length order) = omega arith in
    front_push (p b) first (places_from (first + 1) p order) (places_from (first + 1) p (order ++ a ∷ [])) (places_from (first + suc (length order)) p (a ∷ []))
    (places_push (first + 1) p order a ∙ ap (λ (n : ℕ). places_from (first + 1) p order ++ places_from n p (a ∷ [])) same)

length_if : (b : Bool) (n : ℕ) (xs : List ℕ) → length (if b then n ∷ xs else xs) ≡ bit b + length xs
length_if true n xs = omega arith
length_if false n xs = omega arith

pub places_length : (first : ℕ) (p : Actor → Bool) (order : List Actor) → length (places_from first p order) ≡ count_by p order
places_length first p [] = refl
places_length first p (a ∷ order) = omega (arith, length_if (p a) first (places_from (first + 1) p order), places_length (first + 1) p order, count_cons p a order)

-- each number is above those before it, and the first is this one or above it
abbrev Rises : ℕ → List ℕ → Type 0
Rises low [] = Unit {0}
Rises low (x ∷ xs) = (low ≤ x) × Rises (x + 1) xs

lower : (low high : ℕ) (xs : List ℕ) → low ≤ high → Rises high xs → Rises low xs
lower low high [] le rises = tt
lower low high (x ∷ xs) le rises = let above : high ≤ x = rises.0 in (omega arith, rises.1)

rises_if : (b : Bool) (n : ℕ) (xs : List ℕ) → Rises (n + 1) xs → Rises n (if b then n ∷ xs else xs)
rises_if true n xs rises = (omega arith, rises)
rises_if false n xs rises = lower n (n + 1) xs (omega arith) rises

places_rise : (first : ℕ) (p : Actor → Bool) (order : List Actor) → Rises first (places_from first p order)
places_rise first p [] = tt
places_rise first p (a ∷ order) = rises_if (p a) first (places_from (first + 1) p order) (places_rise (first + 1) p order)

rises_strictly : (low : ℕ) (xs : List ℕ) → Rises low xs → IsStrictlyIncreasing xs
rises_strictly low [] rises k inside = absurd (omega arith)
rises_strictly low (x ∷ []) rises k inside = absurd (omega arith)
rises_strictly low (x ∷ y ∷ xs) rises zero inside = let above : x + 1 ≤ y = rises.1.0 in omega arith
rises_strictly low (x ∷ y ∷ xs) rises (suc k) inside =
    let next : suc (k + 1) ≡ suc k + 1 = omega arith in
    subst (λ (n : ℕ). get_or (y ∷ xs) k 0 < get_or (x ∷ y ∷ xs) n 0) next (rises_strictly (x + 1) (y ∷ xs) rises.1 k (omega arith))

pub places_increase : (first : ℕ) (p : Actor → Bool) (order : List Actor) → IsStrictlyIncreasing (places_from first p order)
places_increase first p order = rises_strictly first (places_from first p order) (places_rise first p order)
