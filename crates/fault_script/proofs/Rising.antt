-- Ids that are read one by one, where a read may fail.
use Rattle.std.proofs.Common.{◌≡◌, ℕ, ◌+◌, List, [], ◌∷◌, ◌++◌, Option, None, Some, refl, ap, append_assoc}
use Rattle.std.specs.Option.{option_map}
use Rattle.std.specs.Prelude.{option_and_then}
use Rattle.fault_script.specs.Words.{rising, number_within}

abbrev pub with_front : {X : Type 0} → List X → Option (List X) → Option (List X)
with_front front o = option_map (λ xs. front ++ xs) o

pub with_front_more : {X : Type 0} (front : List X) (x : X) (o : Option (List X)) → with_front (front ++ x ∷ []) o ≡ with_front front (option_map (λ xs. x ∷ xs) o)
with_front_more front x None = refl
with_front_more front x (Some xs) = ap Some (append_assoc front (x ∷ []) xs)

pub rising_some : (low : ℕ) (word : List ℕ) (rest : List (List ℕ)) (n : ℕ) → number_within (low + 1) 64 word ≡ Some n → rising low (word ∷ rest) ≡ option_map (λ ns. n ∷ ns) (rising n rest)
rising_some low word rest n e = ap (λ o. option_and_then (λ n. option_map (λ ns. n ∷ ns) (rising n rest)) o) e

pub rising_none : (low : ℕ) (word : List ℕ) (rest : List (List ℕ)) → number_within (low + 1) 64 word ≡ None → rising low (word ∷ rest) ≡ None
rising_none low word rest e = ap (λ o. option_and_then (λ n. option_map (λ ns. n ∷ ns) (rising n rest)) o) e
