-- What it means that nothing is found that fails a test.
use Rattle.std.proofs.Common.{◌≡◌, ℕ, List, [], ◌∷◌, Bool, false, Option, Some, None, inl, inr, refl}
use Rattle.std.specs.Prelude.{find, option_map}
use Rattle.std.specs.List.{AllByRecursion}
use Rattle.std.specs.Option.{option_or}
use Rattle.std.proofs.lemmas.Bool.{cases_Bool}
use Rattle.statement.specs.Ids.{is_above, RisesFrom, first_fall}

pub or_none : {A B : Type 0} (f : A → B) (x : Option A) (y : Option B) → option_or (option_map f x) y ≡ None → (x ≡ None) × (y ≡ None)
or_none f None y e = (refl, e)
or_none f (Some x) y e = absurd cc

-- the first that passes a test, by its id
pub none_found : {X : Type 0} (id : X → ℕ) (test : X → Bool) (xs : List X) → option_map id (find test xs) ≡ None → AllByRecursion (λ x. test x ≡ false) xs
none_found id test [] e = tt
none_found id test (x ∷ xs) e =
    elim (cases_Bool (test x)) [
      | inl pass ↦ let never : Some (id x) ≡ None = rw pass at e in absurd cc
      | inr fail ↦ let rest : option_map id (find test xs) ≡ None = rw fail at e in (fail, none_found id test xs rest)
    ]

pub found_none : {X : Type 0} (id : X → ℕ) (test : X → Bool) (xs : List X) → AllByRecursion (λ x. test x ≡ false) xs → option_map id (find test xs) ≡ None
found_none id test [] all = refl
found_none id test (x ∷ xs) all = rw all.0 (found_none id test xs all.1)

pub all_map : {X : Type 0} (P Q : X → Type 0) → ((x : X) → P x → Q x) → (xs : List X) → AllByRecursion P xs → AllByRecursion Q xs
all_map P Q f [] all = tt
all_map P Q f (x ∷ xs) all = (f x all.0, all_map P Q f xs all.1)

pub rises : (before : Option ℕ) (ids : List ℕ) → first_fall before ids ≡ None → RisesFrom before ids
rises before [] e = tt
rises before (id ∷ ids) e =
    elim (cases_Bool (is_above before id)) [
      | inl above ↦ let rest : first_fall (Some id) ids ≡ None = rw above at e in (above, rises (Some id) ids rest)
      | inr not_above ↦ let never : Some id ≡ None = rw not_above at e in absurd cc
    ]

pub no_fall : (before : Option ℕ) (ids : List ℕ) → RisesFrom before ids → first_fall before ids ≡ None
no_fall before [] rising = refl
no_fall before (id ∷ ids) rising = rw rising.0 (no_fall (Some id) ids rising.1)
