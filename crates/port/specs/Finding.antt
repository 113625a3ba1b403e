-- What a function that reads from the front found.
use Rattle.std.specs.Prelude.{◌≡◌, ℕ, ◌^◌, ◌<◌, ◌⊎◌, List, ◌++◌, length, map, slice_index, Result, MatchResult}
use Rattle.std.specs.Int.{w32, to_be_bytes}
use Rattle.nim_base.specs.declared.form_fault.FormFault.{FormFault}
use Rattle.nim_base.specs.declared.form_fault.FormFault.TheVariants.{NoMemory}
use Rattle.std.specs.List.{AllByRecursion}
use Rattle.statement.specs.Ids.{IsRising}
use Rattle.statement.specs.FormFault.{IsCut, ShowsBehind}
use Rattle.port.specs.Field.{ShowsBehindKind}

abbrev pub AreBytes : List ℕ → Type 0
AreBytes bytes = (i : ℕ) → slice_index bytes i < 256

-- a good value, whose bytes stood in front of those that are left
abbrev pub Found : {A : Type 0} → (A → Type 0) → (A → List ℕ) → List ℕ → List ℕ → A → Type 0
Found IsGood form old new value = IsGood value × (old ≡ form value ++ new)

-- the fault that shows first, unless memory ran out
abbrev pub Missed : (List ℕ → FormFault → Type 0) → List ℕ → FormFault → Type 0
Missed shows old fault = (fault ≡ NoMemory) ⊎ shows old fault

-- it found one or missed it
abbrev pub Finds : {A B : Type 0} → (A → B) → (B → Type 0) → (B → List ℕ) → (List ℕ → FormFault → Type 0) → List ℕ → List ℕ → Result A FormFault → Type 0
Finds view IsGood form shows old new result = AreBytes old → MatchResult result (λ x. Found IsGood form old new (view x)) (Missed shows old)

-- the kind alone
abbrev pub KindShows : ℕ → List ℕ → FormFault → Type 0
KindShows kind = ShowsBehindKind kind (λ _ _. ⊥)

-- the number of a field's bytes(4), and so many bytes
abbrev pub SizeShows : List ℕ → FormFault → Type 0
SizeShows = ShowsBehind (λ size. size < 2 ^ 32) (to_be_bytes w32) (IsCut 4) IsCut

-- so many good items in rising ids
abbrev pub AreItems : {A : Type 0} → (A → ℕ) → (A → Type 0) → ℕ → List A → Type 0
AreItems id IsGood number items = (length items ≡ number) × IsRising (map id items) × AllByRecursion IsGood items
