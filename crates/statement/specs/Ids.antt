-- Ids that rise.
use Rattle.std.specs.Prelude.{ℕ, Bool, true, nat_lt, if◌then◌else◌, List, [], ◌∷◌, Option, Some, None, IsTrue, ⊤}

-- whether the id is above the one before it, if there is one
abbrev pub is_above : Option ℕ → ℕ → Bool
is_above None id = true
is_above (Some before) id = nat_lt before id

-- each id is above the one before it, and the first is above this one, if there is one
abbrev pub RisesFrom : Option ℕ → List ℕ → Type 0
RisesFrom before [] = ⊤
RisesFrom before (id ∷ ids) = IsTrue (is_above before id) × RisesFrom (Some id) ids

abbrev pub IsRising : List ℕ → Type 0
IsRising ids = RisesFrom None ids

-- the first id that isn't above the one before it
abbrev pub first_fall : Option ℕ → List ℕ → Option ℕ
first_fall before [] = None
first_fall before (id ∷ ids) = if is_above before id then first_fall (Some id) ids else Some id

-- the last of these ids, or else the one before them
abbrev pub last_id : Option ℕ → List ℕ → Option ℕ
last_id before [] = before
last_id before (id ∷ ids) = last_id (Some id) ids
