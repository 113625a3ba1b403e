-- The words of the laws on the table and on call lists.
use Rattle.std.specs.Prelude.{◌≡◌, ℕ, List, [], ◌∷◌, ◌⊎◌}
use Rattle.statement.specs.declared.statement.Statement.{Statement}
use Rattle.port.specs.Answer.{Signed}
use Rattle.port.specs.Table.{State, Uninitialized, Initialized, Active, Finalized}
use Rattle.endorser_core.specs.Shown.{row_of}
use Rattle.endorser_core.specs.Line.{Line}

-- the phases in their order
abbrev pub rank : State → ℕ
rank Uninitialized = 0
rank (Initialized own) = 1
rank (Active own) = 2
rank (Finalized own ending) = 3

-- the count of a ledger
abbrev pub count_of : State → List ℕ → ℕ
count_of state handle = (row_of state handle).1

-- one of the lines has this statement, signed
abbrev pub IsSignedIn : List Line → Statement → Type 0
IsSignedIn [] statement = ⊥
IsSignedIn (line ∷ lines) statement = ((sig : List ℕ) × (line.answer ≡ Signed statement sig)) ⊎ IsSignedIn lines statement
