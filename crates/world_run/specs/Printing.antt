-- What of a run's lines a sink got.
use Rattle.std.specs.Prelude.{◌≡◌, ℕ, List, ◌++◌, take, Option}
use Rattle.std.specs.List.{concat}
use Rattle.std.specs.Io.KnownBytes.{Appends}
use Rattle.fault_script.specs.Command.{Command}
use Rattle.view_ledger.specs.Receipts.{Accepts}
use Rattle.endorser_cell.specs.CellBank.{CellBank}
use Rattle.script_world.specs.Running.{Running}
use Rattle.script_runs.specs.Runs.{DidLine, Runs}

-- these lines were written, each whole
abbrev pub Wrote : Option (List ℕ) → Option (List ℕ) → List (List ℕ) → Type 0
Wrote before now printed = Appends before now (concat printed)

-- some first bytes of them were written
abbrev pub WroteFront : Option (List ℕ) → Option (List ℕ) → List (List ℕ) → Type 0
WroteFront before now printed = (n : ℕ) × Appends before now (take n (concat printed))

module _ {S C : Type 0} (key : S → List ℕ) (left size : S → ℕ) (signs : S → List ℕ → List ℕ → S → Type 0) (fit : S → C → Type 0) (accepts : C → Accepts) (key_of : ℕ → List ℕ) (left_of : ℕ → ℕ) (checks : Accepts) where
  -- the line did so and printed what was put so
  abbrev pub DidAndPut : Command → Running (CellBank S C) C → Running (CellBank S C) C → (List (List ℕ) → Type 0) → Type 0
  DidAndPut command old new put = (said : List (List ℕ)) × DidLine key left size signs fit accepts key_of left_of checks old new said command × put said

  -- the lines were run and printed what was put so
  abbrev pub RanAndPut : List Command → Running (CellBank S C) C → Running (CellBank S C) C → (List (List ℕ) → Type 0) → Type 0
  RanAndPut commands old new put = (printed : List (List ℕ)) × Runs key left size signs fit accepts key_of left_of checks commands old new printed × put printed

  -- some first lines were run and printed what was put so
  pub record RanFrontAndPut (commands : List Command) (old : Running (CellBank S C) C) (put : List (List ℕ) → Type 0) : Type 0 where
    pub front : List Command
    pub rest : List Command
    pub split : commands ≡ front ++ rest
    pub last : Running (CellBank S C) C
    pub ran : RanAndPut front old last put
