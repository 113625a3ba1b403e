-- That all know one view alone, whatever the lines of a script do.
use Rattle.std.specs.Prelude.{◌≡◌, ◌∷◌, [], ℕ, List}
use Rattle.std.specs.List.{AllByRecursion}
use Rattle.fault_script.specs.Command.{Command}
use Rattle.view_ledger.specs.Views.{ViewChain}
use Rattle.view_ledger.specs.Receipts.{Accepts}
use Rattle.client_pass.specs.ClientPass.{ClientPass}
use Rattle.endorser_cell.specs.CellBank.{CellBank}
use Rattle.script_world.specs.Running.{Running}
use Rattle.script_runs.specs.Runs.{Runs}

-- The coordinator and each client know this chain of views and no other, and their checkers accept the same.
pub record KnowsAlone {L C : Type 0} (accepts : C → Accepts) (checks : Accepts) (chain : ViewChain) (running : Running L C) : Type 0 where
  pub coordinator : running.state.chain ≡ chain
  pub checker : accepts running.state.checker ≡ checks
  pub first : running.first ≡ chain
  pub clients : AllByRecursion (λ (pass : ClientPass C). (pass.chain ≡ chain) × (accepts pass.checker ≡ checks)) running.clients

module _ {S C : Type 0} (key : S → List ℕ) (left size : S → ℕ) (signs : S → List ℕ → List ℕ → S → Type 0) (fit : S → C → Type 0) (accepts : C → Accepts) (key_of : ℕ → List ℕ) (left_of : ℕ → ℕ) (checks : Accepts)
    (chain : ViewChain) where
  -- it is so before each line, and after the last one
  abbrev pub AllKnowAlone : (script : List Command) (old new : Running (CellBank S C) C) (printed : List (List ℕ)) → Runs key left size signs fit accepts key_of left_of checks script old new printed → Type 0
  AllKnowAlone [] old new printed runs = KnowsAlone accepts checks chain new
  AllKnowAlone (command ∷ commands) old new printed (middle, said, rest, did, runs, is) = KnowsAlone accepts checks chain old × AllKnowAlone commands middle new rest runs
