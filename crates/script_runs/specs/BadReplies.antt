-- Which lines of a script print that a reply was refused.
use Rattle.std.specs.Prelude.{◌≢◌, ◌∷◌, [], ℕ, List}
use Rattle.std.specs.List.{AllByRecursion}
use Rattle.fault_script.specs.Command.{Command, Offer, Forge}
use Rattle.verifier.specs.declared.reply_fault.ReplyFault.{ReplyFault}
use Rattle.view_ledger.specs.Receipts.{Accepts}
use Rattle.endorser_cell.specs.CellBank.{CellBank}
use Rattle.reply_lines.specs.Lines.{bad_reply_line}
use Rattle.script_world.specs.Running.{Running}
use Rattle.script_runs.specs.Runs.{Runs}

-- none of these lines says that a reply was refused
abbrev pub NoBadReply : List (List ℕ) → Type 0
NoBadReply said = AllByRecursion (λ (line : List ℕ). (fault : ReplyFault) → line ≢ bad_reply_line fault) said

-- a line of a script that gives a client another reply than the coordinator's may say so, and no other
abbrev pub NoneRefused : List (List ℕ) → Command → Type 0
NoneRefused said (Offer op ids) = Unit {0}
NoneRefused said (Forge op count ids) = Unit {0}
NoneRefused said command = NoBadReply said

module _ {S C : Type 0} (key : S → List ℕ) (left size : S → ℕ) (signs : S → List ℕ → List ℕ → S → Type 0) (fit : S → C → Type 0) (accepts : C → Accepts) (key_of : ℕ → List ℕ) (left_of : ℕ → ℕ) (checks : Accepts) where
  -- it is so of each line
  abbrev pub NoneRefusedElse : (script : List Command) (old new : Running (CellBank S C) C) (printed : List (List ℕ)) → Runs key left size signs fit accepts key_of left_of checks script old new printed → Type 0
  NoneRefusedElse [] old new printed runs = Unit {0}
  NoneRefusedElse (command ∷ commands) old new printed (middle, said, rest, did, runs, is) = NoneRefused said command × NoneRefusedElse commands middle new rest runs
