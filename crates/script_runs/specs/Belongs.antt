-- What the run of a script owes to it.
use Rattle.std.specs.Prelude.{◌≡◌, ℕ, List, [], ◌∷◌, ◌++◌}
use Rattle.fault_script.specs.Command.{Command}
use Rattle.view_ledger.specs.Receipts.{Accepts}
use Rattle.endorser_cell.specs.CellBank.{CellBank}
use Rattle.script_world.specs.Running.{Running}
use Rattle.script_runs.specs.Accepted.{AllAccepted}
use Rattle.script_runs.specs.AskedFor.{LossesWereAskedFor, StoreFaultsWereAskedFor}
use Rattle.script_runs.specs.BadReplies.{NoneRefusedElse}
use Rattle.statement.specs.Config.{ids as ids_of}
use Rattle.script_runs.specs.Begins.{Begins, first_ids}
use Rattle.script_runs.specs.CallRules.{AppendedOnce, EntriesWereDrawn, OthersAreOwn}
use Rattle.script_runs.specs.OneView.{AllKnowAlone}
use Rattle.script_runs.specs.Roster.{all_members, members_by}
use Rattle.script_runs.specs.Runs.{AllCanRun, Runs}
use Rattle.script_runs.specs.SignedMarks.{AllSigned}
use Rattle.script_runs.specs.Stamps.{AllInOrder, events_of}

module _ {S C : Type 0} (key : S → List ℕ) (left size : S → ℕ) (signs : S → List ℕ → List ℕ → S → Type 0) (fit : S → C → Type 0) (accepts : C → Accepts) (key_of : ℕ → List ℕ) (left_of : ℕ → ℕ) (checks : Accepts)
    (ids : List ℕ) where
  -- A run of these lines, over a first view of these ids, in which the replies with their marks, the views and the calls are the lines' own, and
  -- no more is told of losses and failures than was asked for.
  pub record Belongs (script : List Command) (first last : Running (CellBank S C) C) (printed : List (List ℕ)) (runs : Runs key left size signs fit accepts key_of left_of checks script first last printed) : Type 0 where
    -- each client accepts what the coordinator answers it, and what it prints of it is that; it judges other replies by view 0
    pub accepted : AllAccepted key left size signs fit accepts key_of left_of checks (members_by key_of ids ∷ []) script first last printed runs
    -- no line but an offer or a forged reply prints that a reply was refused
    pub elsewhere : NoneRefusedElse key left size signs fit accepts key_of left_of checks script first last printed runs
    -- the coordinator and all clients know view 0 alone
    pub alone : AllKnowAlone key left size signs fit accepts key_of left_of checks (record { roster = all_members key_of; configs = members_by key_of ids ∷ [] }) script first last printed runs
    -- outside `raw` lines, an append is of an entry that was drawn, and appends of one row are one unless it was forked
    pub drawn : EntriesWereDrawn key left size signs fit accepts key_of left_of checks script first last printed runs
    pub once : AppendedOnce key left size signs fit accepts key_of left_of checks [] [] script first last printed runs
    -- each line has only the calls served that are its own
    pub own : OthersAreOwn key left size signs fit accepts key_of left_of checks script first last printed runs
    -- there are no events before it, and those of each line have one run of consecutive stamps, in the order of the lines: a draw, then its calls, then what clients check
    pub unbegun : events_of (ids_of (all_members key_of)) first ≡ []
    pub ordered : AllInOrder key left size signs fit accepts key_of left_of checks script first last printed runs
    -- but for those of an offer or a forged reply, the marks of what clients check were signed before
    pub signed : AllSigned key left size signs fit accepts key_of left_of checks script first last printed runs
    -- no more losses and failures are told than were asked for
    pub losses : LossesWereAskedFor key left size signs fit accepts key_of left_of checks script first last printed runs
    pub faults : StoreFaultsWereAskedFor key left size signs fit accepts key_of left_of checks script first last printed runs

module _ {S C : Type 0} (key : S → List ℕ) (left size : S → ℕ) (signs : S → List ℕ → List ℕ → S → Type 0) (fit : S → C → Type 0) (accepts : C → Accepts) (key_of : ℕ → List ℕ) (left_of : ℕ → ℕ) (checks : Accepts) where
  -- Each run of a script whose lines can be run, or of its first lines, belongs to it.
  abbrev pub RunsBelong : Type 0
  RunsBelong =
      (script front rest : List Command) (first last : Running (CellBank S C) C) (printed : List (List ℕ)) → script ≡ front ++ rest → AllCanRun script
      → Begins key left accepts key_of left_of checks (first_ids script) first
      → (runs : Runs key left size signs fit accepts key_of left_of checks front first last printed)
      → Belongs key left size signs fit accepts key_of left_of checks (first_ids script) front first last printed runs
