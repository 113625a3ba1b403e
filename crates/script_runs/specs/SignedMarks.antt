-- Which marks of the replies that clients took were signed by endorsers of the run.
use Rattle.std.specs.Prelude.{◌≡◌, ◌⊎◌, ◌<◌, ◌^◌, ℕ, Bool, true, false, List, [], ◌∷◌, ◌++◌, slice_get}
use Rattle.std.specs.List.{AllByRecursion}
use Rattle.std.specs.Option.{option_map_or}
use Rattle.fault_script.specs.Command.{Command, Offer, Forge}
use Rattle.statement.specs.declared.statement.Statement.{Statement}
use Rattle.statement.specs.Mark.{Content as Mark}
use Rattle.statement.specs.Receipt.{Receipt}
use Rattle.port.specs.Answer.{Signed}
use Rattle.port.specs.Link.{Served}
use Rattle.view_ledger.specs.Receipts.{Accepts}
use Rattle.client_pass.specs.Act.{Act, Draw, Append, Latest, At, Look, View, Line}
use Rattle.client_pass.specs.ClientPass.{ClientPass}
use Rattle.endorser_cell.specs.CellBank.{CellBank}
use Rattle.script_world.specs.Running.{Running}
use Rattle.script_runs.specs.OwnCalls.{served_in}
use Rattle.script_runs.specs.Runs.{Runs}

-- each of these ids has four bytes
abbrev pub HaveFourBytes : List ℕ → Type 0
HaveFourBytes ids = AllByRecursion (λ (id : ℕ). id < 2 ^ 32) ids

-- in one of these calls the endorser of the id answered this statement with this signature
abbrev pub WasSigned : List Served → ℕ → Statement → List ℕ → Type 0
WasSigned [] id statement sig = ⊥
WasSigned (one ∷ past) id statement sig = ((one.id ≡ id) × (one.answer ≡ Signed statement sig)) ⊎ WasSigned past id statement sig

-- each mark of the receipt is what its endorser signed the receipt's statement with
abbrev pub AreSigned : List Served → Receipt → Type 0
AreSigned served receipt = AllByRecursion (λ (mark : Mark). WasSigned served mark.id receipt.statement mark.sig) receipt.marks

-- so it is of the reply that was checked, whatever came of the check; draws and views are of no reply
abbrev pub IsOfSigned : List Served → Act → Type 0
IsOfSigned served (Draw nonce intent) = Unit {0}
IsOfSigned served (Append draw reply fault) = AreSigned served reply.receipt
IsOfSigned served (Latest draw handle reply fault) = AreSigned served reply.receipt
IsOfSigned served (At handle height reply fault) = AreSigned served reply.receipt
IsOfSigned served (Look handle height reply fault) = AreSigned served reply.receipt
IsOfSigned served (View row fault) = Unit {0}

abbrev pub AreOfSigned : List Served → List Line → Type 0
AreOfSigned served lines = AllByRecursion (λ (line : Line). IsOfSigned served line.act) lines

-- the lines of the client at this place, none where no client came yet
abbrev pub lines_at : {C : Type 0} → List (ClientPass C) → ℕ → List Line
lines_at clients place = option_map_or (λ pass. pass.lines) (slice_get clients place) []

-- Each client has its lines still, and those that it has besides are of replies whose marks were signed by then.
abbrev pub AddsSigned : {S C : Type 0} → Running (CellBank S C) C → Running (CellBank S C) C → Type 0
AddsSigned old new =
    (place : ℕ) → (more : List Line) × (lines_at new.clients place ≡ lines_at old.clients place ++ more) × AreOfSigned (served_in new) more

-- a line that gives a client another reply than the coordinator's
abbrev pub gives_other : Command → Bool
gives_other (Offer op ids) = true
gives_other (Forge op count ids) = true
gives_other _ = false

module _ {S C : Type 0} (key : S → List ℕ) (left size : S → ℕ) (signs : S → List ℕ → List ℕ → S → Type 0) (fit : S → C → Type 0) (accepts : C → Accepts) (key_of : ℕ → List ℕ) (left_of : ℕ → ℕ) (checks : Accepts) where
  -- each line adds such lines to those of its clients, unless it gives a client another reply
  abbrev pub AllSigned : (script : List Command) (old new : Running (CellBank S C) C) (printed : List (List ℕ)) → Runs key left size signs fit accepts key_of left_of checks script old new printed → Type 0
  AllSigned [] old new printed runs = Unit {0}
  AllSigned (command ∷ commands) old new printed (middle, said, rest, did, runs, split) =
      (gives_other command ≡ false → AddsSigned old middle) × AllSigned commands middle new rest runs
