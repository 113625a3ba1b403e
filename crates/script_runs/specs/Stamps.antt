-- In which order the events of a run come. The stamp of an event is the number of events before it.
use Rattle.std.specs.Prelude.{◌≡◌, ℕ, List, [], ◌∷◌, ◌++◌, reverse, slice_get, Some}
use Rattle.std.specs.List.{AllByRecursion}
use Rattle.statement.specs.Config.{ids}
use Rattle.fault_script.specs.Command.{Request, Command, Plain, Begin, Finish, Retry, Offer, Forge}
use Rattle.fault_script.specs.Command as requests
use Rattle.port.specs.Link.{Served}
use Rattle.view_ledger.specs.Receipts.{Accepts}
use Rattle.endorser_cell.specs.CellBank.{CellBank}
use Rattle.run_record.specs.declared.actor.Actor.{Actor}
use Rattle.run_record.specs.declared.actor.Actor.TheVariants.{Client}
use Rattle.run_record.specs.Events.{count_client}
use Rattle.run_order.specs.Order.{calls, order_of}
use Rattle.client_acts.specs.ClientActs.{line_count}
use Rattle.script_operations.specs.Operations.{Begun, IsNamed, Operations}
use Rattle.script_operations.specs.Task.{client_of}
use Rattle.script_world.specs.Running.{Running}
use Rattle.script_runs.specs.OwnCalls.{served_in}
use Rattle.script_runs.specs.Roster.{all_members}
use Rattle.script_runs.specs.Runs.{Runs, client_in}

-- all events of a run so far, by the places of its endorsers in a roster of these ids and of its clients
abbrev pub events_of : {S C : Type 0} → List ℕ → Running (CellBank S C) C → List Actor
events_of roster run = order_of roster (served_in run) run.turns

-- each client has as many lines as there are events of it, so that each of its lines is one of them, in their order
abbrev pub AreNoted : {S C : Type 0} → List ℕ → Running (CellBank S C) C → Type 0
AreNoted roster run = (place : ℕ) → count_client place (events_of roster run) ≡ line_count run.clients place

-- ---- whose lines a line of the script writes

-- the client at the place is the one that the request names
abbrev pub IsAsker : {L C : Type 0} → Running L C → Request → ℕ → Type 0
IsAsker new request place = slice_get new.names place ≡ Some (client_in request)

-- one draw of that client
abbrev pub DrawsOnce : {L C : Type 0} → Running L C → Request → List Actor → Type 0
DrawsOnce new request drawn = (place : ℕ) × IsAsker new request place × (drawn ≡ Client place ∷ [])

-- what a request draws: a read at a height draws nothing
abbrev pub DrawsFor : {L C : Type 0} → Running L C → Request → List Actor → Type 0
DrawsFor new (requests.New client label payload) drawn = DrawsOnce new (requests.New client label payload) drawn
DrawsFor new (requests.Append client label height payload) drawn = DrawsOnce new (requests.Append client label height payload) drawn
DrawsFor new (requests.Latest client label) drawn = DrawsOnce new (requests.Latest client label) drawn
DrawsFor new (requests.At client label height) drawn = drawn ≡ []
DrawsFor new (requests.Reconfigure ids) drawn = drawn ≡ []

-- Lines that run a request and lines that begin one draw for it, and no others do.
abbrev pub Draws : {L C : Type 0} → Running L C → Command → List Actor → Type 0
Draws new (Plain request) drawn = DrawsFor new request drawn
Draws new (Begin op request) drawn = DrawsFor new request drawn
Draws new command drawn = drawn ≡ []

-- the client at the place is the one for whom the operation of this name was begun
abbrev pub IsClientOf : Operations → List ℕ → ℕ → Type 0
IsClientOf operations op place = (at : ℕ) × (begun : Begun) × IsNamed operations op at begun × (client_of begun.task ≡ place)

-- Besides draws, only the client whose request is run, or whose operation comes to an answer or is given a reply, writes anything.
abbrev pub MayWrite : {L C : Type 0} → Running L C → Running L C → Command → ℕ → Type 0
MayWrite old new (Plain request) place = IsAsker new request place
MayWrite old new (Finish op) place = IsClientOf old.operations op place
MayWrite old new (Retry op) place = IsClientOf old.operations op place
MayWrite old new (Offer op ids) place = IsClientOf old.operations op place
MayWrite old new (Forge op count ids) place = IsClientOf old.operations op place
MayWrite old new command place = ⊥

-- lines of such clients
abbrev pub AreLinesOf : (ℕ → Type 0) → List Actor → Type 0
AreLinesOf P events = AllByRecursion (λ (event : Actor). (place : ℕ) × (event ≡ Client place) × P place) events

-- ---- the rule

-- All that a line of the script adds comes after the events before it: a draw first, then all calls that were served, and then what its
-- client wrote; and then each client has just the lines whose events there are. So each line has one run of consecutive stamps, and whoever
-- checks a reply does so at a higher stamp than those of the calls.
pub record InOrder {S C : Type 0} (roster : List ℕ) (command : Command) (old new : Running (CellBank S C) C) : Type 0 where
  pub drawn : List Actor
  pub more : List Served
  pub written : List Actor
  pub draws : Draws new command drawn
  pub served : served_in new ≡ more ++ served_in old
  pub writes : AreLinesOf (MayWrite old new command) written
  pub events : events_of roster new ≡ events_of roster old ++ (drawn ++ (calls roster (reverse more) ++ written))
  pub noted : AreNoted roster new

module _ {S C : Type 0} (key : S → List ℕ) (left size : S → ℕ) (signs : S → List ℕ → List ℕ → S → Type 0) (fit : S → C → Type 0) (accepts : C → Accepts) (key_of : ℕ → List ℕ) (left_of : ℕ → ℕ) (checks : Accepts) where
  abbrev pub Ran : List Command → Running (CellBank S C) C → Running (CellBank S C) C → List (List ℕ) → Type 0
  Ran = Runs key left size signs fit accepts key_of left_of checks

  -- Each line of the script adds its events so.
  abbrev pub AllInOrder : (script : List Command) (old new : Running (CellBank S C) C) (printed : List (List ℕ)) → Ran script old new printed → Type 0
  AllInOrder [] old new printed ran = Unit {0}
  AllInOrder (command ∷ commands) old new printed (middle, said, rest, did, ran, split) =
      InOrder (ids (all_members key_of)) command old middle × AllInOrder commands middle new rest ran
