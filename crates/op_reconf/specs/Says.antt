-- What the answer to the setting up of view 0 says of its calls.
use Rattle.std.specs.Prelude.{◌≡◌, ◌⊎◌, ℕ, ◌+◌, ◌<◌, List, length, map, Some, Result, Ok, Err}
use Rattle.std.specs.List.{AllByRecursion}
use Rattle.statement.specs.Config.{ids, quorum, weight_together, IsQuorum}
use Rattle.port.specs.declared.store_answers.Put.{Put}
use Rattle.port.specs.declared.store_answers.Put.TheVariants as puts
use Rattle.port.specs.declared.store_answers.Attached.{Attached}
use Rattle.port.specs.declared.store_answers.Attached.TheVariants as attaches
use Rattle.port.specs.Answer.{Done}
use Rattle.port.specs.Cause.{Cause, MemberCause, StoreFault, NoQuorum, NoMemory}
use Rattle.port.specs.Heard.{Heard, Answered}
use Rattle.port.specs.Trace.{Event, Had}
use Rattle.port.specs.View.{ViewRow}
use Rattle.view_ledger.specs.Views.{ViewChain}
use Rattle.op_parts.specs.RoundLaws.{AreParted}
use Rattle.op_reconf.specs.SettingUp.{Asking, Gives}
use Rattle.op_reconf.specs.SetUpSound.{initialize_at, activate_at}
use Rattle.op_reconf.specs.First.{first_config, first_row, put_event, first_asking, mark_event, IsPlaced, IsMarked}

-- the member was done with both calls
abbrev pub IsDone : Asking → List Event → ℕ → Type 0
IsDone ask events id = Had events (initialize_at ask id (Answered Done)) × Had events (activate_at ask id (Answered Done))

-- of one of the two calls to the member this reason was heard
abbrev pub IsReasonShown : Asking → List Event → ℕ × MemberCause → Type 0
IsReasonShown ask events reason =
    (heard : Heard) × Gives heard (Some reason.1) × (Had events (initialize_at ask reason.0 heard) ⊎ Had events (activate_at ask reason.0 heard))

-- view 0 was put, and it stands or another one in its place
abbrev pub IsPut : ViewChain → List Event → Type 0
IsPut from events = (put : Put) × IsPlaced put × Had events (put_event (first_config from) put)

-- a quorum of the members was done
abbrev pub IsSetUp : ViewChain → List Event → Type 0
IsSetUp from events = (done : List ℕ) × IsQuorum (first_config from) done × AllByRecursion (IsDone (first_asking from) events) done

-- These members were done and weigh too little, and each other one has its reason.
pub record AreTooFew (from : ViewChain) (events : List Event) (reasons : List (ℕ × MemberCause)) : Type 0 where
  pub done : List ℕ
  pub parted : AreParted (ids (first_config from)) done (map (λ r. r.0) reasons)
  pub less : weight_together (first_config from) done < quorum (first_config from)
  pub many : length (first_config from) < length reasons + quorum (first_config from)
  pub are_done : AllByRecursion (IsDone (first_asking from) events) done
  pub shown : AllByRecursion (IsReasonShown (first_asking from) events) reasons

-- the cause of a refusal
abbrev pub IsRefused : ViewChain → List Event → Cause → Type 0
IsRefused from events StoreFault = Had events (put_event (first_config from) puts.Failed) ⊎ Had events (mark_event attaches.Failed)
IsRefused from events (NoQuorum need reasons) = (need ≡ quorum (first_config from)) × AreTooFew from events reasons
IsRefused from events NoMemory = Unit {0}
IsRefused from events cause = ⊥

-- The row is view 0, which was put; a quorum of its members began in it; and it is marked as complete, or nothing stood that
-- could be marked.
abbrev pub Says : ViewChain → List Event → Result ViewRow Cause → Type 0
Says from events (Ok row) =
    (row ≡ first_row (first_config from))
    × IsPut from events
    × IsSetUp from events
    × ((attached : Attached) × IsMarked attached × Had events (mark_event attached))
Says from events (Err cause) = IsRefused from events cause
