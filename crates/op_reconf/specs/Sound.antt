-- Which calls the setting up of view 0 has made.
use Rattle.std.specs.Prelude.{◌≡◌, ◌⊎◌, ℕ, ◌≤◌, ◌<◌, List, [], ◌∷◌, ◌++◌, length, Result, Ok, Err}
use Rattle.statement.specs.Config.{quorum, weight_together, IsConfig}
use Rattle.port.specs.declared.store_answers.Put.{Put}
use Rattle.port.specs.declared.store_answers.Put.TheVariants as puts
use Rattle.port.specs.declared.store_answers.Attached.{Attached}
use Rattle.port.specs.declared.store_answers.Attached.TheVariants as attaches
use Rattle.port.specs.Cause.{Cause, MemberCause, StoreFault, NoQuorum, NoMemory}
use Rattle.port.specs.Trace.{Event}
use Rattle.port.specs.View.{ViewRow}
use Rattle.view_ledger.specs.Views.{ViewChain}
use Rattle.view_ledger.specs.Receipts.{Accepts}
use Rattle.op_reconf.specs.SetUpSound.{AreAsked, SetUpSound, WasCut}
use Rattle.op_reconf.specs.First.{first_config, first_row, put_event, first_asking, mark_event, IsPlaced, IsMarked}
use Rattle.op_reconf.specs.State.{StageState, AtPut, AtMembers, AtMark, AtEnd, State}

-- view 0 was put, and then all its members had their turns: these are done, and the others have these reasons
abbrev pub AreAllAsked : ViewChain → List ℕ → List (ℕ × MemberCause) → List Event → Type 0
AreAllAsked from done reasons past =
    (put : Put) × IsPlaced put × AreAsked (first_asking from) (put_event (first_config from) put ∷ []) (length (first_config from)) done reasons past

-- by these calls those that are done weigh enough
abbrev pub HasQuorum : ViewChain → List Event → Type 0
HasQuorum from past =
    (done : List ℕ) × (reasons : List (ℕ × MemberCause)) × AreAllAsked from done reasons past
    × (quorum (first_config from) ≤ weight_together (first_config from) done)

-- memory was wanted: before any call, in the put or after it, in a member's turn, or in the attaching of the mark
abbrev pub WasStopped : ViewChain → List Event → Type 0
WasStopped from past =
    (past ≡ [])
    ⊎ ((put : Put) × (past ≡ put_event (first_config from) put ∷ []))
    ⊎ ((put : Put) × IsPlaced put × WasCut (first_asking from) (put_event (first_config from) put ∷ []) past)
    ⊎ ((earlier : List Event) × (past ≡ mark_event attaches.NoMemory ∷ earlier) × HasQuorum from earlier)

-- these calls ended with this answer
abbrev pub EndedWith : ViewChain → List Event → Result ViewRow Cause → Type 0
EndedWith from past (Ok row) =
    (row ≡ first_row (first_config from))
    × ((attached : Attached) × (earlier : List Event) × IsMarked attached × (past ≡ mark_event attached ∷ earlier) × HasQuorum from earlier)
EndedWith from past (Err StoreFault) =
    (past ≡ put_event (first_config from) puts.Failed ∷ [])
    ⊎ ((earlier : List Event) × (past ≡ mark_event attaches.Failed ∷ earlier) × HasQuorum from earlier)
EndedWith from past (Err (NoQuorum need reasons)) =
    (need ≡ quorum (first_config from))
    × ((done : List ℕ) × AreAllAsked from done reasons past × (weight_together (first_config from) done < quorum (first_config from)))
EndedWith from past (Err NoMemory) = WasStopped from past
EndedWith from past (Err cause) = ⊥

-- what a stage rests on
abbrev pub AtStage : ViewChain → StageState → List Event → Type 0
AtStage from AtPut past = past ≡ []
AtStage from (AtMembers set_up) past =
    (put : Put) × IsPlaced put × SetUpSound (first_asking from) (put_event (first_config from) put ∷ []) set_up past
AtStage from (AtMark row) past = (row ≡ first_row (first_config from)) × HasQuorum from past
AtStage from (AtEnd answer) past = EndedWith from past answer

-- From this chain on, by these calls, the newest first, and no other, the operation has come to this state. No signature is
-- checked on the way, whatever the checker accepts.
pub record Sound (accepts : Accepts) (from : ViewChain) (state : State) (past : List Event) : Type 0 where
  pub chain : state.chain ≡ from
  pub config : IsConfig (first_config from)
  pub at : AtStage from state.stage past

-- one call was made, or none where memory was wanted for the first one
abbrev pub MakesOne : State → List Event → State → Type 0
MakesOne old [] new = (old.stage ≡ AtPut) × (new.stage ≡ AtEnd (Err NoMemory))
MakesOne old (event ∷ []) new = Unit {0}
MakesOne old events new = ⊥

-- whatever calls it has made, it has then made these too
abbrev pub Leads : Accepts → State → List Event → State → Type 0
Leads accepts old events new =
    (from : ViewChain) (past : List Event) → Sound accepts from old past → Sound accepts from new (events ++ past)
