-- Which calls a round has made, and what they made of the members.
use Rattle.std.specs.Prelude.{◌≡◌, ◌⊎◌, ℕ, zero, suc, ◌<◌, List, [], ◌∷◌, ◌++◌, slice_get, Some, Result, Ok}
use Rattle.nim_base.specs.declared.no_memory.NoMemory.{NoMemory}
use Rattle.chain_block.specs.declared.meta_block.MetaBlock.{MetaBlock}
use Rattle.statement.specs.declared.member.Member.{Member}
use Rattle.statement.specs.Mark.{Content}
use Rattle.port.specs.Cause.{MemberCause, cause_of}
use Rattle.port.specs.Trace.{Event}
use Rattle.catch_up.specs.declared.progress.Progress.TheVariants.{Reached}
use Rattle.catch_up.specs.Told.{told}
use Rattle.catch_up.specs.Says.{IsRowRefused}
use Rattle.catch_up.specs.Sound.{Sound as SoundCatchUp}
use Rattle.view_ledger.specs.Receipts.{Accepts}
use Rattle.op_parts.specs.declared.round_progress.RoundProgress.{RoundProgress}
use Rattle.op_parts.specs.declared.round_progress.RoundProgress.TheVariants.{Row}
use Rattle.op_parts.specs.declared.round_stage.Stage.{Stage}
use Rattle.op_parts.specs.declared.round_stage.Stage.TheVariants.{First, CatchUp, Again, Ended}
use Rattle.op_parts.specs.RoundAsking.{Asking, target_of}
use Rattle.op_parts.specs.RoundOutcome.{Marked, Blamed}
use Rattle.op_parts.specs.RoundTurn.{WasBehind, EndedSo, IsTurn, Ends}
use Rattle.op_parts.specs.RoundState.{State}

abbrev pub IsMember : Asking → ℕ → Member → Type 0
IsMember ask n member = slice_get ask.members n ≡ Some member

-- The first members, so many, were asked one after the other by these calls, the newest first; these have marks, and the
-- others these reasons.
abbrev pub AreAsked : Accepts → Asking → ℕ → List Content → List (ℕ × MemberCause) → List Event → Type 0
AreAsked accepts ask zero marks reasons past = (marks ≡ []) × (reasons ≡ []) × (past ≡ [])
AreAsked accepts ask (suc n) marks reasons past =
    (member : Member) × (calls before : List Event) × IsMember ask n member × (past ≡ calls ++ before)
    × (((sig : List ℕ) × (others : List Content) × (marks ≡ others ++ record { id = member.id; sig = sig } ∷ [])
    × Ends accepts ask member calls (Marked sig) × AreAsked accepts ask n others reasons before)
    ⊎ ((cause : MemberCause) × (others : List (ℕ × MemberCause)) × (reasons ≡ others ++ (member.id, cause) ∷ [])
    × Ends accepts ask member calls (Blamed cause) × AreAsked accepts ask n marks others before))

-- what a stage rests on: the calls to the member whose turn it is
abbrev pub AtStage : Asking → ℕ → Stage → List Event → Type 0
AtStage ask n First calls = calls ≡ []
AtStage ask n (CatchUp catch_up) calls =
    (member : Member) × (from : ℕ) × (later : List Event) × IsMember ask n member
    × WasBehind ask member.id from later calls × SoundCatchUp (target_of ask member.id) from catch_up later
AtStage ask n Again calls =
    (member : Member) × (from : ℕ) × (later : List Event) × IsMember ask n member
    × WasBehind ask member.id from later calls × EndedSo ask member.id from later Reached
AtStage ask n Ended calls = (calls ≡ []) ⊎ ((member : Member) × IsMember ask n member × IsTurn ask member.id calls)

-- A round with this row has made these calls, the newest first, and no other.
pub record Sound (accepts : Accepts) (ask : Asking) (state : State) (past : List Event) : Type 0 where
  pub handle : state.handle ≡ ask.handle
  pub block : state.block ≡ ask.block
  pub calls : List Event
  pub before : List Event
  pub split : past ≡ calls ++ before
  pub asked : AreAsked accepts ask state.asked state.marks state.reasons before
  pub at : AtStage ask state.asked state.stage calls

-- what the answer to a step says of its call: a row was refused, at the height that a member told last
abbrev pub Says : Asking → List Event → Event → Result RoundProgress NoMemory → Type 0
Says ask past event (Ok (Row refusal)) =
    (id : ℕ) × (told id 0 past < ask.block.height) × IsRowRefused ask.handle (told id 0 past) event (cause_of refusal)
Says ask past event result = Unit {0}

-- Whatever calls it has made, it has then made this one too.
abbrev pub Leads : Accepts → List ℕ → List Member → State → Event → State → Result RoundProgress NoMemory → Type 0
Leads accepts view members old event new result =
    (handle : List ℕ) (block : MetaBlock) (past : List Event)
    → let ask : Asking = record { handle = handle; block = block; view = view; members = members } in
    Sound accepts ask old past → Sound accepts ask new (event ∷ past) × Says ask past event result
