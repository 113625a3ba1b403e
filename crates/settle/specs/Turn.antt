-- What a settling does after a call, and what it says.
use Rattle.std.specs.Prelude.{◌≡◌, ◌≢◌, ◌⊎◌, ℕ, ◌-◌, ◌*◌, ◌^◌, ◌≤◌, ◌<◌, true, List, [], length, map, slice_get, Some, None, IsSome, Result, Ok, Err, IsErr}
use Rattle.std.specs.Global.{Vec}
use Rattle.chain_block.specs.declared.meta_block.MetaBlock.{MetaBlock}
use Rattle.nim_base.specs.declared.no_memory.NoMemory.{NoMemory as MemoryWanted}
use Rattle.statement.specs.declared.member.Member.{Member}
use Rattle.statement.specs.declared.statement.Statement.TheVariants.{Held}
use Rattle.statement.specs.Config.{quorum, weight_together}
use Rattle.statement.specs.Mark.{Content as Mark, id_of, AreMarks}
use Rattle.statement.specs.Receipt.{Receipt, receipt_bytes}
use Rattle.port.specs.declared.refusal.Refusal.{Refusal}
use Rattle.port.specs.declared.store_answers.Attached.{Attached}
use Rattle.port.specs.declared.store_answers.Attached.TheVariants.{NoMemory}
use Rattle.port.specs.Cause.{MemberCause, Cause, cause_of}
use Rattle.view_ledger.specs.Receipts.{Accepts}
use Rattle.view_ledger.specs.Views.{newest_tail, newest_config}
use Rattle.op_parts.specs.declared.round_progress.RoundProgress.{RoundProgress}
use Rattle.op_parts.specs.declared.round_progress.RoundProgress.TheVariants as rounds
use Rattle.op_parts.specs.declared.walk.WalkProgress.{WalkProgress}
use Rattle.op_parts.specs.declared.walk.WalkProgress.TheVariants as walks
use Rattle.op_parts.specs.RoundRefusal.{first_given, above}
use Rattle.op_parts.specs.RoundSound.{Sound as SoundRound}
use Rattle.op_parts.specs.RoundState.{State as Round, is_live as is_asking, calls_each, calls_left as round_calls}
use Rattle.op_parts.specs.Walk.{Walk, Place}
use Rattle.settle.specs.declared.progress.SettleProgress.{SettleProgress}
use Rattle.settle.specs.declared.progress.SettleProgress.TheVariants.{More, Stands, Refused}
use Rattle.settle.specs.State.{Stage, AtRound, AtWalk, AtAttach, AtEnd}
use Rattle.settle.specs.Says.{cause_at}

-- a settling goes on with this stage
abbrev pub GoesOn : Stage → Stage → Result SettleProgress MemoryWanted → Type 0
GoesOn next stage answer = (stage ≡ next) × (answer ≡ Ok More)

-- it has ended: refused; refused for this cause; with these metablocks and this receipt; for want of memory
abbrev pub IsRefusedBy : Refusal → Stage → Result SettleProgress MemoryWanted → Type 0
IsRefusedBy refusal stage answer = (stage ≡ AtEnd) × (answer ≡ Ok (Refused refusal))

abbrev pub IsRefusedFor : Cause → Stage → Result SettleProgress MemoryWanted → Type 0
IsRefusedFor cause stage answer = (refusal : Refusal) × IsRefusedBy refusal stage answer × (cause_of refusal ≡ cause)

abbrev pub StandsBy : List MetaBlock → Receipt → Stage → Result SettleProgress MemoryWanted → Type 0
StandsBy blocks receipt stage answer = (chain : Vec MetaBlock) × (stage ≡ AtEnd) × (answer ≡ Ok (Stands chain receipt)) × (chain.items ≡ blocks)

abbrev pub Lacks : Stage → Result SettleProgress MemoryWanted → Type 0
Lacks stage answer = (stage ≡ AtEnd) × IsErr answer

-- the receipt of these marks for the row at the top
abbrev pub receipt_of : List (List Member) → List ℕ → List Mark → Place → Receipt
receipt_of configs handle marks place = record { statement = Held (newest_tail configs) handle place.tail place.height; marks = marks }

-- the members with these marks are a quorum, and a receipt can be written of them
abbrev pub AreEnough : List (List Member) → List Mark → Type 0
AreEnough configs marks = (quorum (newest_config configs) ≤ weight_together (newest_config configs) (map id_of marks)) × AreMarks marks

-- marks that are enough make a receipt, which is to be attached
abbrev pub TakesMarks : List (List Member) → List ℕ → List Mark → Place → Stage → Result SettleProgress MemoryWanted → Type 0
TakesMarks configs handle marks place stage answer =
    GoesOn (AtAttach (receipt_of configs handle marks place) (receipt_bytes (receipt_of configs handle marks place)) place) stage answer ⊎ Lacks stage answer

-- a walk that begins above this place
abbrev pub walk_from : List ℕ → Place → Walk
walk_from handle place = record { handle = handle; place = record { tail = place.tail; height = place.height; blocks = [] }; live = true }

-- where a member has come further than the row that is settled, the walk begins
abbrev pub TakesReasons : List (List Member) → List ℕ → List (ℕ × MemberCause) → Place → Stage → Result SettleProgress MemoryWanted → Type 0
TakesReasons configs handle causes place stage answer =
    ((place.blocks ≡ []) × IsSome (first_given (above place.height) causes) × GoesOn (AtWalk (walk_from handle place) causes) stage answer)
    ⊎ ((place.blocks ≡ [] → first_given (above place.height) causes ≡ None) × IsRefusedFor (cause_at configs place.height causes) stage answer)

-- all were asked: the marks are enough, or not
abbrev pub TakesAsked : List (List Member) → List ℕ → Round → Place → Stage → Result SettleProgress MemoryWanted → Type 0
TakesAsked configs handle round place stage answer =
    (AreEnough configs round.marks × TakesMarks configs handle round.marks place stage answer)
    ⊎ ((AreEnough configs round.marks → ⊥) × TakesReasons configs handle round.reasons place stage answer)

-- how the round at the top stands now decides what comes next
abbrev pub TakesRound : List (List Member) → List ℕ → Round → Place → Result RoundProgress MemoryWanted → Stage → Result SettleProgress MemoryWanted → Type 0
TakesRound configs handle round place (Ok rounds.More) stage answer = GoesOn (AtRound round place) stage answer
TakesRound configs handle round place (Ok rounds.Asked) stage answer = TakesAsked configs handle round place stage answer
TakesRound configs handle round place (Ok (rounds.Row refusal)) stage answer = IsRefusedBy refusal stage answer
TakesRound configs handle round place (Err wanted) stage answer = (stage ≡ AtRound round place) × IsErr answer

-- a round over the row with this metablock that has asked nobody
pub record IsNewRound (handle : List ℕ) (block : MetaBlock) (round : Round) : Type 0 where
  pub sound : (accepts : Accepts) (view : List ℕ) (members : List Member)
      → SoundRound accepts (record { handle = handle; block = block; view = view; members = members }) round []
  pub live : (members : ℕ) → 0 < members → is_asking members round ≡ true
  pub calls : (members : ℕ) → 0 < members → round_calls members round ≡ members * calls_each block.height
  pub fits : block.height < 2 ^ 64

-- no further row stands: a round begins over the last one, if the walk has come to any
abbrev pub TakesTop : List (List Member) → List ℕ → Place → List (ℕ × MemberCause) → Stage → Result SettleProgress MemoryWanted → Type 0
TakesTop configs handle place causes stage answer =
    ((place.blocks ≡ []) × IsRefusedFor (cause_at configs place.height causes) stage answer)
    ⊎ ((block : MetaBlock) × (round : Round) × (slice_get place.blocks (length place.blocks - 1) ≡ Some block)
    × IsNewRound handle block round × GoesOn (AtRound round place) stage answer)

-- how the walk stands now decides what comes next
abbrev pub TakesWalk : List (List Member) → List ℕ → Walk → List (ℕ × MemberCause) → Result WalkProgress MemoryWanted → Stage → Result SettleProgress MemoryWanted → Type 0
TakesWalk configs handle walk causes (Ok walks.More) stage answer = GoesOn (AtWalk walk causes) stage answer
TakesWalk configs handle walk causes (Ok (walks.Stands receipt)) stage answer = StandsBy walk.place.blocks receipt stage answer
TakesWalk configs handle walk causes (Ok walks.Top) stage answer = TakesTop configs handle walk.place causes stage answer
TakesWalk configs handle walk causes (Ok (walks.Refused refusal)) stage answer = IsRefusedBy refusal stage answer
TakesWalk configs handle walk causes (Err wanted) stage answer = Lacks stage answer

-- after an attach the row stands, unless the store wanted memory
abbrev pub TakesAttached : Receipt → Place → Attached → Stage → Result SettleProgress MemoryWanted → Type 0
TakesAttached receipt place attached stage answer =
    ((attached ≢ NoMemory) × StandsBy place.blocks receipt stage answer) ⊎ ((attached ≡ NoMemory) × Lacks stage answer)
