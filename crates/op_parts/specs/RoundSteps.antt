-- What a step makes of a round.
use Rattle.std.specs.Prelude.{◌≡◌, ◌⊎◌, ◌↔◌, ℕ, ◌+◌, ◌*◌, ◌==◌, ◌<◌, true, if◌then◌else◌, [], ◌∷◌, ◌++◌, Result, Ok, Err, IsErr}
use Rattle.nim_base.specs.declared.no_memory.NoMemory.{NoMemory as MemoryWanted}
use Rattle.port.specs.Answer.{Behind, Stands}
use Rattle.port.specs.Cause.{Denied, member_cause_of}
use Rattle.port.specs.Heard.{Heard}
use Rattle.catch_up.specs.declared.progress.Progress.{Progress}
use Rattle.catch_up.specs.declared.progress.Progress.TheVariants as caught
use Rattle.catch_up.specs.State.{State as CatchingUp, calls_left}
use Rattle.catch_up.specs.Sound.{Sound}
use Rattle.view_ledger.specs.Receipts.{Accepts}
use Rattle.op_parts.specs.declared.round_progress.RoundProgress.{RoundProgress}
use Rattle.op_parts.specs.declared.round_progress.RoundProgress.TheVariants.{More, Asked, Row}
use Rattle.op_parts.specs.declared.round_stage.Stage.{Stage}
use Rattle.op_parts.specs.declared.round_stage.Stage.TheVariants.{First, CatchUp, Again, Ended}
use Rattle.op_parts.specs.declared.round_turn.Turn.{Turn}
use Rattle.op_parts.specs.RoundAsking.{claim_of}
use Rattle.op_parts.specs.RoundOutcome.{Outcome, Marked, Blamed, IsOutcome}
use Rattle.op_parts.specs.RoundState.{State, is_live, calls_left as calls_of_round}

abbrev pub at : Stage → State → State
at stage state = record state { stage = stage }

-- the member has its mark or its reason
abbrev pub recorded : ℕ → Outcome → State → State
recorded id (Marked sig) state = record state { marks = state.marks ++ record { id = id; sig = sig } ∷ [] }
recorded id (Blamed cause) state = record state { reasons = state.reasons ++ (id, cause) ∷ [] }

-- the next member's turn comes, or all were asked
abbrev pub next_stage : ℕ → ℕ → Stage
next_stage asked members = if asked == members then Ended else First

abbrev pub next_answer : ℕ → ℕ → RoundProgress
next_answer asked members = if asked == members then Asked else More

abbrev pub passed : ℕ → State → State
passed members state = record state { asked = state.asked + 1; stage = next_stage (state.asked + 1) members }

-- With this outcome the member's turn ends; where memory was wanted nothing changes.
abbrev pub Finishes : Turn → Outcome → State → State → Result RoundProgress MemoryWanted → Type 0
Finishes turn outcome old new (Ok progress) =
    (new ≡ passed turn.members (recorded turn.member.id outcome old)) × (progress ≡ next_answer (old.asked + 1) turn.members)
Finishes turn outcome old new (Err wanted) = new ≡ old

-- the count of a member that is to be caught up is below the height
abbrev pub IsLower : ℕ → Outcome → Type 0
IsLower height (Blamed (Denied (Behind count))) = count < height
IsLower height outcome = Unit {0}

-- the member's catch-up from this count begins
abbrev pub Begins : ℕ → ℕ → State → State → Type 0
Begins member from old new =
    (catch_up : CatchingUp) × (new ≡ at (CatchUp catch_up) old)
    × Sound (record { member = member; handle = old.handle; count = old.block.height }) from catch_up []
    × (calls_left catch_up < 2 * old.block.height + 1)

-- after the first append the member's turn ends, unless it is behind: then its catch-up begins
abbrev pub TakesVerdict : Turn → Outcome → State → State → Result RoundProgress MemoryWanted → Type 0
TakesVerdict turn (Blamed (Denied (Behind from))) old new result = Begins turn.member.id from old new × (result ≡ Ok More)
TakesVerdict turn outcome old new result = Finishes turn outcome old new result

-- what was heard of the first append of the row decides what comes next
abbrev pub TakesFirst : Accepts → Turn → Heard → State → State → Result RoundProgress MemoryWanted → Type 0
TakesFirst accepts turn heard old new result =
    ((outcome : Outcome) × IsOutcome accepts (claim_of turn.view old.handle old.block) turn.member.key heard outcome × TakesVerdict turn outcome old new result)
    ⊎ ((new ≡ old) × IsErr result)

-- what was heard of the second append of the row ends the member's turn
abbrev pub TakesAgain : Accepts → Turn → Heard → State → State → Result RoundProgress MemoryWanted → Type 0
TakesAgain accepts turn heard old new result =
    ((outcome : Outcome) × IsOutcome accepts (claim_of turn.view old.handle old.block) turn.member.key heard outcome × Finishes turn outcome old new result)
    ⊎ ((new ≡ old) × IsErr result)

-- how the catch-up stands now decides what comes next
abbrev pub TakesProgress : Turn → CatchingUp → Result Progress MemoryWanted → State → State → Result RoundProgress MemoryWanted → Type 0
TakesProgress turn catch_up (Ok caught.More) old new result = (new ≡ at (CatchUp catch_up) old) × (result ≡ Ok More)
TakesProgress turn catch_up (Ok caught.Reached) old new result = (new ≡ at Again old) × (result ≡ Ok More)
TakesProgress turn catch_up (Ok (caught.Ahead count tail)) old new result = Finishes turn (Blamed (Denied (Stands count tail))) old new result
TakesProgress turn catch_up (Ok (caught.Member reason)) old new result = Finishes turn (Blamed (member_cause_of reason)) old new result
TakesProgress turn catch_up (Ok (caught.Row refusal)) old new result = (new ≡ old) × (result ≡ Ok (Row refusal))
TakesProgress turn catch_up (Err wanted) old new result = (new ≡ old) × (result ≡ Err wanted)

-- What a caller's loop rests on: it goes on while there is more to do, which gets less.
pub record Moves (members bound : ℕ) (new : State) (result : Result RoundProgress MemoryWanted) : Type 0 where
  pub live : (result ≡ Ok More) ↔ (is_live members new ≡ true)
  pub asked : result ≡ Ok Asked → new.asked ≡ members
  pub falls : calls_of_round members new < bound
