-- What the answer to a call makes of an operation: its next stage.
use Rattle.std.specs.Option.{option_map}
use Rattle.std.specs.Prelude.{◌≡◌, ◌⊎◌, ℕ, ◌<◌, true, List, [], replicate, Option, Result, Ok, Err}
use Rattle.nim_base.specs.declared.no_memory.NoMemory.{NoMemory as MemoryWanted}
use Rattle.chain_block.specs.declared.entry.Entry.{Entry}
use Rattle.chain_block.specs.Entry.{handle_of}
use Rattle.statement.specs.declared.member.Member.{Member}
use Rattle.statement.specs.Receipt.{Receipt}
use Rattle.port.specs.declared.store_answers.Put.{Put}
use Rattle.port.specs.declared.store_answers.Put.TheVariants as puts
use Rattle.port.specs.declared.store_answers.Got.{Got}
use Rattle.port.specs.declared.store_answers.Got.TheVariants as gots
use Rattle.port.specs.Cause.{NoMemory, cause_of}
use Rattle.port.specs.GoodRow.{IsGoodRow}
use Rattle.port.specs.Row.{Content}
use Rattle.port.specs.Stored.{Stored}
use Rattle.view_ledger.specs.Receipts.{Accepts}
use Rattle.op_parts.specs.declared.refresh_turn.RefreshProgress.{RefreshProgress}
use Rattle.op_parts.specs.declared.refresh_turn.RefreshProgress.TheVariants as refreshed
use Rattle.op_parts.specs.RefreshState.{RefreshState}
use Rattle.op_parts.specs.Attachment.{IsAttached}
use Rattle.op_parts.specs.Walk.{block_tail}
use Rattle.settle.specs.declared.progress.SettleProgress.{SettleProgress}
use Rattle.settle.specs.declared.progress.SettleProgress.TheVariants as settled
use Rattle.settle.specs.State.{State as Settle, calls_left as settle_calls}
use Rattle.settle.specs.Sound.{Sound as SoundSettle}
use Rattle.op_entry.specs.declared.found.Found.{Found}
use Rattle.op_entry.specs.declared.finding.Finding.{Finding}
use Rattle.op_entry.specs.declared.finding.Finding.TheVariants.{Row, Refused}
use Rattle.op_entry.specs.declared.stage.Stage.{Stage as StageOfCode}
use Rattle.op_entry.specs.Ask.{Ask, NewLedger, AppendEntry, ReadAt}
use Rattle.op_entry.specs.OwnRow.{row_on, height_below}
use Rattle.op_entry.specs.Standing.{head_of, settling_of, IsUnreceipted, answer_with}
use Rattle.op_entry.specs.State.{Stage, Refreshing, GettingBelow, Putting, GettingTaken, GettingAt, Settling, Ended, stage_of, members_in, most_to_settle}
use Rattle.op_entry.specs.Refusal.{OrMemory, IsRowRefused, IsPutRefused}

-- the next stage; where memory was wanted, the operation has ended so
abbrev pub stage_after : Result StageOfCode MemoryWanted → Stage
stage_after (Ok stage) = stage_of stage
stage_after (Err wanted) = Ended (Err NoMemory)

-- how an operation goes on once its chain is refreshed
abbrev pub Starts : Ask → Stage → Type 0
Starts (NewLedger entry) (Putting row) = row ≡ row_on (replicate 32 0) entry
Starts (AppendEntry entry) (GettingBelow own) = own ≡ entry
Starts (ReadAt handle height) (GettingAt ledger place) = (ledger ≡ handle) × (place ≡ height)
Starts ask (Ended answer) = answer ≡ Err NoMemory
Starts ask stage = ⊥

-- by how the refresh stands
abbrev pub TakesProgress : Ask → RefreshState → Result RefreshProgress MemoryWanted → Stage → Type 0
TakesProgress ask refresh (Ok refreshed.More) stage = stage ≡ Refreshing ask refresh
TakesProgress ask refresh (Ok refreshed.Fresh) stage = Starts ask stage
TakesProgress ask refresh (Ok (refreshed.Refused refusal)) stage = stage ≡ Ended (Err (cause_of refusal))
TakesProgress ask refresh (Err wanted) stage = stage ≡ Ended (Err NoMemory)

-- by what the store gave for the row below the entry
abbrev pub TakesBelow : Entry → Got → Stage → Type 0
TakesBelow entry got (Putting row) =
    (stored : Stored) × (below : Content) × (got ≡ gots.Some stored) × IsGoodRow (handle_of entry) (height_below entry) stored.body below
    × (row ≡ row_on (block_tail below.metablock) entry)
TakesBelow entry got (Ended (Err cause)) = OrMemory (IsRowRefused (handle_of entry) (height_below entry) got) cause
TakesBelow entry got stage = ⊥

-- A settling of this row begins under these views: nothing was asked yet.
pub record Begins (configs : List (List Member)) (row : Content) (settle : Settle) : Type 0 where
  pub sound : (accepts : Accepts) → SoundSettle accepts (settling_of configs row) settle []
  pub calls : settle_calls (members_in configs) settle < most_to_settle

-- by what the store answered to the put of the row
abbrev pub TakesPut : List (List Member) → Content → Put → Stage → Type 0
TakesPut configs row puts.Taken (GettingTaken own) = own ≡ row
TakesPut configs row puts.Done (Settling found settle) = (found.is_own ≡ true) × (found.row ≡ row) × Begins configs row settle
TakesPut configs row put (Ended (Err cause)) = OrMemory (IsPutRefused put) cause
TakesPut configs row put stage = ⊥

-- by what is attached to the row that was given
abbrev pub TakesFound : Accepts → List (List Member) → Found → Option (List ℕ) → Stage → Type 0
TakesFound accepts configs found attached (Ended answer) =
    ((receipt : Receipt) × IsAttached accepts configs (head_of found.row) attached receipt × (answer ≡ answer_with found [] receipt))
    ⊎ (answer ≡ Err NoMemory)
TakesFound accepts configs found attached (Settling same settle) =
    (same ≡ found) × IsUnreceipted accepts configs found.row attached × Begins configs found.row settle
TakesFound accepts configs found attached stage = ⊥

-- a row that was found stands by what is attached to it, or is to be settled
abbrev pub TakesFinding : Accepts → List (List Member) → Finding → Stage → Type 0
TakesFinding accepts configs (Row found attached) stage = TakesFound accepts configs found (option_map (λ text. text.bytes) attached) stage
TakesFinding accepts configs (Refused refusal) stage = stage ≡ Ended (Err (cause_of refusal))

-- By what the store gave; memory may be wanted.
abbrev pub TakesGot : Accepts → List (List Member) → (Finding → Type 0) → Stage → Type 0
TakesGot accepts configs IsFinding stage =
    ((finding : Finding) × IsFinding finding × TakesFinding accepts configs finding stage) ⊎ (stage ≡ Ended (Err NoMemory))

-- by how the settling of the row stands
abbrev pub TakesSettled : Found → Settle → Result SettleProgress MemoryWanted → Stage → Type 0
TakesSettled found settle (Ok settled.More) stage = stage ≡ Settling found settle
TakesSettled found settle (Ok (settled.Stands chain receipt)) stage = stage ≡ Ended (answer_with found chain.items receipt)
TakesSettled found settle (Ok (settled.Refused refusal)) stage = stage ≡ Ended (Err (cause_of refusal))
TakesSettled found settle (Err wanted) stage = stage ≡ Ended (Err NoMemory)
