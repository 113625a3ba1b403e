-- Which calls an operation has made.
use Rattle.std.specs.Prelude.{◌≡◌, ◌⊎◌, ◌↔◌, Bool, true, false, List, [], ◌∷◌, ◌++◌, length, replicate, Result, Ok, Err}
use Rattle.chain_block.specs.declared.meta_block.MetaBlock.{MetaBlock}
use Rattle.chain_block.specs.Entry.{handle_of, height_of}
use Rattle.statement.specs.Receipt.{Receipt}
use Rattle.port.specs.declared.key.Key.TheVariants as keys
use Rattle.port.specs.declared.store_answers.Put.{Put}
use Rattle.port.specs.declared.store_answers.Put.TheVariants as puts
use Rattle.port.specs.declared.store_answers.Got.{Got}
use Rattle.port.specs.declared.store_answers.Got.TheVariants as gots
use Rattle.port.specs.Cause.{Cause, Conflict}
use Rattle.port.specs.GoodRow.{IsGoodRow}
use Rattle.port.specs.Reply.{Standing}
use Rattle.port.specs.Row.{Content}
use Rattle.port.specs.Stored.{Stored}
use Rattle.port.specs.Trace.{Event}
use Rattle.view_ledger.specs.Views.{ViewChain}
use Rattle.view_ledger.specs.Receipts.{Accepts}
use Rattle.op_parts.specs.Attachment.{IsAttached}
use Rattle.op_parts.specs.Refresh.{Grew}
use Rattle.op_parts.specs.RefreshSays.{GaveNoView}
use Rattle.op_parts.specs.RefreshSound.{Sound as SoundRefresh, key_of as key_of_refresh}
use Rattle.op_parts.specs.RefreshState.{RefreshState}
use Rattle.op_parts.specs.Walk.{block_tail}
use Rattle.settle.specs.State.{State as Settle}
use Rattle.settle.specs.Sound.{Sound as SoundSettle}
use Rattle.settle.specs.Says.{IsSettled, IsRefused as IsSettleRefused}
use Rattle.op_entry.specs.declared.found.Found.{Found}
use Rattle.op_entry.specs.Ask.{Ask, NewLedger, AppendEntry, ReadAt}
use Rattle.op_entry.specs.OwnRow.{row_on, key_of, put_of, get_of, height_below, get_below, IsInPlaceOf}
use Rattle.op_entry.specs.Standing.{head_of, settling_of, IsUnreceipted}
use Rattle.op_entry.specs.Refusal.{OrMemory, IsRefreshRefused, IsRowRefused, IsPutRefused, IsTakenRefused}
use Rattle.op_entry.specs.State.{Stage, Refreshing, GettingBelow, Putting, GettingTaken, GettingAt, Settling, Ended, State}

-- By these calls the chain was refreshed: it grew from the first one, and the newest call gave no further view.
abbrev pub Refreshed : Accepts → ViewChain → ViewChain → List Event → Type 0
Refreshed accepts from chain past =
    (event : Event) × (before : List Event) × (past ≡ event ∷ before) × Grew accepts from before chain × GaveNoView (length chain.configs) event

-- By these calls the own row is known: the first entry of a ledger stands on zeros, and another on the tail of the good row that the
-- newest call gave for the height below it.
abbrev pub HasOwnRow : Accepts → Ask → ViewChain → ViewChain → Content → List Event → Type 0
HasOwnRow accepts (NewLedger entry) from chain row past = (height_of entry ≡ 0) × (row ≡ row_on (replicate 32 0) entry) × Refreshed accepts from chain past
HasOwnRow accepts (AppendEntry entry) from chain row past =
    (stored : Stored) × (below : Content) × (before : List Event) × (past ≡ get_below entry (gots.Some stored) ∷ before)
    × IsGoodRow (handle_of entry) (height_below entry) stored.body below × (row ≡ row_on (block_tail below.metablock) entry) × Refreshed accepts from chain before
HasOwnRow accepts (ReadAt handle height) from chain row past = ⊥

-- the newest call put the own row, and the store answered so
abbrev pub WasPut : Accepts → Ask → ViewChain → ViewChain → Content → Put → List Event → Type 0
WasPut accepts ask from chain row put past = (before : List Event) × (past ≡ put_of row put ∷ before) × HasOwnRow accepts ask from chain row before

-- The newest call gave a row of the ledger at the height that is asked for: one that stands in the place of the own row, or any.
abbrev pub GaveRow : Accepts → Ask → ViewChain → ViewChain → Found → Stored → List Event → Type 0
GaveRow accepts (ReadAt handle height) from chain found stored past =
    (before : List Event) × (past ≡ get_of (keys.Row handle height) (gots.Some stored) ∷ before)
    × IsGoodRow handle height stored.body found.row × (found.is_own ≡ true) × Refreshed accepts from chain before
GaveRow accepts ask from chain found stored past =
    (own : Content) × (before : List Event) × (past ≡ get_of (key_of own) (gots.Some stored) ∷ before)
    × IsInPlaceOf own stored.body found.row × ((found.is_own ≡ true) ↔ (found.row.entry ≡ own.entry)) × WasPut accepts ask from chain own puts.Taken before

-- The row is to be settled: it is the own one, and was put, or it was given without an accepted receipt.
abbrev pub IsToSettle : Accepts → Ask → ViewChain → ViewChain → Found → List Event → Type 0
IsToSettle accepts ask from chain found past =
    ((found.is_own ≡ true) × WasPut accepts ask from chain found.row puts.Done past)
    ⊎ ((stored : Stored) × GaveRow accepts ask from chain found stored past × IsUnreceipted accepts chain.configs found.row stored.attached)

-- The newest of these calls are those of a settling of the row.
pub record IsSettling (accepts : Accepts) (ask : Ask) (from chain : ViewChain) (found : Found) (settle : Settle) (past : List Event) : Type 0 where
  pub calls : List Event
  pub before : List Event
  pub split : past ≡ calls ++ before
  pub sound : SoundSettle accepts (settling_of chain.configs found.row) settle calls
  pub began : IsToSettle accepts ask from chain found before

-- The row was given with this receipt, or a settling brought it to this receipt by way of these metablocks.
pub record IsReceipted (accepts : Accepts) (ask : Ask) (from chain : ViewChain) (found : Found) (receipt : Receipt) (past : List Event) : Type 0 where
  pub stored : Stored
  pub given : GaveRow accepts ask from chain found stored past
  pub attached : IsAttached accepts chain.configs (head_of found.row) stored.attached receipt

pub record WasSettled (accepts : Accepts) (ask : Ask) (from chain : ViewChain) (found : Found) (blocks : List MetaBlock) (receipt : Receipt) (past : List Event) : Type 0 where
  pub settle : Settle
  pub settling : IsSettling accepts ask from chain found settle past
  pub settled : IsSettled accepts (settling_of chain.configs found.row) settling.calls blocks receipt

abbrev pub Stands : Accepts → Ask → ViewChain → ViewChain → Found → List MetaBlock → Receipt → List Event → Type 0
Stands accepts ask from chain found blocks receipt past =
    ((blocks ≡ []) × IsReceipted accepts ask from chain found receipt past) ⊎ WasSettled accepts ask from chain found blocks receipt past

-- a row that stands, whose entry is the own one or isn't
abbrev pub found_in : Standing → Bool → Found
found_in standing is_own = record { row = standing.row; is_own = is_own }

-- The newest call refused the operation, for this cause: in the refresh; at the row below; at the put; at the own row, whose place was
-- taken or which is read.
abbrev pub WasRefreshRefused : Accepts → ViewChain → ViewChain → Cause → List Event → Type 0
WasRefreshRefused accepts from chain cause past =
    (refresh : RefreshState) × (got : Got) × (before : List Event) × (past ≡ get_of (key_of_refresh refresh chain) got ∷ before)
    × SoundRefresh accepts from refresh chain before × OrMemory (IsRefreshRefused accepts chain refresh (get_of (key_of_refresh refresh chain) got)) cause

abbrev pub WasBelowRefused : Accepts → Ask → ViewChain → ViewChain → Cause → List Event → Type 0
WasBelowRefused accepts (AppendEntry entry) from chain cause past =
    (got : Got) × (before : List Event) × (past ≡ get_below entry got ∷ before) × Refreshed accepts from chain before
    × OrMemory (IsRowRefused (handle_of entry) (height_below entry) got) cause
WasBelowRefused accepts ask from chain cause past = ⊥

abbrev pub WasPutRefused : Accepts → Ask → ViewChain → ViewChain → Cause → List Event → Type 0
WasPutRefused accepts ask from chain cause past =
    (row : Content) × (put : Put) × WasPut accepts ask from chain row put past × OrMemory (IsPutRefused put) cause

abbrev pub WasRowRefused : Accepts → Ask → ViewChain → ViewChain → Cause → List Event → Type 0
WasRowRefused accepts (ReadAt handle height) from chain cause past =
    (got : Got) × (before : List Event) × (past ≡ get_of (keys.Row handle height) got ∷ before) × Refreshed accepts from chain before
    × OrMemory (IsRowRefused handle height got) cause
WasRowRefused accepts ask from chain cause past =
    (own : Content) × (got : Got) × (before : List Event) × (past ≡ get_of (key_of own) got ∷ before)
    × WasPut accepts ask from chain own puts.Taken before × OrMemory (IsTakenRefused own got) cause

-- by its newest call the settling was refused
abbrev pub WasSettleRefused : Accepts → Ask → ViewChain → ViewChain → Cause → List Event → Type 0
WasSettleRefused accepts ask from chain cause past =
    (found : Found) × (settle : Settle) × (settling : IsSettling accepts ask from chain found settle past)
    × OrMemory (IsSettleRefused accepts (settling_of chain.configs found.row) settling.calls) cause

abbrev pub WasRefused : Accepts → Ask → ViewChain → ViewChain → Cause → List Event → Type 0
WasRefused accepts ask from chain cause past =
    WasRefreshRefused accepts from chain cause past
    ⊎ (WasBelowRefused accepts ask from chain cause past
    ⊎ (WasPutRefused accepts ask from chain cause past
    ⊎ (WasRowRefused accepts ask from chain cause past
    ⊎ WasSettleRefused accepts ask from chain cause past)))

-- another entry stands than the one that is asked for
abbrev pub IsConflict : Accepts → Ask → ViewChain → ViewChain → Cause → List Event → Type 0
IsConflict accepts ask from chain (Conflict standing) past = Stands accepts ask from chain (found_in standing false) standing.chain standing.receipt past
IsConflict accepts ask from chain cause past = ⊥

-- by these calls the operation has come to this answer
abbrev pub IsAnswered : Accepts → Ask → ViewChain → ViewChain → Result Standing Cause → List Event → Type 0
IsAnswered accepts ask from chain (Ok standing) past = Stands accepts ask from chain (found_in standing true) standing.chain standing.receipt past
IsAnswered accepts ask from chain (Err cause) past = IsConflict accepts ask from chain cause past ⊎ WasRefused accepts ask from chain cause past

-- the first entry of a ledger is at height 0
abbrev pub IsFit : Ask → Type 0
IsFit (NewLedger entry) = height_of entry ≡ 0
IsFit ask = Unit {0}

-- by these calls the operation has come to this stage
abbrev pub IsAt : Accepts → Ask → ViewChain → ViewChain → Stage → List Event → Type 0
IsAt accepts ask from chain (Refreshing asked refresh) past = (asked ≡ ask) × IsFit ask × SoundRefresh accepts from refresh chain past
IsAt accepts ask from chain (GettingBelow entry) past = (ask ≡ AppendEntry entry) × Refreshed accepts from chain past
IsAt accepts ask from chain (Putting row) past = HasOwnRow accepts ask from chain row past
IsAt accepts ask from chain (GettingTaken row) past = WasPut accepts ask from chain row puts.Taken past
IsAt accepts ask from chain (GettingAt handle height) past = (ask ≡ ReadAt handle height) × Refreshed accepts from chain past
IsAt accepts ask from chain (Settling found settle) past = IsSettling accepts ask from chain found settle past
IsAt accepts ask from chain (Ended answer) past = IsAnswered accepts ask from chain answer past

-- An operation that was asked for this and began with the chain `from` has made these calls, the newest first, and no other.
abbrev pub Sound : Accepts → Ask → ViewChain → State → List Event → Type 0
Sound accepts ask from state past = IsAt accepts ask from state.chain state.stage past

-- Whatever calls have led to a stage, this one too leads to the next stage.
abbrev pub LeadsOn : Accepts → ViewChain → Stage → Event → ViewChain → Stage → Type 0
LeadsOn accepts chain stage event after next =
    (ask : Ask) (from : ViewChain) (past : List Event) → IsAt accepts ask from chain stage past → IsAt accepts ask from after next (event ∷ past)

-- Whatever calls it has made, it has then made this one too.
abbrev pub Leads : Accepts → State → Event → State → Type 0
Leads accepts old event new = LeadsOn accepts old.chain old.stage event new.chain new.stage
