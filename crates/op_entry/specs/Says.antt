-- What the answer of an operation says of its calls.
use Rattle.std.specs.Prelude.{◌≡◌, ◌≢◌, ◌⊎◌, ℕ, ◌+◌, List, length, replicate, Some, Result, Ok, Err}
use Rattle.std.specs.List.{AllByRecursion}
use Rattle.chain_block.specs.Entry.{handle_of}
use Rattle.chain_block.specs.Links.{Links}
use Rattle.statement.specs.declared.member.Member.{Member}
use Rattle.statement.specs.Receipt.{receipt_bytes}
use Rattle.port.specs.declared.key.Key.TheVariants as keys
use Rattle.port.specs.declared.store_answers.Put.TheVariants as puts
use Rattle.port.specs.declared.store_answers.Got.TheVariants as gots
use Rattle.port.specs.Cause.{Cause, Conflict}
use Rattle.port.specs.GoodRow.{IsRowAt, IsGoodRow}
use Rattle.port.specs.Reply.{Standing}
use Rattle.port.specs.Row.{Content}
use Rattle.port.specs.Stored.{Stored}
use Rattle.port.specs.Trace.{Event, Had}
use Rattle.view_ledger.specs.Views.{ViewChain}
use Rattle.view_ledger.specs.Receipts.{Accepts}
use Rattle.op_parts.specs.Attachment.{IsReceiptFor}
use Rattle.op_parts.specs.RoundLaws.{IsMarkShown}
use Rattle.op_parts.specs.Walk.{block_tail}
use Rattle.settle.specs.Settling.{asking, last_block}
use Rattle.op_entry.specs.Ask.{Ask, NewLedger, AppendEntry, ReadAt, ledger_of, place_of}
use Rattle.op_entry.specs.OwnRow.{get_of, put_of, height_below, get_below}
use Rattle.op_entry.specs.Standing.{settling_of}
use Rattle.op_entry.specs.Sound.{WasRefused}

-- in one of these calls the store took the row, or gave it
abbrev pub IsRowKnown : Ask → List Event → Content → Type 0
IsRowKnown ask past row =
    Had past (put_of row puts.Done)
    ⊎ ((stored : Stored) × Had past (get_of (keys.Row (ledger_of ask) (place_of ask)) (gots.Some stored)) × IsGoodRow (ledger_of ask) (place_of ask) stored.body row)

-- The tail below the own row: zeros below the first entry of a ledger, and below another the tail of the good row that the store gave
-- for the height below it in one of these calls. What a row that is read links to isn't looked at.
abbrev pub IsTailBelow : Ask → List Event → List ℕ → Type 0
IsTailBelow (NewLedger entry) past tail = tail ≡ replicate 32 0
IsTailBelow (AppendEntry entry) past tail =
    (stored : Stored) × (below : Content) × Had past (get_below entry (gots.Some stored))
    × IsGoodRow (handle_of entry) (height_below entry) stored.body below × (tail ≡ block_tail below.metablock)
IsTailBelow (ReadAt handle height) past tail = Unit {0}

-- In one of these calls the store gave the receipt, attached to a row of the ledger; or each of its marks is a member's answer.
abbrev pub IsReceiptShown : Accepts → Ask → List (List Member) → List Event → Standing → Type 0
IsReceiptShown accepts ask configs past standing =
    ((height : ℕ) × (stored : Stored) × Had past (get_of (keys.Row (ledger_of ask) height) (gots.Some stored))
    × (stored.attached ≡ Some (receipt_bytes standing.receipt)))
    ⊎ AllByRecursion (IsMarkShown accepts (asking (settling_of configs standing.row) (last_block standing.row.metablock standing.chain)) past) standing.receipt.marks

-- The row of the ledger at the height that was asked for stands: the chain of views accepts the receipt, to whose tail and count the
-- metablocks lead from the row, one at each height.
pub record IsStanding (accepts : Accepts) (ask : Ask) (configs : List (List Member)) (past : List Event) (standing : Standing) : Type 0 where
  pub at : IsRowAt (ledger_of ask) (place_of ask) standing.row
  pub known : IsRowKnown ask past standing.row
  pub below : IsTailBelow ask past standing.row.metablock.prev
  pub tail : List ℕ
  pub links : Links standing.chain (block_tail standing.row.metablock) (place_of ask + 1) tail
  pub accepted : IsReceiptFor accepts configs (record { handle = ledger_of ask; tail = tail; count = place_of ask + 1 + length standing.chain }) standing.receipt
  pub shown : IsReceiptShown accepts ask configs past standing

-- the row has the entry that was asked for, where one was
abbrev pub HasOwnEntry : Ask → Content → Type 0
HasOwnEntry (NewLedger entry) row = row.entry ≡ entry
HasOwnEntry (AppendEntry entry) row = row.entry ≡ entry
HasOwnEntry (ReadAt handle height) row = Unit {0}

-- the row has another entry than the one that was to be appended
abbrev pub HasOtherEntry : Ask → Content → Type 0
HasOtherEntry (AppendEntry entry) row = row.entry ≢ entry
HasOtherEntry ask row = ⊥

-- The answer to what was asked, by these calls. The views are those of the chain to which the operation's first one grew.
abbrev pub Says : Accepts → Ask → ViewChain → ViewChain → List Event → Result Standing Cause → Type 0
Says accepts ask from chain past (Ok standing) = IsStanding accepts ask chain.configs past standing × HasOwnEntry ask standing.row
Says accepts ask from chain past (Err (Conflict standing)) = IsStanding accepts ask chain.configs past standing × HasOtherEntry ask standing.row
Says accepts ask from chain past (Err cause) = WasRefused accepts ask from chain cause past
