-- What a store answers in which the rows of a ledger stand, and where a walk over it ends.
use Rattle.std.specs.Prelude.{◌≡◌, true, ℕ, ◌<◌, List, length, Result, Ok, Err}
use Rattle.chain_block.specs.declared.entry.Entry.{Entry}
use Rattle.nim_base.specs.declared.no_memory.NoMemory.{NoMemory}
use Rattle.statement.specs.declared.member.Member.{Member}
use Rattle.statement.specs.Receipt.{Receipt, receipt_bytes}
use Rattle.port.specs.declared.key.Key.{Key}
use Rattle.port.specs.declared.key.Key.TheVariants as keys
use Rattle.port.specs.declared.store_answers.Put.{Put}
use Rattle.port.specs.declared.store_answers.Put.TheVariants as puts
use Rattle.port.specs.declared.store_answers.Got.{Got}
use Rattle.port.specs.declared.store_answers.Got.TheVariants as gots
use Rattle.port.specs.declared.store_answers.Attached.{Attached}
use Rattle.port.specs.declared.store_answers.Attached.TheVariants as attaches
use Rattle.port.specs.Contents.{Contents, put, fresh, with_attached}
use Rattle.port.specs.GoodRow.{IsGoodRow}
use Rattle.port.specs.RowForm.{row_bytes}
use Rattle.port.specs.Stored.{Stored}
use Rattle.port.specs.View.{FinalMap}
use Rattle.view_ledger.specs.Views.{next_block}
use Rattle.view_ledger.specs.Receipts.{Accepts}
use Rattle.view_ledger.specs.Extension.{Follows}
use Rattle.op_parts.specs.declared.walk.WalkProgress.{WalkProgress}
use Rattle.op_parts.specs.declared.walk.WalkProgress.TheVariants.{Stands, Top}
use Rattle.op_parts.specs.Attachment.{IsAttached}
use Rattle.op_parts.specs.Refresh.{IsComplete, ReadsAsView, ReadsAsFinals, marks_of}
use Rattle.op_parts.specs.Walk.{Place, above}
use Rattle.calm.specs.Ledgers.{tail_of, row_above, head_above}

-- it gives the row of the entry above these, with an accepted receipt, or wants memory
abbrev pub GivesRow : Accepts → List (List Member) → List ℕ → List Entry → Entry → Got → Type 0
GivesRow accepts configs handle below entry (gots.Some stored) =
    IsGoodRow handle (length below) stored.body (row_above below entry)
    × ((receipt : Receipt) × IsAttached accepts configs (head_above handle below entry) stored.attached receipt)
GivesRow accepts configs handle below entry gots.NoMemory = Unit {0}
GivesRow accepts configs handle below entry got = ⊥

-- it says that nothing stands, or wants memory
abbrev pub GivesNone : Got → Type 0
GivesNone gots.None = Unit {0}
GivesNone gots.NoMemory = Unit {0}
GivesNone got = ⊥

-- it says that something stands, or wants memory, and nothing changes
abbrev pub FindsTaken : Contents → Put → Contents → Type 0
FindsTaken contents puts.Taken after = after ≡ contents
FindsTaken contents puts.NoMemory after = after ≡ contents
FindsTaken contents answer after = ⊥

-- it takes the body, or wants memory and nothing changes
abbrev pub TakesBody : Contents → Key → List ℕ → Put → Contents → Type 0
TakesBody contents key body puts.Done after = after ≡ put contents key (fresh body)
TakesBody contents key body puts.NoMemory after = after ≡ contents
TakesBody contents key body answer after = ⊥

-- it attaches the bytes, or wants memory and nothing changes
abbrev pub TakesBytes : Contents → Key → Stored → List ℕ → Attached → Contents → Type 0
TakesBytes contents key stored bytes attaches.Done after = after ≡ put contents key (with_attached stored bytes)
TakesBytes contents key stored bytes attaches.NoMemory after = after ≡ contents
TakesBytes contents key stored bytes answer after = ⊥

-- a walk is above these entries, and has room for one block more
pub record IsAbove (below : List Entry) (place : Place) : Type 0 where
  pub tail : place.tail ≡ tail_of below
  pub height : place.height ≡ length below
  pub room : length place.blocks < 65536

-- the walk ends at the entry's row, which has a receipt, or memory was wanted
abbrev pub EndsAtRow : Accepts → List (List Member) → List ℕ → List Entry → Entry → Stored → Place → Place → Result WalkProgress NoMemory → Type 0
EndsAtRow accepts configs handle below entry stored place after (Ok (Stands receipt)) =
    IsAttached accepts configs (head_above handle below entry) stored.attached receipt × (after ≡ above place (row_above below entry).metablock)
EndsAtRow accepts configs handle below entry stored place after (Ok progress) = ⊥
EndsAtRow accepts configs handle below entry stored place after (Err wanted) = after ≡ place

-- the walk is at the top, or memory was wanted
abbrev pub EndsAtTop : Place → Place → Result WalkProgress NoMemory → Type 0
EndsAtTop place after (Ok Top) = after ≡ place
EndsAtTop place after (Ok progress) = ⊥
EndsAtTop place after (Err wanted) = after ≡ place

-- the row of the next entry was put, and the receipt attached to it
abbrev pub with_row : Contents → List ℕ → List Entry → Entry → Receipt → Contents
with_row contents handle below entry receipt =
    let key = keys.Row handle (length below) in
    let row = fresh (row_bytes (row_above below entry)) in
    put (put contents key row) key (with_attached row (receipt_bytes receipt))

-- it gives the view with this config above these, marked as complete, or wants memory
abbrev pub GivesView : List (List Member) → List Member → Got → Type 0
GivesView below config (gots.Some stored) = (IsComplete stored ≡ true) × ReadsAsView stored.body (next_block below config, config)
GivesView below config gots.NoMemory = Unit {0}
GivesView below config got = ⊥

-- it gives what ended the newest of these views for that one, or wants memory
abbrev pub GivesFinals : Accepts → List Member → List (List Member) → List Member → Got → Type 0
GivesFinals accepts roster below config (gots.Some stored) =
    (maps : List FinalMap) × ReadsAsFinals stored.body maps
    × Follows accepts (record { roster = roster; configs = below }) (record { block = next_block below config; config = config; finals = marks_of maps })
GivesFinals accepts roster below config gots.NoMemory = Unit {0}
GivesFinals accepts roster below config got = ⊥
