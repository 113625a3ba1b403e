-- The settling of the next row of a ledger over a calm service, once the row was put.
use Rattle.std.specs.Prelude.{◌≡◌, ◌⊎◌, ℕ, ◌+◌, ◌<◌, List, [], length}
use Rattle.chain_block.specs.declared.entry.Entry.{Entry}
use Rattle.chain_block.specs.Entry.{handle_of}
use Rattle.port.specs.declared.key.Key.TheVariants as keys
use Rattle.port.specs.Cause.{Cause, Full}
use Rattle.port.specs.Contents.{Contents, put, fresh}
use Rattle.port.specs.RowForm.{row_bytes}
use Rattle.port.specs.Trace.{Event, AreHonest, AreFaithful}
use Rattle.settle.specs.Settling.{Settling}
use Rattle.calm.specs.Ledgers.{row_above, IsNextEntry}
use Rattle.calm.specs.Calm.{ServiceState, IsCalm}
use Rattle.calm.specs.Calls.{Later}

-- the entries of the ledger to which this one belongs
abbrev pub entries_of : ServiceState → Entry → List Entry
entries_of service entry = service.ledgers (handle_of entry)

-- what stands once the row of the entry on top of its ledger was put
abbrev pub with_put : ServiceState → Entry → Contents
with_put service entry =
    let below = entries_of service entry in
    put service.contents (keys.Row (handle_of entry) (length below)) (fresh (row_bytes (row_above below entry)))

-- that row is to have a receipt
abbrev pub settling_next : ServiceState → Entry → Settling
settling_next service entry = record { handle = handle_of entry; block = (row_above (entries_of service entry) entry).metablock; configs = service.configs }

-- Over a calm service the row of the next entry of a ledger was put, then these calls were made; and what stands then, and how many
-- stamps and signatures each member has left at least.
pub record NextSettling : Type 0 where
  pub service : ServiceState
  pub entry : Entry
  pub calls : List Event
  pub later : Later
  pub calm : IsCalm service
  pub one_more : service.left ≡ later.left + 1
  pub next : IsNextEntry service.ledgers (handle_of entry) entry
  pub honest : AreHonest (with_put service entry) calls later.contents
  pub faithful : AreFaithful service.signs service.bank calls later.bank

abbrev pub settling_of : NextSettling → Settling
settling_of run = settling_next run.service run.entry

-- the ledger has an entry, or there is room for one more ledger
abbrev pub IsRoomFor : ServiceState → Entry → Type 0
IsRoomFor service entry = (0 < length (entries_of service entry)) ⊎ (length service.rows < 4096)

-- there is no such ledger, and no room for one
abbrev pub IsNoRoomFor : ServiceState → Entry → Type 0
IsNoRoomFor service entry = (entries_of service entry ≡ []) × (length service.rows ≡ 4096)

-- the cause is that a member's map is full
abbrev pub IsForFullMap : Cause → Type 0
IsForFullMap cause = (member : ℕ) × (cause ≡ Full member)
