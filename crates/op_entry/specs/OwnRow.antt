-- The own row of an operation, and the calls of the store for it.
use Rattle.std.specs.Prelude.{◌≡◌, ℕ, ◌-◌, List}
use Rattle.chain_block.specs.declared.entry.Entry.{Entry}
use Rattle.chain_block.specs.Entry.{entry_digest, handle_of, height_of}
use Rattle.port.specs.declared.key.Key.{Key}
use Rattle.port.specs.declared.key.Key.TheVariants as keys
use Rattle.port.specs.declared.store_answers.Put.{Put}
use Rattle.port.specs.declared.store_answers.Got.{Got}
use Rattle.port.specs.GoodRow.{IsGoodRow}
use Rattle.port.specs.Row.{Content}
use Rattle.port.specs.RowForm.{row_bytes}
use Rattle.port.specs.Store.{PutNew, Get, WasPut, WasGot}
use Rattle.port.specs.Trace.{Event, AtStore}

-- the row of this entry on the tail below it
abbrev pub row_on : List ℕ → Entry → Content
row_on prev entry = record { entry = entry; metablock = record { prev = prev; entry = entry_digest entry; height = height_of entry } }

-- the metablock is the entry's
abbrev pub IsWhole : Content → Type 0
IsWhole row = (row.metablock.entry ≡ entry_digest row.entry) × (row.metablock.height ≡ height_of row.entry)

abbrev pub key_of : Content → Key
key_of row = keys.Row (handle_of row.entry) (height_of row.entry)

-- the put of a row, and what the store answered
abbrev pub put_of : Content → Put → Event
put_of row put = AtStore (PutNew (key_of row) (row_bytes row)) (WasPut put)

-- the get of a key, and what the store gave
abbrev pub get_of : Key → Got → Event
get_of key got = AtStore (Get key) (WasGot got)

-- the height below an entry that isn't the first
abbrev pub height_below : Entry → ℕ
height_below entry = height_of entry - 1

-- the get of the row below an entry
abbrev pub get_below : Entry → Got → Event
get_below entry got = get_of (keys.Row (handle_of entry) (height_below entry)) got

-- Where the own row's place was taken, these are the bytes of the row that may stand there: it links to the same tail, and
-- the first entry of a ledger is the own one.
pub record IsInPlaceOf (own : Content) (bytes : List ℕ) (row : Content) : Type 0 where
  pub good : IsGoodRow (handle_of own.entry) (height_of own.entry) bytes row
  pub links : row.metablock.prev ≡ own.metablock.prev
  pub first : height_of own.entry ≡ 0 → row.entry ≡ own.entry

-- the bytes are those of no such row
abbrev pub IsOutOfPlace : Content → List ℕ → Type 0
IsOutOfPlace own bytes = (row : Content) → IsInPlaceOf own bytes row → ⊥
