-- Rows that really stand in a store, whatever it answers.
use Rattle.std.specs.Prelude.{◌≡◌, ◌-◌, ◌<◌, ℕ, List, replicate, Option, Some, None}
use Rattle.blob_store.specs.declared.lying_store.LyingStore.{LyingStore}
use Rattle.blob_store.specs.LyingStore.{held_in}
use Rattle.chain_block.specs.Tail.{tail_after}
use Rattle.port.specs.declared.key.Key.TheVariants.{Row}
use Rattle.port.specs.Row.{Content}
use Rattle.port.specs.RowForm.{IsRow, row_bytes}
use Rattle.port.specs.Stored.{Stored}

-- the row whose bytes these are, None where they are no row's
abbrev pub IsReadAs : List ℕ → Option Content → Type 0
IsReadAs bytes (Some row) = IsRow row × (bytes ≡ row_bytes row)
IsReadAs bytes None = (row : Content) → IsRow row → bytes ≡ row_bytes row → ⊥

-- the row that stands, None where nothing does, or what does is no row
abbrev pub IsStanding : Option Stored → Option Content → Type 0
IsStanding None row = row ≡ None
IsStanding (Some stored) row = IsReadAs stored.body row

-- the row that really stands there
abbrev pub IsHeld : LyingStore → List ℕ → ℕ → Option Content → Type 0
IsHeld store handle height row = IsStanding ((held_in store).contents (Row handle height)) row

-- the row that really stands as the newest one of so many
abbrev pub IsNewest : LyingStore → List ℕ → ℕ → Option Content → Type 0
IsNewest store handle count row = (count ≡ 0 → row ≡ None) × (0 < count → IsHeld store handle (count - 1) row)

-- its tail, zeros where there is none
abbrev pub tail_or_zeros : Option Content → List ℕ
tail_or_zeros (Some row) = tail_after row.metablock.prev row.metablock.entry row.metablock.height
tail_or_zeros None = replicate 32 0
