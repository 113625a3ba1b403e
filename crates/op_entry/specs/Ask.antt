-- What an operation is asked for.
use Rattle.std.specs.Prelude.{◌≡◌, ℕ, ◌^◌, ◌<◌, ◌≤◌, List}
use Rattle.chain_block.specs.declared.entry.Entry.{Entry}
use Rattle.chain_block.specs.Entry.{IsWithinLimits, bare, handle_of, height_of}
use Rattle.op_entry.specs.declared.wanted.Wanted.{Wanted}
use Rattle.op_entry.specs.declared.wanted.Wanted.TheVariants.{New, Append, At}

-- a ledger with this first entry; this entry above the newest one of its ledger; the entry of a ledger at a height
pub data Ask : Type 0 where
  NewLedger : Entry → Ask
  AppendEntry : Entry → Ask
  ReadAt : List ℕ → ℕ → Ask

-- the ledger
abbrev pub ledger_of : Ask → List ℕ
ledger_of (NewLedger entry) = handle_of entry
ledger_of (AppendEntry entry) = handle_of entry
ledger_of (ReadAt handle height) = handle

-- the height of the own row
abbrev pub place_of : Ask → ℕ
place_of (NewLedger entry) = height_of entry
place_of (AppendEntry entry) = height_of entry
place_of (ReadAt handle height) = height

-- what is wanted, with no room behind a payload
abbrev pub ask_of : Wanted → Ask
ask_of (New entry) = NewLedger (bare entry)
ask_of (Append entry) = AppendEntry (bare entry)
ask_of (At handle height) = ReadAt handle height

-- an entry within its limits that is the first of a ledger, or one above the first
abbrev pub IsFirst : Entry → Type 0
IsFirst entry = IsWithinLimits entry × (height_of entry ≡ 0)

abbrev pub IsLater : Entry → Type 0
IsLater entry = IsWithinLimits entry × (1 ≤ height_of entry)

abbrev pub IsAllowed : Wanted → Type 0
IsAllowed (New entry) = IsFirst entry
IsAllowed (Append entry) = IsLater entry
IsAllowed (At handle height) = height < 2 ^ 32
