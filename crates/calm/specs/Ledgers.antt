-- The ledgers of a service as the lists of their entries.
use Rattle.std.specs.Prelude.{◌≡◌, ℕ, ◌+◌, if◌then◌else◌, bytes_eq, List, [], ◌∷◌, ◌++◌, length, map}
use Rattle.chain_block.specs.declared.entry.Entry.{Entry}
use Rattle.chain_block.specs.Entry.{entry_digest, handle_of, height_of}
use Rattle.chain_block.specs.Tail.{tail_of_list}
use Rattle.tail_map.specs.declared.tail_row.TailRow.{TailRow}
use Rattle.tail_map.specs.TailMap.{IsMap, get}
use Rattle.port.specs.Row.{Content}
use Rattle.port.specs.RowForm.{IsStored}
use Rattle.op_parts.specs.declared.attachment.Head.{Head}

-- for each handle the entries that stand, the oldest first; none where there is no such ledger
abbrev pub Ledgers : Type 0
Ledgers = List ℕ → List Entry

abbrev pub tail_of : List Entry → List ℕ
tail_of entries = tail_of_list (map entry_digest entries)

-- the row of an entry above these
abbrev pub row_above : List Entry → Entry → Content
row_above below entry = record { entry = entry; metablock = record { prev = tail_of below; entry = entry_digest entry; height = length below } }

-- the tail and count of the ledger with that entry
abbrev pub head_above : List ℕ → List Entry → Entry → Head
head_above handle below entry = record { handle = handle; tail = tail_of (below ++ entry ∷ []); count = length below + 1 }

-- the map has just these ledgers, each with its tail and count
pub record HasLedgers (rows : List TailRow) (ledgers : Ledgers) : Type 0 where
  pub lawful : IsMap rows
  pub each : (handle : List ℕ) → get rows handle ≡ (tail_of (ledgers handle), length (ledgers handle))

-- these ledgers, with one entry more on top of this one
abbrev pub with_entry : Ledgers → List ℕ → Entry → Ledgers
with_entry ledgers handle entry = λ other. if bytes_eq other handle then ledgers other ++ entry ∷ [] else ledgers other

-- the entry is one of this ledger, as it is stored, and of the height that comes next
pub record IsNextEntry (ledgers : Ledgers) (handle : List ℕ) (entry : Entry) : Type 0 where
  pub stored : IsStored entry
  pub of_ledger : handle_of entry ≡ handle
  pub of_height : height_of entry ≡ length (ledgers handle)
