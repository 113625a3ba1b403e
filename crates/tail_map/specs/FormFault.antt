-- The first fault of bytes that aren't those of a map.
use Rattle.std.specs.Prelude.{◌≡◌, ◌≢◌, ℕ, ◌<◌, ◌≤◌, ◌⊎◌, List, [], ◌++◌, length, take, drop, slice_index, Result, Ok, Err, ⊤}
use Rattle.std.specs.List.{flat_map, AllByRecursion}
use Rattle.std.specs.Int.{w32, w64, from_be_bytes}
use Rattle.nim_base.specs.declared.form_fault.FormFault.{FormFault}
use Rattle.nim_base.specs.declared.form_fault.FormFault.TheVariants.{Short, Kind, Value, Order, Trailing, NoMemory}
use Rattle.tail_map.specs.declared.tail_row.TailRow.{TailRow}
use Rattle.tail_map.specs.TailMap.{Content, IsBelow, IsRising, IsCount, IsRow, IsMap}
use Rattle.tail_map.specs.MapForm.{row_bytes, head_bytes, map_bytes}

-- the handle is above that of each row
abbrev pub IsAbove : List TailRow → List ℕ → Type 0
IsAbove rows handle = AllByRecursion (λ row. IsBelow row.handle handle) rows

-- What is wrong where a row is to begin, behind these rows: the handle is the first 32 bytes of a row, and
-- the count is the last 8 of its 72.
abbrev pub RowShows : List TailRow → List ℕ → FormFault → Type 0
RowShows rows rest Short = (length rest < 32) ⊎ ((length rest < 72) × IsAbove rows (take 32 rest))
RowShows rows rest Order = (32 ≤ length rest) × ¬ IsAbove rows (take 32 rest)
RowShows rows rest Value = (72 ≤ length rest) × IsAbove rows (take 32 rest) × ¬ IsCount (from_be_bytes w64 (take 8 (drop 64 rest)))
RowShows rows rest Kind = ⊥
RowShows rows rest Trailing = ⊥
RowShows rows rest NoMemory = ⊥

-- Where this many rows are to begin, one of them shows the fault, and all before it are as in a map.
abbrev pub ShowsAmong : ℕ → List ℕ → FormFault → Type 0
ShowsAmong number text fault =
    (rows : List TailRow) × (rest : List ℕ) × (text ≡ flat_map row_bytes rows ++ rest) × IsRising rows × AllByRecursion IsRow rows × (length rows < number) × RowShows rows rest fault

-- a row of the map shows the fault, and all before it is as in a map
abbrev pub ShowsAtRow : List ℕ → FormFault → Type 0
ShowsAtRow bytes fault = (number : ℕ) × (text : List ℕ) × (bytes ≡ head_bytes number ++ text) × (number ≤ 4096) × ShowsAmong number text fault

-- this fault shows first
abbrev pub Shows : List ℕ → FormFault → Type 0
Shows bytes Kind = (0 < length bytes) × (slice_index bytes 0 ≢ 48)
Shows bytes Short = (bytes ≡ []) ⊎ ((slice_index bytes 0 ≡ 48) × (length bytes < 5)) ⊎ ShowsAtRow bytes Short
Shows bytes Value =
    ((slice_index bytes 0 ≡ 48) × (5 ≤ length bytes) × (4096 < from_be_bytes w32 (take 4 (drop 1 bytes)))) ⊎ ShowsAtRow bytes Value
Shows bytes Order = ShowsAtRow bytes Order
Shows bytes Trailing = (rows : List TailRow) × (rest : List ℕ) × IsMap rows × (bytes ≡ map_bytes rows ++ rest) × (0 < length rest)
Shows bytes NoMemory = ⊥

-- the reader gave these rows or this fault, or memory ran out
abbrev pub Gives : Result Content FormFault → Result (List TailRow) FormFault → Type 0
Gives (Ok map) read = read ≡ Ok map.rows
Gives (Err NoMemory) read = ⊤
Gives (Err fault) read = read ≡ Err fault
