-- The bytes of a map of tails.
use Rattle.std.specs.Prelude.{ℕ, ◌<◌, List, ◌∷◌, ◌++◌, length, slice_index}
use Rattle.std.specs.List.{flat_map}
use Rattle.std.specs.Int.{w32, w64, to_be_bytes}
use Rattle.tail_map.specs.declared.tail_row.TailRow.{TailRow}

-- handle(32), tail(32), count(8)
abbrev pub row_bytes : TailRow → List ℕ
row_bytes row = row.handle ++ row.tail ++ to_be_bytes w64 row.count

-- the kind, 30 in hexadecimal, and the number of rows(4)
abbrev pub head_bytes : ℕ → List ℕ
head_bytes number = 48 ∷ to_be_bytes w32 number

abbrev pub map_bytes : List TailRow → List ℕ
map_bytes rows = head_bytes (length rows) ++ flat_map row_bytes rows

abbrev pub IsBytes : List ℕ → Type 0
IsBytes bytes = (i : ℕ) → slice_index bytes i < 256
