-- What an active endorser does at an Append or a Latest, as a cell of the table.
use Rattle.std.specs.Prelude.{◌≡◌, ◌<◌, Bool, false, List, length, Option, Some, None, IfSome}
use Rattle.tail_map.specs.declared.tail_row.TailRow.{TailRow}
use Rattle.tail_map.specs.TailMap.{set, has_handle, IsCount}
use Rattle.port.specs.Answer.{Signed, denial_of}
use Rattle.port.specs.Table.{View, Active, Cell, Signs, refuses}
use Rattle.endorser_core.specs.declared.moves.Move.{Move}
use Rattle.endorser_core.specs.declared.moves.Move.TheVariants as moves

-- the rows of a map, where a row is set or none is
abbrev pub rows_after : List TailRow → Option TailRow → List TailRow
rows_after rows None = rows
rows_after rows (Some row) = set rows row

abbrev pub cell_of : View → Move → Cell
cell_of own (moves.Refuses denial) = refuses (Active own) (denial_of denial)
cell_of own (moves.Signs statement row) =
    Signs statement (λ sig. Active (record own { map = rows_after own.map row })) (λ sig. Signed statement sig)

-- the map has a place for the row
abbrev pub HasPlace : List TailRow → TailRow → Type 0
HasPlace rows row = IsCount row.count × ((has_handle rows row.handle ≡ false) → length rows < 4096)

abbrev pub Fits : List TailRow → Move → Type 0
Fits rows (moves.Refuses denial) = Unit {0}
Fits rows (moves.Signs statement row) = IfSome row (HasPlace rows)
