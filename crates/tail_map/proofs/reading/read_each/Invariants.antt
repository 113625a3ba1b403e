use Rattle.std.proofs.Common.{◌≡◌, ◌++◌, length}
use Rattle.std.specs.List.{flat_map, AllByRecursion}
use Rattle.tail_map.specs.TailMap.{IsRising, IsRow}
use Rattle.tail_map.specs.MapForm.{row_bytes}
use Rattle.tail_map.proofs.reading.read_each.Given as goal

abbrev pub invariant-loop : goal.invariant-loop
invariant-loop l =
    (length l.rows.items ≡ l.counter) × IsRising l.rows.items × AllByRecursion IsRow l.rows.items × (l.fn.cursor ≡ flat_map row_bytes l.rows.items ++ l.cursor)
