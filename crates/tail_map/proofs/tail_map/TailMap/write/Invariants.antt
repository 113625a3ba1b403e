use Rattle.std.proofs.Common.{◌≡◌, ◌++◌, length, take}
use Rattle.std.specs.List.{flat_map}
use Rattle.tail_map.specs.MapForm.{head_bytes, row_bytes}
use Rattle.tail_map.proofs.tail_map.TailMap.write.Given as goal

abbrev pub invariant-loop-row : goal.invariant-loop-row
invariant-loop-row l = l.text.bytes ≡ head_bytes (length l.self.rows) ++ flat_map row_bytes (take l.row-index l.self.rows)
