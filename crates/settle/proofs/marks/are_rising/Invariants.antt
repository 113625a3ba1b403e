use Rattle.std.proofs.Common.{◌↔◌, map, drop}
use Rattle.statement.specs.Ids.{RisesFrom, IsRising}
use Rattle.statement.specs.Mark.{id_of}
use Rattle.settle.proofs.marks.are_rising.Given as goal

abbrev pub invariant-loop-mark : goal.invariant-loop-mark
invariant-loop-mark l = RisesFrom l.before (map id_of (drop l.mark-index l.marks)) ↔ IsRising (map id_of l.marks)
