use Rattle.std.proofs.Common.{◌≡◌, None, drop, map}
use Rattle.statement.specs.Ids.{first_fall}
use Rattle.statement.specs.Mark.{id_of}
use Rattle.view_ledger.proofs.marks.first_fall.Given as goal

abbrev pub invariant-loop-mark : goal.invariant-loop-mark
invariant-loop-mark l = first_fall l.before (map id_of (drop l.mark-index l.marks)) ≡ first_fall None (map id_of l.marks)
