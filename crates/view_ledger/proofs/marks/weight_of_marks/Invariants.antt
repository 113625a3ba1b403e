use Rattle.std.proofs.Common.{◌≡◌, ◌≤◌, map, take}
use Rattle.statement.specs.Config.{weight_together}
use Rattle.statement.specs.Mark.{id_of}
use Rattle.view_ledger.proofs.marks.weight_of_marks.Given as goal

abbrev pub invariant-loop-mark : goal.invariant-loop-mark
invariant-loop-mark l = record {
  so_far : l.got ≡ weight_together l.config (map id_of (take l.mark-index l.marks));
  few : l.got ≤ l.mark-index;
}
