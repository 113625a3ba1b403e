use Rattle.std.proofs.Common.{◌≡◌, ◌≤◌, map, take}
use Rattle.statement.specs.Config.{weight_together}
use Rattle.view_ledger.specs.Extension.{final_id}
use Rattle.view_ledger.proofs.finals.weight_of_finals.Given as goal

abbrev pub invariant-loop-ended : goal.invariant-loop-ended
invariant-loop-ended l = record {
  so_far : l.got ≡ weight_together l.config (map final_id (take l.ended-index l.finals));
  few : l.got ≤ l.ended-index;
}
