use Rattle.std.proofs.Common.{◌≡◌, ◌≤◌, take}
use Rattle.statement.specs.Config.{weight_together}
use Rattle.op_reconf.proofs.set_up.weight_together.Given as goal

abbrev pub invariant-loop-id : goal.invariant-loop-id
invariant-loop-id l = record {
  so_far : l.got ≡ weight_together l.config (take l.id-index l.ids);
  few : l.got ≤ l.id-index;
}
