use Rattle.std.proofs.Common.{length, map, take}
use Rattle.std.specs.Prelude.{vec_items}
use Rattle.run_record.specs.Events.{is_endorser, is_client}
use Rattle.run_record.specs.Stamping.{AreStamped, act_stamped, call_stamped}
use Rattle.run_record.proofs.Stamps.{AreNext}
use Rattle.run_record.proofs.stamping.stamp_all.Given as goal

abbrev pub invariant-loop-stamp : goal.invariant-loop-stamp
invariant-loop-stamp l = record {
  cells : AreStamped call_stamped is_endorser (take l.stamp l.order) (map vec_items l.fn.cells.items) (map vec_items l.cells.items);
  passes : AreStamped act_stamped is_client (take l.stamp l.order) (map vec_items l.fn.passes.items) (map vec_items l.passes.items);
  calls : AreNext is_endorser (take l.stamp l.order) (length (map vec_items l.fn.cells.items)) l.calls.items;
  acts : AreNext is_client (take l.stamp l.order) (length (map vec_items l.fn.passes.items)) l.acts.items;
}
