use Rattle.std.proofs.Common.{◌≡◌, take}
use Rattle.calm.specs.Ledgers.{tail_of}
use Rattle.calm.proofs.rows.tail_of_entries.Given as goal

abbrev pub invariant-loop-entry : goal.invariant-loop-entry
invariant-loop-entry l = record {
  height : l.height ≡ l.entry-index;
  tail : l.tail ≡ tail_of (take l.entry-index l.entries);
}
