use Rattle.std.proofs.Common.{refl, sym}
use Rattle.chain_block.specs.Tail.{tail_of_list-none}
use Rattle.calm.proofs.rows.tail_of_entries.Goals as goal

pub loop-entry-init : goal.loop-entry-init
loop-entry-init c = record { height = refl; tail = sym tail_of_list-none }
