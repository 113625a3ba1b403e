use Rattle.view_ledger.specs.Tails.{newest_tail-none}
use Rattle.op_reconf.proofs.first_view.block_of.Goals as goal

pub returns : goal.returns
returns c = let none = newest_tail-none in cc
