use Rattle.std.proofs.Common.{[]}
use Rattle.view_ledger.proofs.KeptViews.{views_none}
use Rattle.view_ledger.specs.Tails.{tail_by}
use Rattle.view_ledger.proofs.kept.first_view.Goals as goal

pub block_after-requires : goal.block_after-requires
block_after-requires c = views_none

pub returns-clause-tail : goal.returns-clause-tail
returns-clause-tail c = tail_by [] c.args.config.now c.block_after.result c.tail-tail.result c.tail-tail.ensures.digest c.block_after.ensures
