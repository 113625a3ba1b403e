use Rattle.verifier.proofs.Linked.{same_test}
use Rattle.verifier.proofs.rows.are_linked.Goals as goal

pub returns : goal.returns
returns c = same_test c.links.result c.args.blocks.now c.args.prev.now c.args.count c.args.to.now c.links.ensures.0 c.links.ensures.1
