use Rattle.chain_block.proofs.LinksSteps.{lead_to_tail}
use Rattle.chain_block.proofs.meta_block.links_lead_to_the_tail.Goals as goal

pub returns : goal.returns
returns c = lead_to_tail
