use Rattle.chain_block.proofs.MetaBlockLaws.{own_bytes}
use Rattle.chain_block.proofs.meta_block.metablocks_have_own_bytes.Goals as goal

pub returns : goal.returns
returns c = own_bytes
