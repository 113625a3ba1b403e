use Rattle.chain_block.proofs.EntryLaws.{own_bytes}
use Rattle.chain_block.proofs.entry.entries_have_own_bytes.Goals as goal

pub returns : goal.returns
returns c = own_bytes
