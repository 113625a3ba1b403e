use Rattle.chain_block.proofs.EntryFaults.{no_fault_iff}
use Rattle.chain_block.proofs.entry.entries_alone_have_no_fault.Goals as goal

pub returns : goal.returns
returns c = no_fault_iff
