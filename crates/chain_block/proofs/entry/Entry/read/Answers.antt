use Rattle.chain_block.proofs.EntryLaws.{again}
use Rattle.chain_block.proofs.entry.Entry.read.Goals as goal

pub returns-clause-again : goal.returns-clause-again
returns-clause-again c =
    again c.args.bytes.now c.read_by_kind.result c.read_by_kind.ensures.found c.read_by_kind.ensures.refused
