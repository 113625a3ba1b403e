-- Rows: what contracts see of one.
use Rattle.chain_block.specs.declared.entry.Entry.{Entry}
use Rattle.chain_block.specs.declared.meta_block.MetaBlock.{MetaBlock}

-- the entry, with no room behind its payload, and the metablock
pub record Content : Type 0 where
  pub entry : Entry
  pub metablock : MetaBlock
