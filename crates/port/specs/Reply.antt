-- What a service replies: what contracts see of it.
use Rattle.std.specs.Prelude.{List, Option}
use Rattle.chain_block.specs.declared.meta_block.MetaBlock.{MetaBlock}
use Rattle.statement.specs.Receipt.{Receipt}
use Rattle.port.specs.Row.{Content}

-- a row, the blocks that lead on from it, and a receipt for the last of them
pub record Standing : Type 0 where
  pub row : Content
  pub chain : List MetaBlock
  pub receipt : Receipt

-- the newest row, None where there is no entry, and a receipt
pub record LatestReply : Type 0 where
  pub row : Option Content
  pub receipt : Receipt
