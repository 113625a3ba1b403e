-- Views and what ends them: what contracts see of these.
use Rattle.std.specs.Prelude.{ℕ, List}
use Rattle.chain_block.specs.declared.meta_block.MetaBlock.{MetaBlock}
use Rattle.tail_map.specs.declared.tail_row.TailRow.{TailRow}
use Rattle.statement.specs.declared.member.Member.{Member}
use Rattle.statement.specs.declared.view_block.ViewBlock.{ViewBlock}

-- an id, the digest of a map, and the bytes of a signature
pub record FinalMark : Type 0 where
  pub id : ℕ
  pub map : List ℕ
  pub sig : List ℕ

-- a view block, the members of the config, and the marks that ended the view below
pub record ViewRow : Type 0 where
  pub block : ViewBlock
  pub config : List Member
  pub finals : List FinalMark

-- an id, the rows of a map, and the bytes of a signature
pub record FinalMap : Type 0 where
  pub id : ℕ
  pub map : List TailRow
  pub sig : List ℕ

-- the metablocks of one ledger that lead from one tail to another
pub record Chain : Type 0 where
  pub handle : List ℕ
  pub blocks : List MetaBlock

-- the view that ended, the maps with which its members ended it, and the blocks that some of these lack
pub record ActivationProof : Type 0 where
  pub old_block : ViewBlock
  pub old_config : List Member
  pub finals : List FinalMap
  pub chains : List Chain
