-- What is settled.
use Rattle.std.specs.Prelude.{ℕ, ◌+◌, List, [], ◌∷◌}
use Rattle.chain_block.specs.declared.meta_block.MetaBlock.{MetaBlock}
use Rattle.statement.specs.declared.member.Member.{Member}
use Rattle.view_ledger.specs.Views.{newest_tail, newest_config}
use Rattle.op_parts.specs.RoundAsking.{Asking}
use Rattle.op_parts.specs.Walk.{Place, block_tail}

-- the row of this ledger with this metablock is to have a receipt that a chain of these views accepts
pub record Settling : Type 0 where
  pub handle : List ℕ
  pub block : MetaBlock
  pub configs : List (List Member)

-- the members of the newest view
abbrev pub members_of : Settling → List Member
members_of settling = newest_config settling.configs

-- they are to append the row of the ledger with this metablock
abbrev pub asking : Settling → MetaBlock → Asking
asking settling block = record { handle = settling.handle; block = block; view = newest_tail settling.configs; members = members_of settling }

-- where the walk up the ledger begins: above the row
abbrev pub start : Settling → Place
start settling = record { tail = block_tail settling.block; height = settling.block.height + 1; blocks = [] }

-- the last of these metablocks, or the one below them where there is none
abbrev pub last_block : MetaBlock → List MetaBlock → MetaBlock
last_block block [] = block
last_block block (next ∷ blocks) = last_block next blocks

-- the metablock of the row at the top, which is the row itself where no row above was got
abbrev pub top_block : Settling → Place → MetaBlock
top_block settling place = last_block settling.block place.blocks
