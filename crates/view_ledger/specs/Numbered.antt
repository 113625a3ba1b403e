-- The view of a number in a chain, and the chain below it.
use Rattle.std.specs.Prelude.{ℕ, List, take}
use Rattle.statement.specs.declared.member.Member.{Member}
use Rattle.statement.specs.declared.view_block.ViewBlock.{ViewBlock}
use Rattle.port.specs.View.{FinalMark, ViewRow}
use Rattle.view_ledger.specs.Views.{ViewChain, config_at, next_block}

-- the views below the one of this number
abbrev pub chain_below : ViewChain → ℕ → ViewChain
chain_below chain number = record chain { configs = take number chain.configs }

-- the block of the view of this number
abbrev pub block_at : List (List Member) → ℕ → ViewBlock
block_at configs number = next_block (take number configs) (config_at configs number)

-- the view of this number, for which these finals ended the one below
abbrev pub row_at : List (List Member) → ℕ → List FinalMark → ViewRow
row_at configs number finals = record { block = block_at configs number; config = config_at configs number; finals = finals }
