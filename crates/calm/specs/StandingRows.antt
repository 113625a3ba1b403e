-- The rows of a ledger that stand in a store, each with a receipt.
use Rattle.std.specs.Prelude.{◌≡◌, ℕ, ◌≤◌, List, ◌∷◌, ◌++◌, length, Some, None}
use Rattle.chain_block.specs.declared.entry.Entry.{Entry}
use Rattle.statement.specs.declared.member.Member.{Member}
use Rattle.statement.specs.Receipt.{Receipt}
use Rattle.port.specs.declared.key.Key.TheVariants as keys
use Rattle.port.specs.Contents.{Contents}
use Rattle.port.specs.GoodRow.{IsGoodRow}
use Rattle.port.specs.Stored.{Stored}
use Rattle.view_ledger.specs.Receipts.{Accepts}
use Rattle.op_parts.specs.Attachment.{IsAttached}
use Rattle.calm.specs.Ledgers.{row_above, head_above}

-- the row of the entry above these stands, with a receipt that the chain of views accepts
pub record StandsAbove (accepts : Accepts) (configs : List (List Member)) (contents : Contents) (handle : List ℕ) (below : List Entry) (entry : Entry) : Type 0 where
  pub stored : Stored
  pub stands : contents (keys.Row handle (length below)) ≡ Some stored
  pub good : IsGoodRow handle (length below) stored.body (row_above below entry)
  pub receipt : Receipt
  pub attached : IsAttached accepts configs (head_above handle below entry) stored.attached receipt

-- the rows of these entries stand, and nothing above them
pub record StandRows (accepts : Accepts) (configs : List (List Member)) (contents : Contents) (handle : List ℕ) (entries : List Entry) : Type 0 where
  pub each : (below above : List Entry) (entry : Entry) → entries ≡ below ++ entry ∷ above → StandsAbove accepts configs contents handle below entry
  pub no_more : (height : ℕ) → length entries ≤ height → contents (keys.Row handle height) ≡ None
