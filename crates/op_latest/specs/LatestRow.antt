-- The row of a latest read.
use Rattle.std.specs.Prelude.{◌≡◌, ℕ, ◌+◌, List, Some, Result, Ok, Err}
use Rattle.chain_block.specs.Tail.{tail_after}
use Rattle.statement.specs.Receipt.{Receipt}
use Rattle.port.specs.declared.key.Key.TheVariants as keys
use Rattle.port.specs.declared.store_answers.Got.{Got}
use Rattle.port.specs.declared.store_answers.Got.TheVariants as gots
use Rattle.port.specs.Cause.{Cause, StoreFault, Gap, BadRow, NoMemory}
use Rattle.port.specs.GoodRow.{IsGoodRow}
use Rattle.port.specs.Reply.{LatestReply}
use Rattle.port.specs.Row.{Content}
use Rattle.port.specs.Stored.{Stored}
use Rattle.op_latest.specs.declared.latest_head.LatestHead.{LatestHead}

abbrev pub tail_of_row : Content → List ℕ
tail_of_row row = tail_after row.metablock.prev row.metablock.entry row.metablock.height

-- these are the bytes of the ledger's row below the head, and the head's tail is the row's
pub record IsRowOf (handle : List ℕ) (head : LatestHead) (bytes : List ℕ) (row : Content) : Type 0 where
  pub height : ℕ
  pub below : head.count ≡ height + 1
  pub good : IsGoodRow handle height bytes row
  pub agrees : tail_of_row row ≡ head.tail

abbrev pub IsNoRowOf : List ℕ → LatestHead → List ℕ → Type 0
IsNoRowOf handle head bytes = (row : Content) → IsRowOf handle head bytes row → ⊥

-- what the store gave for the row below the head decides the answer
abbrev pub TakesRow : List ℕ → LatestHead → Receipt → Got → Result LatestReply Cause → Type 0
TakesRow handle head receipt got (Ok reply) =
    (stored : Stored) × (row : Content) × (got ≡ gots.Some stored) × IsRowOf handle head stored.body row × (reply ≡ record { row = Some row; receipt = receipt })
TakesRow handle head receipt got (Err StoreFault) = got ≡ gots.Failed
TakesRow handle head receipt got (Err (Gap ledger missing)) = (got ≡ gots.None) × (ledger ≡ handle) × (head.count ≡ missing + 1)
TakesRow handle head receipt got (Err (BadRow (keys.Row ledger height) (Some bytes))) =
    (stored : Stored) × (got ≡ gots.Some stored) × (stored.body ≡ bytes) × (ledger ≡ handle) × (head.count ≡ height + 1) × IsNoRowOf handle head bytes
TakesRow handle head receipt got (Err NoMemory) = Unit {0}
TakesRow handle head receipt got (Err cause) = ⊥
