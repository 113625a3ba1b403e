-- What a yes says of a reply.
use Rattle.std.specs.Prelude.{◌≡◌, ℕ, ◌+◌, List, [], ◌∷◌, length, replicate, Option, Some, None}
use Rattle.chain_block.specs.Entry.{entry_digest, handle_of, height_of}
use Rattle.chain_block.specs.Links.{Links}
use Rattle.statement.specs.declared.member.Member.{Member}
use Rattle.statement.specs.declared.statement.Statement.TheVariants.{Held, Latest}
use Rattle.port.specs.Row.{Content}
use Rattle.port.specs.Reply.{Standing, LatestReply}
use Rattle.statement.specs.Receipt.{Receipt}
use Rattle.view_ledger.specs.Receipts.{Accepts, IsAcceptedIn}

-- some view of the chain accepts the receipt
abbrev pub IsAcceptedInSome : Accepts → List (List Member) → Receipt → Type 0
IsAcceptedInSome accepts configs receipt = (number : ℕ) × IsAcceptedIn accepts configs number receipt

-- the entry and the metablock of a row of this ledger at this height belong together
pub record IsRowAt (handle : List ℕ) (height : ℕ) (row : Content) : Type 0 where
  pub entry_handle : handle_of row.entry ≡ handle
  pub entry_height : height_of row.entry ≡ height
  pub height_is : row.metablock.height ≡ height
  pub digest : entry_digest row.entry ≡ row.metablock.entry

-- The receipt is accepted, and its statement is of this ledger: the row stands in it at this height, and row and chain
-- lead block by block to the statement's tail and count.
pub record Stands (accepts : Accepts) (configs : List (List Member)) (handle : List ℕ) (height : ℕ) (reply : Standing) : Type 0 where
  pub view : List ℕ
  pub tail : List ℕ
  pub says : reply.receipt.statement ≡ Held view handle tail (height + 1 + length reply.chain)
  pub accepted : IsAcceptedInSome accepts configs reply.receipt
  pub row : IsRowAt handle height reply.row
  pub leads : Links (reply.row.metablock ∷ reply.chain) reply.row.metablock.prev height tail

-- the newest row of a ledger of this count and tail, none where it has no entry
abbrev pub IsNewest : List ℕ → List ℕ → ℕ → Option Content → Type 0
IsNewest handle tail count None = (count ≡ 0) × (tail ≡ replicate 32 0)
IsNewest handle tail count (Some row) = (height : ℕ) × (count ≡ height + 1) × IsRowAt handle height row × Links (row.metablock ∷ []) row.metablock.prev height tail

-- The receipt is accepted, and its statement is of this ledger, nonce and count; the row is the newest one.
pub record IsLatest (accepts : Accepts) (configs : List (List Member)) (handle nonce : List ℕ) (count : ℕ) (reply : LatestReply) : Type 0 where
  pub view : List ℕ
  pub tail : List ℕ
  pub says : reply.receipt.statement ≡ Latest view handle tail count nonce
  pub accepted : IsAcceptedInSome accepts configs reply.receipt
  pub newest : IsNewest handle tail count reply.row
