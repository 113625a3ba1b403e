-- Asking members that are active with one map to append a row.
use Rattle.std.specs.Prelude.{◌≡◌, ◌⊎◌, ℕ, ◌+◌, ◌^◌, ◌<◌, true, false, List, length}
use Rattle.chain_block.specs.declared.entry.Entry.{Entry}
use Rattle.chain_block.specs.declared.meta_block.MetaBlock.{MetaBlock}
use Rattle.chain_block.specs.Tail.{tail_after}
use Rattle.sha2.specs.Sha256.{sha256}
use Rattle.tail_map.specs.declared.tail_row.TailRow.{TailRow}
use Rattle.tail_map.specs.TailMap.{get, has_handle, set}
use Rattle.statement.specs.declared.member.Member.{Member}
use Rattle.statement.specs.declared.view_block.ViewBlock.{ViewBlock}
use Rattle.statement.specs.Config.{IsConfig}
use Rattle.statement.specs.ViewBlock.{view_block_bytes}
use Rattle.port.specs.Cause.{Cause, Full}
use Rattle.port.specs.Link.{Bank}
use Rattle.statement.specs.Mark.{Content as Mark}
use Rattle.statement.specs.Receipt.{Receipt}
use Rattle.view_ledger.specs.Views.{newest_config, newest_tail}
use Rattle.view_ledger.specs.Receipts.{Accepts}
use Rattle.op_parts.specs.declared.round_stage.Stage.{Stage}
use Rattle.op_parts.specs.declared.round_stage.Stage.TheVariants.{First, CatchUp, Again, Ended}
use Rattle.op_parts.specs.RoundAsking.{Asking, claim}
use Rattle.op_parts.specs.RoundOutcome.{held}
use Rattle.calm.specs.Ledgers.{row_above}
use Rattle.calm.specs.Members.{Signs, Fits, IsAt, AreAble}

-- the row of a ledger after this metablock
abbrev pub row_of : List ℕ → MetaBlock → TailRow
row_of handle block = record { handle = handle; tail = tail_after block.prev block.entry block.height; count = block.height + 1 }

-- the block stands on the tail and count of its ledger in this map, and the first entry of a ledger is its handle
pub record IsNext (rows : List TailRow) (handle : List ℕ) (block : MetaBlock) : Type 0 where
  pub held : get rows handle ≡ (block.prev, block.height)
  pub first : block.height ≡ 0 → block.entry ≡ handle
  pub low : block.height < 2 ^ 32

-- the ledger has a row, or there is room for one more
abbrev pub HasRoom : List TailRow → List ℕ → Type 0
HasRoom rows handle = (has_handle rows handle ≡ true) ⊎ (length rows < 4096)

-- the ledger has no row, and there is no room for one
abbrev pub IsFull : List TailRow → List ℕ → Type 0
IsFull rows handle = (has_handle rows handle ≡ false) × (length rows ≡ 4096)

-- the members are asked in the view of this block, in which each is active with this map, and what they sign is accepted
pub record AreReady (accepts : Accepts) (signs : Signs) (bank : Bank) (view : ViewBlock) (rows : List TailRow) (left : ℕ) (ask : Asking) : Type 0 where
  pub fits : Fits accepts signs
  pub config : IsConfig ask.members
  pub tail : ask.view ≡ sha256 (view_block_bytes view)
  pub able : AreAble bank view ask.members rows left

-- the cause is that the first member's map is full
abbrev pub IsRefusedByFirst : List Member → Cause → Type 0
IsRefusedByFirst config cause = (member : Member) × IsAt config 0 member × (cause ≡ Full member.id)

-- A round is ready: its members are, each with one stamp and signature more than this, and its row is the next of its ledger.
pub record ReadyRound : Type 0 where
  pub accepts : Accepts
  pub signs : Signs
  pub bank : Bank
  pub view : ViewBlock
  pub rows : List TailRow
  pub left : ℕ
  pub ask : Asking
  pub ready : AreReady accepts signs bank view rows (left + 1) ask
  pub next : IsNext rows ask.handle ask.block

-- there is room for its row; there is none
abbrev pub RoundHasRoom : ReadyRound → Type 0
RoundHasRoom round = HasRoom round.rows round.ask.handle

abbrev pub RoundIsFull : ReadyRound → Type 0
RoundIsFull round = IsFull round.rows round.ask.handle

-- the map with its row
abbrev pub rows_after : ReadyRound → List TailRow
rows_after round = set round.rows (row_of round.ask.handle round.ask.block)

-- the members of the newest of these views are asked to append the entry on top of its ledger
abbrev pub append_next : List (List Member) → List ℕ → List Entry → Entry → Asking
append_next configs handle below entry =
    record { handle = handle; block = (row_above below entry).metablock; view = newest_tail configs; members = newest_config configs }

-- what the marks of a round make
abbrev pub receipt_of : Asking → List Mark → Receipt
receipt_of ask marks = record { statement = held (claim ask); marks = marks }

-- the member whose turn it is was not asked, or the round has ended: none is caught up
abbrev pub AsksOnce : Stage → Type 0
AsksOnce First = Unit {0}
AsksOnce Ended = Unit {0}
AsksOnce (CatchUp catch_up) = ⊥
AsksOnce Again = ⊥
