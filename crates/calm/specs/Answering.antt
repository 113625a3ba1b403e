-- What a member answers that is active.
use Rattle.std.specs.Prelude.{◌≡◌, ◌≢◌, ℕ, ◌+◌, true, List}
use Rattle.chain_block.specs.declared.meta_block.MetaBlock.{MetaBlock}
use Rattle.chain_block.specs.Tail.{tail_after}
use Rattle.sha2.specs.Sha256.{sha256}
use Rattle.tail_map.specs.declared.tail_row.TailRow.{TailRow}
use Rattle.statement.specs.declared.member.Member.{Member}
use Rattle.statement.specs.declared.statement.Statement.{Statement}
use Rattle.statement.specs.declared.statement.Statement.TheVariants as statements
use Rattle.statement.specs.declared.view_block.ViewBlock.{ViewBlock}
use Rattle.statement.specs.Statement.{statement_bytes}
use Rattle.statement.specs.ViewBlock.{view_block_bytes}
use Rattle.port.specs.Answer.{Signed}
use Rattle.port.specs.Call.{Call}
use Rattle.port.specs.Heard.{Heard, Answered, NoMemory}
use Rattle.port.specs.Link.{Bank, IsFaithful}
use Rattle.calm.specs.Members.{Signs, IsAble, WentOn}

-- A member of a view whose endorser is active with this map, with one stamp and signature more than this.
pub record ActiveMember : Type 0 where
  pub signs : Signs
  pub bank : Bank
  pub view : ViewBlock
  pub config : List Member
  pub rows : List TailRow
  pub left : ℕ
  pub member : Member
  pub able : IsAble bank view config rows (left + 1) member

-- It was asked this and something was heard, over a link that loses nothing; and the endorsers afterwards.
pub record WasAsked (active : ActiveMember) (call : Call) (heard : Heard) (after : Bank) : Type 0 where
  pub went : heard ≢ NoMemory
  pub faithful : IsFaithful active.signs active.bank active.member.id call heard after

-- it has this map now, and every other endorser is as it was
abbrev pub HasGone : ActiveMember → List TailRow → Bank → Type 0
HasGone active rows after = WentOn active.bank active.view active.config rows active.left active.member after

-- it has signed this statement
pub record DidSign (signs : Signs) (member : Member) (statement : Statement) (heard : Heard) : Type 0 where
  pub sig : List ℕ
  pub answered : heard ≡ Answered (Signed statement sig)
  pub signed : signs member.key (statement_bytes statement) sig ≡ true

-- the statement that the ledger has this block's entry on top
abbrev pub held_with : ViewBlock → List ℕ → MetaBlock → Statement
held_with view handle block = statements.Held (sha256 (view_block_bytes view)) handle (tail_after block.prev block.entry block.height) (block.height + 1)

-- the statement that the ledger has this tail and count, for a nonce
abbrev pub read_of : ViewBlock → List ℕ → List ℕ → List ℕ × ℕ → Statement
read_of view handle nonce row = statements.Latest (sha256 (view_block_bytes view)) handle row.0 row.1 nonce
