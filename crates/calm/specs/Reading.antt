-- Asking members that are active with one map for the newest entry of a ledger.
use Rattle.std.specs.Prelude.{◌≡◌, ◌≢◌, ℕ, ◌+◌, zero, suc, true, List, [], ◌∷◌}
use Rattle.tail_map.specs.declared.tail_row.TailRow.{TailRow}
use Rattle.tail_map.specs.TailMap.{get}
use Rattle.statement.specs.declared.member.Member.{Member}
use Rattle.statement.specs.declared.statement.Statement.{Statement}
use Rattle.statement.specs.declared.view_block.ViewBlock.{ViewBlock}
use Rattle.statement.specs.Config.{IsConfig}
use Rattle.statement.specs.Statement.{statement_bytes}
use Rattle.port.specs.Answer.{Signed}
use Rattle.port.specs.Call.{Latest}
use Rattle.port.specs.Heard.{Heard, Answered, NoMemory}
use Rattle.port.specs.Link.{Bank}
use Rattle.port.specs.Trace.{Event, AtLink, Had}
use Rattle.view_ledger.specs.Receipts.{Accepts}
use Rattle.calm.specs.Members.{Signs, Fits, IsAt, AreAble}
use Rattle.calm.specs.Answering.{read_of}

-- the member is asked for the newest entry of the ledger, with this nonce
abbrev pub read_by : List ℕ → List ℕ → ℕ → Heard → Event
read_by handle nonce id heard = AtLink id (Latest handle nonce) heard

-- The first members, so many, were asked one after the other by these calls, the newest first, and no call wanted memory.
abbrev pub WereRead : List ℕ → List ℕ → List Member → ℕ → List Event → Type 0
WereRead handle nonce config zero events = events ≡ []
WereRead handle nonce config (suc n) events =
    (member : Member) × (heard : Heard) × (before : List Event) × IsAt config n member × (events ≡ read_by handle nonce member.id heard ∷ before)
    × (heard ≢ NoMemory) × WereRead handle nonce config n before

-- the member's answer is this statement, with a signature that is accepted under its key
pub record HasSaid (accepts : Accepts) (member : Member) (statement : Statement) (heard : Heard) : Type 0 where
  pub sig : List ℕ
  pub answered : heard ≡ Answered (Signed statement sig)
  pub accepted : accepts member.key (statement_bytes statement) sig ≡ true

-- it has answered so in these calls
pub record DidSay (accepts : Accepts) (handle nonce : List ℕ) (member : Member) (statement : Statement) (events : List Event) : Type 0 where
  pub heard : Heard
  pub said : HasSaid accepts member statement heard
  pub had : Had events (read_by handle nonce member.id heard)

-- A read is ready: what is signed is accepted, and the members of the view are active with one map, each with one stamp and
-- signature more than this.
pub record ReadyRead : Type 0 where
  pub accepts : Accepts
  pub signs : Signs
  pub bank : Bank
  pub view : ViewBlock
  pub config : List Member
  pub rows : List TailRow
  pub left : ℕ
  pub handle : List ℕ
  pub nonce : List ℕ
  pub fits : Fits accepts signs
  pub is_config : IsConfig config
  pub able : AreAble bank view config rows (left + 1)

-- what each member is to sign
abbrev pub statement_for : ReadyRead → Statement
statement_for read = read_of read.view read.handle read.nonce (get read.rows read.handle)

-- so many of its members were asked
abbrev pub WereAskedFor : ReadyRead → ℕ → List Event → Type 0
WereAskedFor read asked events = WereRead read.handle read.nonce read.config asked events
