-- What the client of an operation is given.
use Rattle.std.specs.Prelude.{◌≡◌, ◌⊎◌, ℕ, List}
use Rattle.port.specs.Link.{LinkView}
use Rattle.port.specs.Reply.{LatestReply}
use Rattle.port.specs.Service.{ServiceAnswer, Replied}
use Rattle.port.specs.Store.{StoreView}
use Rattle.view_ledger.specs.Receipts.{Accepts}
use Rattle.client_pass.specs.ClientList.{IsAnswered}
use Rattle.client_pass.specs.ClientPass.{ClientPass}
use Rattle.client_acts.specs.ClientActs.{ClientActs}
use Rattle.client_acts.specs.Turns.{TurnsAt}
use Rattle.coordinator.specs.Says.{coordinator_says}
use Rattle.coordinator.specs.State.{State}
use Rattle.reply_lines.specs.Lines.{done_line}
use Rattle.roster_bank.specs.Counting.{served_count}
use Rattle.answer_lines.specs.Draws.{OfClient}
use Rattle.answer_lines.specs.Giving.{Gave, OnlyLearned}
use Rattle.answer_lines.specs.Taken.{Sides, TookAt, TookLatest, TookOwn}
use Rattle.script_operations.specs.Ending.{CameTo, Ends}
use Rattle.script_operations.specs.Operations.{Operations, Begun, Progress, Closed, IsNamed, IsOpen, IsOpenRead, at_progress, with_begun}
use Rattle.script_operations.specs.Task.{Task, Own, Newest, Height, call_of, client_of}

-- the client has an accepted reply for the draw of its task
abbrev pub IsDone : {C : Type 0} → List (ClientPass C) → Task → Type 0
IsDone clients (Own client draw entry) = OfClient clients client (λ pass. IsAnswered pass.lines draw)
IsDone clients (Newest client draw handle nonce) = OfClient clients client (λ pass. IsAnswered pass.lines draw)
IsDone clients (Height client handle height) = ⊥

-- what a client takes of an answer for its task, and the line that says so
abbrev pub TookFor : {S L C : Type 0} → Accepts → Task → List ℕ → ServiceAnswer → List ℕ → Sides S L C → Type 0
TookFor checks (Own client draw entry) label answer line sides = TookOwn checks sides label entry answer line
TookFor checks (Newest client draw handle nonce) label answer line sides = TookLatest checks sides label handle nonce answer line
TookFor checks (Height client handle height) label answer line sides = TookAt checks sides label handle height answer line

module _ {S L C : Type 0} (checks : Accepts) (name : List ℕ) (task : Task) (label : List ℕ) (old new : ClientActs C) where
  -- Its client has an accepted reply already: the line is `done`, and nothing else was done.
  pub record WasDone (before after : State S L C) (line : List ℕ) : Type 0 where
    pub done : IsDone old.clients task
    pub printed : line ≡ done_line name
    pub quiet : after ≡ before
    pub same : new ≡ old

  -- Its client has none yet, and took this answer.
  pub record WasGiven (before after : State S L C) (answer : ServiceAnswer) (line : List ℕ) : Type 0 where
    pub undone : IsDone old.clients task → ⊥
    pub gave : Gave old new (client_of task) before after (TookFor checks task label answer line)

  -- One or the other.
  abbrev pub Given : State S L C → State S L C → ServiceAnswer → List ℕ → Type 0
  Given before after answer line = WasDone before after line ⊎ WasGiven before after answer line

-- The client of this open read of a newest row was given this reply.
pub record TakesReply {S L C : Type 0} (checks : Accepts) (name : List ℕ) (begun : Begun) (old new : ClientActs C) (before after : State S L C) (reply : LatestReply) (line : List ℕ) : Type 0 where
  pub reads : IsOpenRead begun
  pub given : Given checks name begun.task begun.label old new before after (Replied reply) line

module _ {S L C : Type 0} (accepts : C → Accepts) (store_view : S → StoreView) (link_view : L → LinkView) (checks : Accepts) (name : List ℕ) (old new : ClientActs C) (before after : State S L C) where
  -- The operation was led to an answer, which its client was given. Whatever the client learned on the way to its check, it learned by views, and
  -- whatever it wrote, it wrote after the calls that had been served then.
  pub record GivesEnd (task : Task) (label : List ℕ) (progress : Progress) (line : List ℕ) : Type 0 where
    pub middle : State S L C
    pub answer : ServiceAnswer
    pub came : CameTo store_view link_view before middle (λ events. Ends (accepts before.checker) progress events answer)
    pub given : Given checks name task label old new middle after answer line
    pub learned : OnlyLearned accepts store_view link_view middle after
    pub turns : TurnsAt (client_of task) (served_count (link_view middle.link)) old.turns new.turns

  -- The coordinator was asked anew, and the client was given its answer, unless it has an accepted reply already.
  pub record AsksAnew (task : Task) (label line : List ℕ) : Type 0 where
    pub middle : State S L C
    pub answer : ServiceAnswer
    pub says : coordinator_says accepts store_view link_view before middle (call_of task) answer
    pub given : WasGiven checks name task label old new middle after answer line
    pub learned : OnlyLearned accepts store_view link_view middle after
    pub turns : TurnsAt (client_of task) (served_count (link_view middle.link)) old.turns new.turns

  abbrev pub Asks : Task → List ℕ → List ℕ → Type 0
  Asks task label line = WasDone checks name task label old new before after line ⊎ AsksAnew task label line

  -- The open operation of this name was led to its answer, which its client was given, and is closed.
  pub record HasFinished (was now : Operations) (line : List ℕ) : Type 0 where
    pub place : ℕ
    pub begun : Begun
    pub found : IsOpen was name place begun
    pub end : GivesEnd begun.task begun.label begun.progress line
    pub closed : now ≡ with_begun was place (at_progress begun Closed)

  -- What the operation of this name was begun for was asked anew.
  pub record HasRetried (was : Operations) (line : List ℕ) : Type 0 where
    pub place : ℕ
    pub begun : Begun
    pub is : IsNamed was name place begun
    pub asked : Asks begun.task begun.label line

  -- The client of the open read of this name was given this reply, and the read is closed.
  pub record HasGiven (was now : Operations) (reply : LatestReply) (line : List ℕ) : Type 0 where
    pub place : ℕ
    pub begun : Begun
    pub found : IsOpen was name place begun
    pub takes : TakesReply checks name begun old new before after reply line
    pub learned : OnlyLearned accepts store_view link_view before after
    pub turns : TurnsAt (client_of begun.task) (served_count (link_view before.link)) old.turns new.turns
    pub closed : now ≡ with_begun was place (at_progress begun Closed)

-- no read of a newest row has this name and is open
abbrev pub NoneReads : Operations → List ℕ → Type 0
NoneReads operations name = (place : ℕ) (begun : Begun) → IsOpen operations name place begun → IsOpenRead begun → ⊥
