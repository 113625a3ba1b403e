-- Clients by their names, and operations that were begun, go on, or are told an answer.
use Rattle.std.specs.Prelude.{◌≡◌, ◌≢◌, ◌⊎◌, ◌∷◌, ◌++◌, [], ℕ, List, slice_get, Some, None}
use Rattle.statement.specs.Statement.{statement_bytes}
use Rattle.port.specs.Reply.{LatestReply}
use Rattle.blob_store.specs.LyingStore.{lying_view}
use Rattle.view_ledger.specs.Receipts.{Accepts}
use Rattle.view_ledger.specs.Views.{newest_tail}
use Rattle.client_pass.specs.ClientPass.{ClientPass}
use Rattle.endorser_cell.specs.CellBank.{CellBank, bank_view}
use Rattle.reply_lines.specs.Lines.{no_reply_line}
use Rattle.script_operations.specs.Giving.{HasFinished, HasGiven, HasRetried}
use Rattle.script_operations.specs.Operations.{Begun, Progress, Closed, HasBegun, IsOpen, at_progress, with_begun}
use Rattle.script_operations.specs.Stepping.{StepsNamed}
use Rattle.script_operations.specs.Task.{Task, Newest}
use Rattle.script_world.specs.Lines.{ClientCame}
use Rattle.script_world.specs.Running.{Running, acts_of, world_of}
use Rattle.script_world.specs.Signed.{AreMarksBy, IsForged, IsOffered, all_signed, receipt_of}

-- A client of this name came at this place: it had come before, or it is one more and none had the name.
pub record CameAs {L C : Type 0} (accepts : C → Accepts) (checks : Accepts) (old new : Running L C) (name : List ℕ) (place : ℕ) : Type 0 where
  pub came : ClientCame accepts checks (world_of old) (world_of new) place
  pub named : slice_get new.names place ≡ Some name
  pub names : (new.names ≡ old.names) ⊎ ((new.names ≡ old.names ++ name ∷ []) × ((other : ℕ) → slice_get old.names other ≢ Some name))
  pub turns : new.turns ≡ old.turns
  pub operations : new.operations ≡ old.operations

-- No client came, and no operation was begun or went on.
pub record KeepsNames {L C : Type 0} (old new : Running L C) : Type 0 where
  pub names : new.names ≡ old.names
  pub operations : new.operations ≡ old.operations

-- An operation for the task was begun under this name, with the coordinator's chain.
pub record Opened {L C : Type 0} (old new : Running L C) (name : List ℕ) (task : Task) (label : List ℕ) : Type 0 where
  pub begun : HasBegun old.operations new.operations name task label old.state.chain
  pub names : new.names ≡ old.names

module _ {S C : Type 0} (key : S → List ℕ) (left : S → ℕ) (accepts : C → Accepts) (checks : Accepts) (old new : Running (CellBank S C) C) (name : List ℕ) where
  -- the open operation of this name made up to so many calls
  abbrev pub Stepped : ℕ → Type 0
  Stepped n = StepsNamed lying_view (bank_view key left accepts) old.state new.state (accepts old.state.checker) old.operations new.operations name n

  -- it was led to its answer, which its client was given
  abbrev pub Finished : List ℕ → Type 0
  Finished line = HasFinished accepts lying_view (bank_view key left accepts) checks name (acts_of old) (acts_of new) old.state new.state old.operations new.operations line

  -- what it was begun for was asked anew
  abbrev pub Retried : List ℕ → Type 0
  Retried line = HasRetried accepts lying_view (bank_view key left accepts) checks name (acts_of old) (acts_of new) old.state new.state old.operations line

  -- the client of the open read of this name was given this reply
  abbrev pub GivenReply : LatestReply → List ℕ → Type 0
  GivenReply reply line = HasGiven accepts lying_view (bank_view key left accepts) checks name (acts_of old) (acts_of new) old.state new.state old.operations new.operations reply line

  -- An open read of this ledger's newest row has the name: it is this client's, who drew this nonce for it.
  pub record IsReading (client : ℕ) (handle nonce : List ℕ) : Type 0 where
    pub place : ℕ
    pub draw : ℕ
    pub label : List ℕ
    pub progress : Progress
    pub found : IsOpen old.operations name place (record { task = Newest client draw handle nonce; label = label; progress = progress })

  -- None of these endorsers signed for the read: its client is given nothing, and it is closed.
  pub record NothingOffered (handle nonce ids line : List ℕ) : Type 0 where
    pub none : receipt_of (all_signed handle nonce old.state.link.cells ids) ≡ None
    pub printed : line ≡ no_reply_line
    pub rest : new ≡ record old { operations = new.operations }
    pub closed : (place : ℕ) (begun : Begun) → IsOpen old.operations name place begun → new.operations ≡ with_begun old.operations place (at_progress begun Closed)

  -- The client was given the reply that these endorsers' signatures make.
  pub record ReplyOffered (handle nonce ids line : List ℕ) : Type 0 where
    pub reply : LatestReply
    pub offered : IsOffered old.state.store handle (all_signed handle nonce old.state.link.cells ids) reply
    pub given : GivenReply reply line

  -- `offer`
  pub record Offered (ids line : List ℕ) : Type 0 where
    pub client : ℕ
    pub handle : List ℕ
    pub nonce : List ℕ
    pub reading : IsReading client handle nonce
    pub told : NothingOffered handle nonce ids line ⊎ ReplyOffered handle nonce ids line

  -- `forge`: the client was given the reply that these signers made in the newest view that it knows.
  pub record Forged (signs : S → List ℕ → List ℕ → S → Type 0) (count : ℕ) (signers : List (ℕ × S)) (line : List ℕ) : Type 0 where
    pub client : ℕ
    pub handle : List ℕ
    pub nonce : List ℕ
    pub reading : IsReading client handle nonce
    pub pass : ClientPass C
    pub stood : slice_get old.clients client ≡ Some pass
    pub reply : LatestReply
    pub forged : IsForged old.state.store (newest_tail pass.chain.configs) handle nonce count reply
    pub marks : AreMarksBy left signs (statement_bytes reply.receipt.statement) signers reply.receipt.marks
    pub given : GivenReply reply line
