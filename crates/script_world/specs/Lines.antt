-- What the lines that are done at once make of a run.
use Rattle.std.specs.Prelude.{◌≡◌, ◌⊎◌, ◌<◌, ℕ, ◌+◌, List, [], ◌∷◌, ◌++◌, length, slice_get, slice_set, Option, Some, None}
use Rattle.blob_store.specs.declared.lying_store.LyingStore.{LyingStore}
use Rattle.blob_store.specs.LyingStore.{lying_view}
use Rattle.chain_block.specs.Entry.{handle_of}
use Rattle.port.specs.Link.{LinkView}
use Rattle.port.specs.Service.{ServiceCall, NewLedger, Append, Latest, At, ServiceAnswer}
use Rattle.view_ledger.specs.Receipts.{Accepts}
use Rattle.client_pass.specs.Act.{Act, Draw}
use Rattle.client_pass.specs.ClientPass.{ClientPass, Notes}
use Rattle.coordinator.specs.Entries.{first_entry, later_entry}
use Rattle.coordinator.specs.Says.{coordinator_says}
use Rattle.coordinator.specs.State.{State}
use Rattle.reply_taking.specs.Learning.{Grows}
use Rattle.client_acts.specs.declared.turn.Turn.{Turn}
use Rattle.client_acts.specs.Turns.{TurnsAt, turn_of}
use Rattle.roster_bank.specs.Counting.{served_count}
use Rattle.script_world.specs.Labels.{handle_for, with_label}
use Rattle.script_world.specs.Nonce.{nonce}
use Rattle.answer_lines.specs.Giving.{OnlyLearned}
use Rattle.answer_lines.specs.Taken.{Sides, TookOwn, TookAt, TookLatest}
use Rattle.script_world.specs.World.{World}

-- the client drew this first, or nothing
abbrev pub Drew : {C : Type 0} → Option Act → ClientPass C → ClientPass C → Type 0
Drew None from drawn = drawn ≡ from
Drew (Some act) from drawn = Notes from drawn act

-- the turn of a draw, which has its one line
abbrev pub turns_drawn : Option Act → ℕ → ℕ → List Turn
turns_drawn None place calls = []
turns_drawn (Some act) place calls = turn_of place calls 1 ∷ []

-- The client at this place drew, asked the coordinator for something and took its answer. Whatever it learned on the way to its check, it
-- learned by views. It drew before any call for it was served, and wrote the rest when all calls of the answer were. All other clients are as
-- they were.
pub record Asked {L C : Type 0} (accepts : C → Accepts) (link_view : L → LinkView) (old new : World L C) (place : ℕ) (draw : Option Act) (call : ServiceCall) (took : Accepts → Sides LyingStore L C → ServiceAnswer → Type 0) : Type 0 where
  pub middle : State LyingStore L C
  pub answer : ServiceAnswer
  pub says : coordinator_says accepts lying_view link_view old.state middle call answer
  pub from : ClientPass C
  pub drawn : ClientPass C
  pub to : ClientPass C
  pub stood : slice_get old.clients place ≡ Some from
  pub stands : new.clients ≡ slice_set old.clients place to
  pub drew : Drew draw from drawn
  pub grows : Grows from to
  pub taken : took (accepts from.checker) (record { from = drawn; to = to; before = middle; after = new.state }) answer
  pub learned : OnlyLearned accepts lying_view link_view middle new.state
  pub turns : TurnsAt place (served_count (link_view middle.link)) (old.turns ++ turns_drawn draw place (served_count (link_view old.state.link))) new.turns
  pub first : new.first ≡ old.first

module _ {L C : Type 0} (accepts : C → Accepts) (link_view : L → LinkView) (old new : World L C) (place : ℕ) where
  -- `new`: a nonce was drawn for the entry, and the label means the ledger of it
  pub record MadeLedger (label payload line : List ℕ) : Type 0 where
    pub asked : Asked accepts link_view old new place (Some (Draw (nonce old.draws) (Some (first_entry (nonce old.draws) payload)))) (NewLedger (nonce old.draws) payload)
        (λ checks sides answer. TookOwn checks sides label (first_entry (nonce old.draws) payload) answer line)
    pub draws : new.draws ≡ old.draws + 1
    pub labels : new.labels ≡ with_label old.labels label (handle_of (first_entry (nonce old.draws) payload))

  -- `append`: a nonce was drawn
  pub record Appended (label : List ℕ) (height : ℕ) (payload line : List ℕ) : Type 0 where
    pub asked : Asked accepts link_view old new place (Some (Draw (nonce old.draws) (Some (later_entry (handle_for old.labels label) height (nonce old.draws) payload)))) (Append (handle_for old.labels label) height (nonce old.draws) payload)
        (λ checks sides answer. TookOwn checks sides label (later_entry (handle_for old.labels label) height (nonce old.draws) payload) answer line)
    pub draws : new.draws ≡ old.draws + 1
    pub labels : new.labels ≡ old.labels

  -- `latest`: a nonce was drawn
  pub record ReadNewest (label line : List ℕ) : Type 0 where
    pub asked : Asked accepts link_view old new place (Some (Draw (nonce old.draws) None)) (Latest (handle_for old.labels label) (nonce old.draws))
        (λ checks sides answer. TookLatest checks sides label (handle_for old.labels label) (nonce old.draws) answer line)
    pub draws : new.draws ≡ old.draws + 1
    pub labels : new.labels ≡ old.labels

  -- `at`
  pub record ReadHeight (label : List ℕ) (height : ℕ) (line : List ℕ) : Type 0 where
    pub asked : Asked accepts link_view old new place None (At (handle_for old.labels label) height)
        (λ checks sides answer. TookAt checks sides label (handle_for old.labels label) height answer line)
    pub draws : new.draws ≡ old.draws
    pub labels : new.labels ≡ old.labels

-- `restart`: the coordinator is a new one over view 0 alone, with the same store, link and checker
pub record Restarted {L C : Type 0} (old new : World L C) : Type 0 where
  pub state : new.state ≡ record old.state { chain = old.first; refused = 0 }
  pub first : new.first ≡ old.first
  pub clients : new.clients ≡ old.clients
  pub labels : new.labels ≡ old.labels
  pub draws : new.draws ≡ old.draws

-- a client came that did nothing yet, and knows view 0 alone
pub record HasClientMore {L C : Type 0} (accepts : C → Accepts) (checks : Accepts) (old new : World L C) : Type 0 where
  pub client : ClientPass C
  pub checker : accepts client.checker ≡ checks
  pub chain : client.chain ≡ old.first
  pub lines : client.lines ≡ []
  pub clients : new.clients ≡ old.clients ++ client ∷ []
  pub state : new.state ≡ old.state
  pub first : new.first ≡ old.first
  pub labels : new.labels ≡ old.labels
  pub draws : new.draws ≡ old.draws

-- A client of a name that came at this place: it was there already, or it is one more.
abbrev pub ClientCame : {L C : Type 0} → (C → Accepts) → Accepts → World L C → World L C → ℕ → Type 0
ClientCame accepts checks old new place =
    ((new ≡ old) × (place < length old.clients)) ⊎ (HasClientMore accepts checks old new × (place ≡ length old.clients))
