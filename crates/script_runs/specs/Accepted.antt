-- Which replies are accepted along the lines of a script, and what is printed of them.
use Rattle.std.specs.Prelude.{◌≡◌, ◌⊎◌, ◌∷◌, [], ℕ, List, None}
use Rattle.std.proofs.Common.{inl, inr}
use Rattle.std.specs.Result.{result_err}
use Rattle.chain_block.specs.declared.entry.Entry.{Entry}
use Rattle.chain_block.specs.Entry.{handle_of, height_of}
use Rattle.fault_script.specs.Command.{Request, Command, Plain, Finish, Retry, Offer, Forge}
use Rattle.fault_script.specs.Command as requests
use Rattle.statement.specs.declared.member.Member.{Member}
use Rattle.blob_store.specs.LyingStore.{lying_view}
use Rattle.port.specs.Cause.{Conflict}
use Rattle.port.specs.Link.{LinkView}
use Rattle.port.specs.Reply.{LatestReply}
use Rattle.port.specs.Store.{StoreView}
use Rattle.port.specs.Service.{ServiceAnswer, Stood, Replied, Refused}
use Rattle.view_ledger.specs.Receipts.{Accepts}
use Rattle.verifier.specs.Outcomes.{latest_outcome}
use Rattle.client_pass.specs.Act.{Act, Append, Latest, At, Look}
use Rattle.client_acts.specs.ClientActs.{ClientActs}
use Rattle.client_pass.specs.ClientList.{IsForEntry, IsForRead}
use Rattle.endorser_cell.specs.CellBank.{CellBank, bank_view}
use Rattle.reply_lines.specs.Causes.{payload_of}
use Rattle.reply_lines.specs.Lines.{ok_line, conflict_line}
use Rattle.reply_taking.specs.Learning.{NotedAfterViews}
use Rattle.answer_lines.specs.Giving.{Gave}
use Rattle.answer_lines.specs.Taken.{Sides, IsQuiet, Printed, newest_line, latest_line}
use Rattle.coordinator.specs.Entries.{first_entry, later_entry}
use Rattle.coordinator.specs.State.{State}
use Rattle.script_operations.specs.Giving.{Asks, Given}
use Rattle.script_operations.specs.Task.{Task, Own, Newest, Height, client_of}
use Rattle.script_world.specs.Carried.{NothingOffered, ReplyOffered}
use Rattle.script_world.specs.Labels.{handle_for}
use Rattle.script_world.specs.Nonce.{nonce}
use Rattle.script_world.specs.Running.{Running, acts_of, world_of}
use Rattle.script_world.specs.World.{World}
use Rattle.script_runs.specs.Runs.{Does, DidLine, Runs, SaysOr}

module _ {S L C : Type 0} (sides : Sides S L C) (label : List ℕ) where
  -- A reply was accepted: by the views that the client knew, this act says so, and this line was printed.
  pub record IsAccepted (act : Act) (accepted line : List ℕ) : Type 0 where
    pub quiet : IsQuiet sides
    pub noted : NotedAfterViews sides.from sides.to act
    pub printed : line ≡ accepted

  -- The answer to a new ledger of this entry, or to an append of it, was accepted: that it stands, or what stands in its place. Or it was
  -- refused, which is printed.
  abbrev pub AcceptedOwn : Entry → ServiceAnswer → List ℕ → Type 0
  AcceptedOwn entry (Stood standing) line =
      (draw : ℕ) × IsForEntry sides.from.lines draw entry × IsAccepted (Append draw standing None) (ok_line label (height_of entry) (payload_of entry)) line
  AcceptedOwn entry (Refused (Conflict standing)) line =
      IsAccepted (Look (handle_of entry) (height_of entry) standing None) (conflict_line label (height_of entry) (payload_of standing.row.entry)) line
  AcceptedOwn entry (Refused cause) line = Printed sides label cause line
  AcceptedOwn entry answer line = ⊥

  -- The same of the answer to a read of this ledger at this height.
  abbrev pub AcceptedAt : List ℕ → ℕ → ServiceAnswer → List ℕ → Type 0
  AcceptedAt handle height (Stood standing) line = IsAccepted (At handle height standing None) (ok_line label height (payload_of standing.row.entry)) line
  AcceptedAt handle height (Refused cause) line = Printed sides label cause line
  AcceptedAt handle height answer line = ⊥

  -- The same of the answer to a read of its newest row with this nonce.
  abbrev pub AcceptedLatest : List ℕ → List ℕ → ServiceAnswer → List ℕ → Type 0
  AcceptedLatest handle nonce (Replied reply) line =
      (draw : ℕ) × IsForRead sides.from.lines draw nonce × IsAccepted (Latest draw handle reply None) (newest_line label reply.row) line
  AcceptedLatest handle nonce (Refused cause) line = Printed sides label cause line
  AcceptedLatest handle nonce answer line = ⊥

  -- the same of the answer for a task
  abbrev pub AcceptedFor : Task → ServiceAnswer → List ℕ → Type 0
  AcceptedFor (Own client draw entry) answer line = AcceptedOwn entry answer line
  AcceptedFor (Newest client draw handle nonce) answer line = AcceptedLatest handle nonce answer line
  AcceptedFor (Height client handle height) answer line = AcceptedAt handle height answer line

  -- A reply that was not the coordinator's was judged by these views: where it is accepted, its row is printed, and else its fault.
  abbrev pub JudgedLatest : Accepts → List (List Member) → List ℕ → List ℕ → LatestReply → List ℕ → Type 0
  JudgedLatest checks configs handle nonce reply line =
      (draw : ℕ) × IsForRead sides.from.lines draw nonce
      × IsAccepted (Latest draw handle reply (result_err (latest_outcome checks configs handle nonce reply))) (latest_line label reply.row (latest_outcome checks configs handle nonce reply)) line

-- The client of a task has an accepted reply already, or accepted this answer.
abbrev pub GivenAccepted : {S L C : Type 0} (checks : Accepts) (name : List ℕ) (task : Task) (label : List ℕ) (old new : ClientActs C) (before after : State S L C) (answer : ServiceAnswer) (line : List ℕ)
    → Given checks name task label old new before after answer line → Type 0
GivenAccepted checks name task label old new before after answer line (inl done) = Unit {0}
GivenAccepted checks name task label old new before after answer line (inr given) = Gave old new (client_of task) before after (λ sides. AcceptedFor sides label task answer line)

module _ {L C : Type 0} (accepts : C → Accepts) (link_view : L → LinkView) (old new : World L C) (place : ℕ) where
  -- The client at this place took the answer to what it asked for, and accepted every reply.
  abbrev pub DoesAccepted : (request : Request) (line : List ℕ) → Does accepts link_view old new place request line → Type 0
  DoesAccepted (requests.New client label payload) line does =
      AcceptedOwn (record { from = does.asked.drawn; to = does.asked.to; before = does.asked.middle; after = new.state }) label (first_entry (nonce old.draws) payload) does.asked.answer line
  DoesAccepted (requests.Append client label height payload) line does =
      AcceptedOwn (record { from = does.asked.drawn; to = does.asked.to; before = does.asked.middle; after = new.state }) label (later_entry (handle_for old.labels label) height (nonce old.draws) payload)
      does.asked.answer line
  DoesAccepted (requests.Latest client label) line does =
      AcceptedLatest (record { from = does.asked.drawn; to = does.asked.to; before = does.asked.middle; after = new.state }) label (handle_for old.labels label) (nonce old.draws) does.asked.answer line
  DoesAccepted (requests.At client label height) line does =
      AcceptedAt (record { from = does.asked.drawn; to = does.asked.to; before = does.asked.middle; after = new.state }) label (handle_for old.labels label) height does.asked.answer line
  DoesAccepted (requests.Reconfigure ids) line does = ⊥

module _ {S L C : Type 0} (accepts : C → Accepts) (store_view : S → StoreView) (link_view : L → LinkView) (checks : Accepts) (name : List ℕ) (old new : ClientActs C) (before after : State S L C) where
  -- the same where the coordinator was asked anew
  abbrev pub AsksAccepted : (task : Task) (label line : List ℕ) → Asks accepts store_view link_view checks name old new before after task label line → Type 0
  AsksAccepted task label line (inl done) = Unit {0}
  AsksAccepted task label line (inr anew) = Gave old new (client_of task) anew.middle after (λ sides. AcceptedFor sides label task anew.answer line)

-- the client of an open read judged this reply by these views, unless it has an accepted one already
abbrev pub GivenJudged : {S L C : Type 0} (checks : Accepts) (configs : List (List Member)) (name : List ℕ) (task : Task) (label : List ℕ) (old new : ClientActs C) (before after : State S L C) (reply : LatestReply) (line : List ℕ)
    → Given checks name task label old new before after (Replied reply) line → Type 0
GivenJudged checks configs name task label old new before after reply line (inl done) = Unit {0}
GivenJudged checks configs name (Newest client draw handle nonce) label old new before after reply line (inr given) =
    Gave old new client before after (λ sides. JudgedLatest sides label checks configs handle nonce reply line)
GivenJudged checks configs name (Own client draw entry) label old new before after reply line (inr given) = ⊥
GivenJudged checks configs name (Height client handle height) label old new before after reply line (inr given) = ⊥

-- this holds of the line that was said, where one was
abbrev pub OnSaid : {Q : Type 0} {P : List ℕ → Type 0} {said : List (List ℕ)} → ((line : List ℕ) → P line → Type 0) → SaysOr Q P said → Type 0
OnSaid A (inl told) = A told.0 told.2
OnSaid A (inr none) = Unit {0}

module _ {S C : Type 0} (key : S → List ℕ) (left size : S → ℕ) (signs : S → List ℕ → List ℕ → S → Type 0) (fit : S → C → Type 0) (accepts : C → Accepts) (key_of : ℕ → List ℕ) (left_of : ℕ → ℕ) (checks : Accepts)
    (configs : List (List Member)) where
  module _ (old new : Running (CellBank S C) C) where
    -- the client was given no reply where none of the endorsers had signed one; else it judged it
    abbrev pub OfferedJudged : (op handle nonce ids line : List ℕ) → NothingOffered key left accepts checks old new op handle nonce ids line ⊎ ReplyOffered key left accepts checks old new op handle nonce ids line → Type 0
    OfferedJudged op handle nonce ids line (inl nothing) = Unit {0}
    OfferedJudged op handle nonce ids line (inr made) =
        GivenJudged checks configs op made.given.begun.task made.given.begun.label (acts_of old) (acts_of new) old.state new.state made.reply line made.given.takes.given

    -- The line's client accepted each reply of the coordinator, and judged each other one by these views. All other lines check no reply.
    abbrev pub LineAccepted : (said : List (List ℕ)) (command : Command) → DidLine key left size signs fit accepts key_of left_of checks old new said command → Type 0
    LineAccepted said (Plain request) did = DoesAccepted accepts (bank_view key left accepts) (world_of did.asking) (world_of new) did.place request did.line did.does
    LineAccepted said (Finish op) did =
        OnSaid
        (λ line finished. GivenAccepted checks op finished.begun.task finished.begun.label (acts_of old) (acts_of new) finished.end.middle new.state finished.end.answer line finished.end.given)
        did.told
    LineAccepted said (Retry op) did =
        OnSaid (λ line retried. AsksAccepted accepts lying_view (bank_view key left accepts) checks op (acts_of old) (acts_of new) old.state new.state retried.begun.task retried.begun.label line retried.asked)
        did.told
    LineAccepted said (Offer op ids) did = OnSaid (λ line offered. OfferedJudged op offered.handle offered.nonce ids line offered.told) did.told
    LineAccepted said (Forge op count ids) did =
        OnSaid
        (λ line forges. GivenJudged checks configs op forges.forged.given.begun.task forges.forged.given.begun.label (acts_of old) (acts_of new) old.state new.state forges.forged.reply line
        forges.forged.given.takes.given)
        did.told
    LineAccepted said command did = Unit {0}

  -- it is so of each line
  abbrev pub AllAccepted : (script : List Command) (old new : Running (CellBank S C) C) (printed : List (List ℕ)) → Runs key left size signs fit accepts key_of left_of checks script old new printed → Type 0
  AllAccepted [] old new printed runs = Unit {0}
  AllAccepted (command ∷ commands) old new printed (middle, said, rest, did, runs, is) = LineAccepted old middle said command did × AllAccepted commands middle new rest runs
