-- Along the lines of a script, each mark of a reply of the coordinator that a client noted was signed by its endorser.
use Rattle.std.proofs.Common.{◌≡◌, ℕ, false, List, [], ◌∷◌, sym, ap, subst, ◌∙◌}
use Rattle.blob_store.specs.LyingStore.{held_in}
use Rattle.blob_store.specs.MemStore.{itself, never}
use Rattle.chain_block.specs.Entry.{entry_digest}
use Rattle.fault_script.specs.Command.{Command, Genesis, Plain, Restart, Begin, Step, Finish, Retry, LoseRequest, LoseReply, StoreFail, StoreHide, StoreStale, StoreFork, StoreHonest, RawAppend, RawLatest, RawShow, RawFinalize, Offer, Forge, End}
use Rattle.statement.specs.declared.member.Member.{Member}
use Rattle.port.specs.declared.key.Key.TheVariants as keys
use Rattle.port.specs.Call as call
use Rattle.port.specs.Contents.{nothing}
use Rattle.port.specs.Store.{Truth}
use Rattle.view_ledger.specs.Receipts.{Accepts}
use Rattle.view_ledger.specs.Views.{newest_tail}
use Rattle.endorser_cell.specs.BankLine.{BankLine, served_by}
use Rattle.endorser_cell.specs.CellBank.{CellBank}
use Rattle.endorser_cell.specs.declared.losses.Loss.TheVariants as losses
use Rattle.coordinator.specs.Entries.{later_entry}
use Rattle.script_operations.specs.Operations.{Operations}
use Rattle.script_world.specs.Labels.{handle_for}
use Rattle.script_world.specs.Nonce.{nonce}
use Rattle.script_world.specs.Running.{Running, world_of}
use Rattle.script_runs.specs.Begins.{Begins}
use Rattle.script_runs.specs.Roster.{all_members, members_by}
use Rattle.script_runs.specs.Runs.{AllCanRun, CanRun, DidLine, Runs}
use Rattle.script_runs.specs.SignedMarks.{AddsSigned, AllSigned, HaveFourBytes, gives_other}
use Rattle.script_runs.proofs.GivenAccepted.{begin_line, finish_told, forge_told, offer_told, retry_told}
use Rattle.script_runs.proofs.Going.{EntryCallsAreOwn}
use Rattle.script_runs.proofs.LinesAccepted.{fails_line, fork_line, genesis_line, hide_line, honest_line, lose_line, raw_line, request_line, restart_line, stale_line, step_line}
use Rattle.script_runs.proofs.LinesSigned.{Marks, Signed, fail_signed, fork_signed, genesis_signed, hide_signed, honest_signed, lose_signed, nothing_signed, raw_signed, restart_signed, stale_signed, step_signed}
use Rattle.script_runs.proofs.NoFinals.{HasNoFinals}
use Rattle.script_runs.proofs.OneViewHolds.{AreGoing, AreOne, Holds}
use Rattle.script_runs.proofs.OperationsSigned.{AllHeard}
use Rattle.script_runs.proofs.OwnAttaches.{HaveIds, Limits}
use Rattle.script_runs.proofs.RequestsSigned.{begin_signed, finish_signed, forge_marks, offer_marks, request_signed, retry_signed}
use Rattle.script_runs.proofs.ServedStill.{BeginIn}
use Rattle.script_runs.proofs.Standing.{Means}

-- ---- ids of a first view

members_short : (key_of : ℕ → List ℕ) (ids : List ℕ) → HaveFourBytes ids → HaveIds (members_by key_of ids)
members_short key_of [] all = tt
members_short key_of (id ∷ ids) (one, all) = (one, members_short key_of ids all)

-- ---- the lines

module _ {S C : Type 0} (key : S → List ℕ) (left size : S → ℕ) (signs : S → List ℕ → List ℕ → S → Type 0) (fit : S → C → Type 0) (accepts : C → Accepts) (key_of : ℕ → List ℕ) (left_of : ℕ → ℕ) (checks : Accepts)
    (roster config : List Member) (means : Means) (own : EntryCallsAreOwn) (limits : Limits checks) (ids : HaveIds config) where
  abbrev Run : Type 0
  Run = Running (CellBank S C) C

  abbrev AllHold : Run → Type 0
  AllHold run = Holds key left accepts checks roster config run

  abbrev AllMarked : Run → Type 0
  AllMarked run = Marks key left accepts checks roster config limits ids own run

  module _ (old new : Run) (said : List (List ℕ)) (holds : AllHold old) where
    abbrev Did : Command → Type 0
    Did command = DidLine key left size signs fit accepts key_of left_of checks old new said command

    -- all know one view alone then
    line_holds : (command : Command) → Did command → AllHold new
    line_holds (Genesis ids) did = genesis_line key left size signs fit accepts key_of left_of checks roster config means own old new said holds ids did
    line_holds (Plain request) did = (request_line key left size signs fit accepts key_of left_of checks roster config means own old new said holds request did).0
    line_holds Restart did = restart_line key left size signs fit accepts key_of left_of checks roster config means own old new said holds did.0
    line_holds (Begin op request) did = begin_line key left size signs fit accepts key_of left_of checks roster config means own old new said holds op request did
    line_holds (Step op n) did = step_line key left size signs fit accepts key_of left_of checks roster config means own old new said holds op n did
    line_holds (Finish op) did = (finish_told key left size signs fit accepts key_of left_of checks roster config means own old new said holds op did.rest.goes.first did.told).0
    line_holds (Retry op) did = (retry_told key left size signs fit accepts key_of left_of checks roster config means own old new said holds op did.rest.goes.first did.keeps.operations did.told).0
    line_holds (LoseRequest id n) did = lose_line key left size signs fit accepts key_of left_of checks roster config means own old new said holds id losses.Request n did
    line_holds (LoseReply id n) did = lose_line key left size signs fit accepts key_of left_of checks roster config means own old new said holds id losses.Reply n did
    line_holds (StoreFail n) did = fails_line key left size signs fit accepts key_of left_of checks roster config means own old new said holds n did.0
    line_holds (StoreHide label height) did = hide_line key left size signs fit accepts key_of left_of checks roster config means own old new said holds label height did.0
    line_holds (StoreStale label height from) did = stale_line key left size signs fit accepts key_of left_of checks roster config means own old new said holds label height from did.0
    line_holds (StoreFork label height) did = fork_line key left size signs fit accepts key_of left_of checks roster config means own old new said holds label height did.0
    line_holds StoreHonest did = honest_line key left size signs fit accepts key_of left_of checks roster config means own old new said holds did.0
    line_holds (RawAppend id label height payload number) did =
        raw_line key left size signs fit accepts key_of left_of checks roster config means own old new said holds _ did id
        (call.Append (handle_for (world_of old).labels label) did.answers.prev (entry_digest (later_entry (handle_for (world_of old).labels label) height (nonce number) payload)) height) tt did.answers.answered
    line_holds (RawLatest id label number) did =
        raw_line key left size signs fit accepts key_of left_of checks roster config means own old new said holds _ did id (call.Latest (handle_for (world_of old).labels label) (nonce number)) tt did.answers
    line_holds (RawShow id label) did =
        raw_line key left size signs fit accepts key_of left_of checks roster config means own old new said holds _ did id (call.Show (handle_for (world_of old).labels label)) tt did.answers
    line_holds (RawFinalize id ids) did = absurd did
    line_holds (Offer op ids) did = (offer_told key left size signs fit accepts key_of left_of checks roster config means own old new said holds op ids did.rest.goes.first did.served did.lists did.told).0
    line_holds (Forge op count ids) did = (forge_told key left size signs fit accepts key_of left_of checks roster config means own old new said holds op count ids did.rest.goes.first did.told).0
    line_holds End did = subst AllHold (sym did.0) holds

    module _ (marks : AllMarked old) where
      abbrev Adds : Command → Type 0
      Adds command = AllMarked new × (gives_other command ≡ false → AddsSigned old new)

      so : (command : Command) → Signed key left accepts checks roster config limits ids own old new → Adds command
      so command signed = (signed.marks, λ is. signed.writes)

      -- what a line adds
      line_signed : (command : Command) → CanRun command → Did command → Adds command
      line_signed (Genesis ids_of) can did = so (Genesis ids_of) (genesis_signed key left accepts checks roster config limits ids own old new marks size signs fit said ids_of did)
      line_signed (Plain request) can did =
          so (Plain request) (request_signed key left size signs fit accepts key_of left_of checks roster config means own limits ids old new said holds marks request can.0 did)
      line_signed Restart can did = so Restart (restart_signed key left accepts checks roster config limits ids own old new marks did.0)
      line_signed (Begin op request) can did =
          so (Begin op request) (begin_signed key left size signs fit accepts key_of left_of checks roster config means own limits ids old new said holds marks op request can.0 did)
      line_signed (Step op n) can did = so (Step op n) (step_signed key left accepts checks roster config limits ids own old new marks size signs fit said holds op n did)
      line_signed (Finish op) can did = so (Finish op) (finish_signed key left size signs fit accepts key_of left_of checks roster config means own limits ids old new said holds marks op did)
      line_signed (Retry op) can did = so (Retry op) (retry_signed key left size signs fit accepts key_of left_of checks roster config means own limits ids old new said holds marks op did)
      line_signed (LoseRequest id n) can did = so (LoseRequest id n) (lose_signed key left accepts checks roster config limits ids own old new marks size signs fit said id n losses.Request did)
      line_signed (LoseReply id n) can did = so (LoseReply id n) (lose_signed key left accepts checks roster config limits ids own old new marks size signs fit said id n losses.Reply did)
      line_signed (StoreFail n) can did = so (StoreFail n) (fail_signed key left accepts checks roster config limits ids own old new marks n did.0)
      line_signed (StoreHide label height) can did = so (StoreHide label height) (hide_signed key left accepts checks roster config limits ids own old new marks label height did.0)
      line_signed (StoreStale label height from) can did = so (StoreStale label height from) (stale_signed key left accepts checks roster config limits ids own old new marks label height from did.0)
      line_signed (StoreFork label height) can did = so (StoreFork label height) (fork_signed key left accepts checks roster config limits ids own old new marks label height did.0)
      line_signed StoreHonest can did = so StoreHonest (honest_signed key left accepts checks roster config limits ids own old new marks did.0)
      line_signed (RawAppend id label height payload number) can did =
          so (RawAppend id label height payload number)
          (raw_signed key left accepts checks roster config limits ids own old new marks size signs fit said _ did id
          (call.Append (handle_for (world_of old).labels label) did.answers.prev (entry_digest (later_entry (handle_for (world_of old).labels label) height (nonce number) payload)) height) did.answers.answered)
      line_signed (RawLatest id label number) can did =
          so (RawLatest id label number)
          (raw_signed key left accepts checks roster config limits ids own old new marks size signs fit said _ did id (call.Latest (handle_for (world_of old).labels label) (nonce number)) did.answers)
      line_signed (RawShow id label) can did =
          so (RawShow id label) (raw_signed key left accepts checks roster config limits ids own old new marks size signs fit said _ did id (call.Show (handle_for (world_of old).labels label)) did.answers)
      line_signed (RawFinalize id ids_of) can did = absurd did
      line_signed (Offer op ids_of) can did =
          (offer_marks key left size signs fit accepts key_of left_of checks roster config means own limits ids old new said holds marks op ids_of did, λ is. absurd (cc is))
      line_signed (Forge op count ids_of) can did =
          (forge_marks key left size signs fit accepts key_of left_of checks roster config means own limits ids old new said holds marks op count ids_of did, λ is. absurd (cc is))
      line_signed End can did = so End (nothing_signed key left accepts checks roster config limits ids own old new marks did.0)

  lines_signed : (script : List Command) (old new : Run) (printed : List (List ℕ)) → AllCanRun script → AllHold old → AllMarked old → (runs : Runs key left size signs fit accepts key_of left_of checks script old new printed)
      → AllSigned key left size signs fit accepts key_of left_of checks script old new printed runs
  lines_signed [] old new printed can holds marks runs = tt
  lines_signed (command ∷ commands) old new printed (first, can) holds marks (middle, said, rest, did, runs, split) =
      let line = line_signed old middle said holds marks command first did in
      (line.1, lines_signed commands middle new rest can (line_holds old middle said holds command did) line.0 runs)

-- ---- the whole run

module _ {S C : Type 0} (key : S → List ℕ) (left size : S → ℕ) (signs : S → List ℕ → List ℕ → S → Type 0) (fit : S → C → Type 0) (accepts : C → Accepts) (key_of : ℕ → List ℕ) (left_of : ℕ → ℕ) (checks : Accepts)
    (means : Means) (own : EntryCallsAreOwn) (limits : (checker : C) → Limits (accepts checker)) (ids : List ℕ) (script : List Command) (first last : Running (CellBank S C) C) (printed : List (List ℕ)) (short : HaveFourBytes ids) (can : AllCanRun script)
    (begins : Begins key left accepts key_of left_of checks ids first) (runs : Runs key left size signs fit accepts key_of left_of checks script first last printed) where
  abbrev Config : List Member
  Config = members_by key_of ids

  has_limits : Limits checks
  has_limits = subst Limits begins.checker (limits first.state.checker)

  have_ids : HaveIds Config
  have_ids = members_short key_of ids short

  truth_is : held_in first.state.store ≡ (let t : Truth = record { contents = nothing; source = itself; forks = never; due = 0 } in t)
  truth_is = cc begins.store

  none_final : HasNoFinals (held_in first.state.store)
  none_final number = (ap (λ (t : Truth). t.contents (keys.Finals number)) truth_is, ap (λ (t : Truth). t.source (keys.Finals number)) truth_is)

  holds_first : Holds key left accepts checks (all_members key_of) Config first
  holds_first = record {
    state = record {
      chain = begins.chain;
      checker = begins.checker;
      store = none_final;
      link = record { fresh = begins.bank.fresh; calls = subst (λ (log : List BankLine). BeginIn (newest_tail (Config ∷ [])) (served_by [] log)) (sym begins.bank.log) tt };
    };
    first = begins.unbegun.first ∙ begins.chain;
    clients = subst (AreOne key left accepts checks (all_members key_of) Config) (sym begins.unbegun.clients) tt;
    operations = subst (λ (operations : Operations). AreGoing key left accepts checks (all_members key_of) Config operations.all) (sym begins.operations) tt;
  }

  marks_first : Marks key left accepts checks (all_members key_of) Config has_limits have_ids own first
  marks_first = record {
    marked = record {
      attached = λ row stored stood. absurd (let none = ap (λ (t : Truth). t.contents row) truth_is in cc (none, stood));
      fresh = begins.bank.fresh;
    };
    heard = subst (λ (operations : Operations). AllHeard key left accepts checks (all_members key_of) Config has_limits have_ids own (served_by [] first.state.link.log) operations.all) (sym begins.operations) tt;
  }

  -- each mark that clients noted was signed
  pub marks_signed : AllSigned key left size signs fit accepts key_of left_of checks script first last printed runs
  marks_signed =
      lines_signed key left size signs fit accepts key_of left_of checks (all_members key_of) Config means own has_limits have_ids script first last printed can holds_first marks_first runs
