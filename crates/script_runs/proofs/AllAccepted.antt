-- All replies of a coordinator are accepted along the lines of a script, and all know one view alone.
use Rattle.std.proofs.Common.{◌≡◌, ℕ, List, [], ◌∷◌, sym, ap, subst, ◌∙◌}
use Rattle.fault_script.specs.Command.{Command, Genesis, Plain, Restart, Begin, Step, Finish, Retry, LoseRequest, LoseReply, StoreFail, StoreHide, StoreStale, StoreFork, StoreHonest, RawAppend, RawLatest, RawShow, RawFinalize, Offer, Forge, End}
use Rattle.statement.specs.declared.member.Member.{Member}
use Rattle.blob_store.specs.LyingStore.{held_in}
use Rattle.blob_store.specs.MemStore.{itself, never}
use Rattle.endorser_cell.specs.declared.losses.Loss.TheVariants as losses
use Rattle.endorser_cell.specs.BankLine.{BankLine, served_by}
use Rattle.endorser_cell.specs.CellBank.{CellBank}
use Rattle.chain_block.specs.Entry.{entry_digest}
use Rattle.coordinator.specs.Entries.{later_entry}
use Rattle.port.specs.declared.key.Key.TheVariants as keys
use Rattle.port.specs.Call as call
use Rattle.port.specs.Contents.{nothing}
use Rattle.port.specs.Store.{Truth}
use Rattle.script_operations.specs.Operations.{Operations}
use Rattle.view_ledger.specs.Views.{newest_tail}
use Rattle.view_ledger.specs.Receipts.{Accepts}
use Rattle.script_world.specs.Labels.{handle_for}
use Rattle.script_world.specs.Nonce.{nonce}
use Rattle.script_world.specs.Running.{Running, world_of}
use Rattle.script_runs.specs.Accepted.{AllAccepted, LineAccepted}
use Rattle.script_runs.specs.BadReplies.{NoneRefusedElse}
use Rattle.script_runs.specs.Begins.{Begins}
use Rattle.script_runs.specs.OneView.{AllKnowAlone, KnowsAlone}
use Rattle.script_runs.specs.Roster.{all_members, members_by}
use Rattle.script_runs.specs.Runs.{DidLine, Runs}
use Rattle.script_runs.proofs.GivenAccepted.{begin_line, finish_told, forge_told, offer_told, retry_told}
use Rattle.script_runs.proofs.Going.{EntryCallsAreOwn}
use Rattle.script_runs.proofs.LinesAccepted.{fails_line, fork_line, genesis_line, hide_line, honest_line, lose_line, raw_line, request_line, restart_line, stale_line, step_line}
use Rattle.script_runs.proofs.NoFinals.{HasNoFinals}
use Rattle.script_runs.proofs.NoneRefused.{none_refused_else}
use Rattle.script_runs.proofs.OneState.{alone}
use Rattle.script_runs.proofs.OneViewHolds.{AreGoing, AreOne, Holds}
use Rattle.script_runs.proofs.ServedStill.{BeginIn}
use Rattle.script_runs.proofs.Standing.{Means}

-- nothing stands in a store that holds nothing and looks where it is asked
empty_none : (truth : Truth) → truth ≡ record { contents = nothing; source = itself; forks = never; due = 0 } → HasNoFinals truth
empty_none truth is number = (ap (λ (t : Truth). t.contents (keys.Finals number)) is, ap (λ (t : Truth). t.source (keys.Finals number)) is)

module _ {S C : Type 0} (key : S → List ℕ) (left size : S → ℕ) (signs : S → List ℕ → List ℕ → S → Type 0) (fit : S → C → Type 0) (accepts : C → Accepts) (key_of : ℕ → List ℕ) (left_of : ℕ → ℕ) (checks : Accepts)
    (roster config : List Member) (means : Means) (own : EntryCallsAreOwn) where
  abbrev AllHold : Running (CellBank S C) C → Type 0
  AllHold running = Holds key left accepts checks roster config running

  module _ (old new : Running (CellBank S C) C) (said : List (List ℕ)) (holds : AllHold old) where
    abbrev Accepted : (command : Command) → DidLine key left size signs fit accepts key_of left_of checks old new said command → Type 0
    Accepted command did = LineAccepted key left size signs fit accepts key_of left_of checks (config ∷ []) old new said command did

    line_accepted : (command : Command) → (did : DidLine key left size signs fit accepts key_of left_of checks old new said command) → AllHold new × Accepted command did
    line_accepted (Genesis ids) did = (genesis_line key left size signs fit accepts key_of left_of checks roster config means own old new said holds ids did, tt)
    line_accepted (Plain request) did = request_line key left size signs fit accepts key_of left_of checks roster config means own old new said holds request did
    line_accepted Restart did = (restart_line key left size signs fit accepts key_of left_of checks roster config means own old new said holds did.0, tt)
    line_accepted (Begin op request) did = (begin_line key left size signs fit accepts key_of left_of checks roster config means own old new said holds op request did, tt)
    line_accepted (Step op n) did = (step_line key left size signs fit accepts key_of left_of checks roster config means own old new said holds op n did, tt)
    line_accepted (Finish op) did = finish_told key left size signs fit accepts key_of left_of checks roster config means own old new said holds op did.rest.goes.first did.told
    line_accepted (Retry op) did = retry_told key left size signs fit accepts key_of left_of checks roster config means own old new said holds op did.rest.goes.first did.keeps.operations did.told
    line_accepted (LoseRequest id n) did = (lose_line key left size signs fit accepts key_of left_of checks roster config means own old new said holds id losses.Request n did, tt)
    line_accepted (LoseReply id n) did = (lose_line key left size signs fit accepts key_of left_of checks roster config means own old new said holds id losses.Reply n did, tt)
    line_accepted (StoreFail n) did = (fails_line key left size signs fit accepts key_of left_of checks roster config means own old new said holds n did.0, tt)
    line_accepted (StoreHide label height) did = (hide_line key left size signs fit accepts key_of left_of checks roster config means own old new said holds label height did.0, tt)
    line_accepted (StoreStale label height from) did = (stale_line key left size signs fit accepts key_of left_of checks roster config means own old new said holds label height from did.0, tt)
    line_accepted (StoreFork label height) did = (fork_line key left size signs fit accepts key_of left_of checks roster config means own old new said holds label height did.0, tt)
    line_accepted StoreHonest did = (honest_line key left size signs fit accepts key_of left_of checks roster config means own old new said holds did.0, tt)
    line_accepted (RawAppend id label height payload number) did = (
      raw_line key left size signs fit accepts key_of left_of checks roster config means own old new said holds _ did id
          (call.Append (handle_for (world_of old).labels label) did.answers.prev (entry_digest (later_entry (handle_for (world_of old).labels label) height (nonce number) payload)) height) tt did.answers.answered,
      tt,
    )
    line_accepted (RawLatest id label number) did =
        (raw_line key left size signs fit accepts key_of left_of checks roster config means own old new said holds _ did id (call.Latest (handle_for (world_of old).labels label) (nonce number)) tt did.answers, tt)
    line_accepted (RawShow id label) did =
        (raw_line key left size signs fit accepts key_of left_of checks roster config means own old new said holds _ did id (call.Show (handle_for (world_of old).labels label)) tt did.answers, tt)
    line_accepted (RawFinalize id ids) did = absurd did
    line_accepted (Offer op ids) did = offer_told key left size signs fit accepts key_of left_of checks roster config means own old new said holds op ids did.rest.goes.first did.served did.lists did.told
    line_accepted (Forge op count ids) did = forge_told key left size signs fit accepts key_of left_of checks roster config means own old new said holds op count ids did.rest.goes.first did.told
    line_accepted End did = (subst AllHold (sym did.0) holds, tt)

  knows : (running : Running (CellBank S C) C) → AllHold running → KnowsAlone accepts checks (alone roster config) running
  knows running holds = record { coordinator = holds.state.chain; checker = holds.state.checker; first = holds.first; clients = holds.clients }

  lines_accepted : (script : List Command) (old new : Running (CellBank S C) C) (printed : List (List ℕ)) → AllHold old → (runs : Runs key left size signs fit accepts key_of left_of checks script old new printed)
      → AllAccepted key left size signs fit accepts key_of left_of checks (config ∷ []) script old new printed runs
      × AllKnowAlone key left size signs fit accepts key_of left_of checks (alone roster config) script old new printed runs
  lines_accepted [] old new printed holds runs = (tt, knows new (subst AllHold (sym runs.0) holds))
  lines_accepted (command ∷ commands) old new printed holds (middle, said, rest, did, runs, is) =
      let line = line_accepted old middle said holds command did in
      let more = lines_accepted commands middle new rest line.0 runs in
      ((line.1, more.0), (knows old holds, more.1))

module _ {S C : Type 0} (key : S → List ℕ) (left size : S → ℕ) (signs : S → List ℕ → List ℕ → S → Type 0) (fit : S → C → Type 0) (accepts : C → Accepts) (key_of : ℕ → List ℕ) (left_of : ℕ → ℕ) (checks : Accepts)
    (means : Means) (own : EntryCallsAreOwn) (ids : List ℕ) where
  -- so it is at first
  begins_hold : (first : Running (CellBank S C) C) → Begins key left accepts key_of left_of checks ids first → Holds key left accepts checks (all_members key_of) (members_by key_of ids) first
  begins_hold first begins = record {
    state = record {
      chain = begins.chain;
      checker = begins.checker;
      store = empty_none (held_in first.state.store) (cc begins.store);
      link = record { fresh = begins.bank.fresh; calls = subst (λ (log : List BankLine). BeginIn (newest_tail (members_by key_of ids ∷ [])) (served_by [] log)) (sym begins.bank.log) tt };
    };
    first = begins.unbegun.first ∙ begins.chain;
    clients = subst (AreOne key left accepts checks (all_members key_of) (members_by key_of ids)) (sym begins.unbegun.clients) tt;
    operations = subst (λ (operations : Operations). AreGoing key left accepts checks (all_members key_of) (members_by key_of ids) operations.all) (sym begins.operations) tt;
  }

  module _ (script : List Command) (first last : Running (CellBank S C) C) (printed : List (List ℕ)) (begins : Begins key left accepts key_of left_of checks ids first)
      (runs : Runs key left size signs fit accepts key_of left_of checks script first last printed) where
    -- every reply of the coordinator is accepted, and each other one is judged by view 0
    pub replies_are_accepted : AllAccepted key left size signs fit accepts key_of left_of checks (members_by key_of ids ∷ []) script first last printed runs
    replies_are_accepted =
        (lines_accepted key left size signs fit accepts key_of left_of checks (all_members key_of) (members_by key_of ids) means own script first last printed (begins_hold first begins) runs).0

    -- all know view 0 alone
    pub view_0_stands_alone : AllKnowAlone key left size signs fit accepts key_of left_of checks (record { roster = all_members key_of; configs = members_by key_of ids ∷ [] }) script first last printed runs
    view_0_stands_alone =
        (lines_accepted key left size signs fit accepts key_of left_of checks (all_members key_of) (members_by key_of ids) means own script first last printed (begins_hold first begins) runs).1

    -- no line but an offer or a forged reply prints that a reply was refused
    pub none_is_refused_else : NoneRefusedElse key left size signs fit accepts key_of left_of checks script first last printed runs
    none_is_refused_else =
        none_refused_else key left size signs fit accepts key_of left_of checks (members_by key_of ids ∷ []) script first last printed runs replies_are_accepted
