-- What a line does to a run in which all know one view alone.
use Rattle.std.proofs.Common.{◌≡◌, inl, inr, ℕ, List, [], ◌∷◌, length, Some, None, Option, refl, sym, ap, subst, ◌∙◌}
use Rattle.chain_block.specs.declared.entry.Entry.{Entry}
use Rattle.fault_script.specs.Command.{Request, Command, Genesis, Plain, Restart, Begin, Step, Finish, Retry, LoseRequest, LoseReply, StoreFail, StoreHide, StoreStale, StoreFork, StoreHonest, RawAppend, RawLatest, RawShow, RawFinalize, Offer, Forge, End}
use Rattle.fault_script.specs.Command as requests
use Rattle.statement.specs.declared.member.Member.{Member}
use Rattle.blob_store.specs.declared.lie.Lie.TheVariants as lies
use Rattle.blob_store.specs.declared.lying_store.LyingStore.{LyingStore}
use Rattle.blob_store.specs.Lies.{source_after}
use Rattle.blob_store.specs.MemStore.{itself}
use Rattle.blob_store.specs.LyingStore.{held_in, lying_view}
use Rattle.port.specs.Call.{Call}
use Rattle.port.specs.declared.key.Key.{Key}
use Rattle.port.specs.declared.key.Key.TheVariants as keys
use Rattle.port.specs.Contents.{Contents}
use Rattle.view_ledger.specs.Views.{newest_tail}
use Rattle.view_ledger.specs.Receipts.{Accepts}
use Rattle.client_pass.specs.Act.{Draw}
use Rattle.client_pass.specs.ClientPass.{ClientPass}
use Rattle.endorser_cell.specs.CellBank.{CellBank, bank_view}
use Rattle.endorser_cell.specs.declared.losses.Loss.{Loss}
use Rattle.coordinator.specs.Entries.{first_entry, later_entry}
use Rattle.coordinator.specs.State.{State}
use Rattle.script_operations.specs.Operations.{Begun, Operations, at_progress, with_begun}
use Rattle.script_operations.specs.Stepping.{Steps, StepsNamed}
use Rattle.script_operations.specs.Task.{Height, Newest, Own}
use Rattle.script_world.specs.Labels.{handle_for}
use Rattle.script_world.specs.Lines.{Drew}
use Rattle.script_world.specs.Nonce.{nonce}
use Rattle.script_world.specs.Raw.{AnsweredRaw, OnlyLink, OnlyStore}
use Rattle.script_world.specs.Running.{Running, world_of}
use Rattle.script_world.specs.World.{World}
use Rattle.script_runs.specs.Accepted.{DoesAccepted}
use Rattle.script_runs.specs.Runs.{DidGenesis, DidLose, DidRaw, DidRequest, DidRestart, DidStep, Does, EndsLies, FailsMore, Lies, row_at}
use Rattle.script_runs.proofs.Going.{EntryCallsAreOwn, IsGoing, steps_going}
use Rattle.script_runs.proofs.NoFinals.{HasNoFinals}
use Rattle.script_runs.proofs.OneState.{OneState, alone, first_stays}
use Rattle.script_runs.proofs.OneViewHolds.{AreGoing, AreOne, Holds, WorldHolds, all_set, asked_accepted, asked_holds, came_holds, from_world, in_world, one_of}
use Rattle.script_runs.proofs.ServedStill.{ServedIn, raw_in, same_in}
use Rattle.script_runs.proofs.Standing.{Means}
use Rattle.script_runs.proofs.Still.{BeginsIn}

-- a draw leaves the client's chain as it was
drew_act : {C : Type 0} (nonce : List ℕ) (intent : Option Entry) (from drawn : ClientPass C) → Drew (Some (Draw nonce intent)) from drawn → drawn.chain ≡ from.chain
drew_act nonce intent from drawn drew = ap (λ (p : ClientPass _). p.chain) drew.noted

drew_none : {C : Type 0} (from drawn : ClientPass C) → Drew None from drawn → drawn.chain ≡ from.chain
drew_none from drawn drew = ap (λ (p : ClientPass _). p.chain) drew

module _ {S C : Type 0} (key : S → List ℕ) (left size : S → ℕ) (signs : S → List ℕ → List ℕ → S → Type 0) (fit : S → C → Type 0) (accepts : C → Accepts) (key_of : ℕ → List ℕ) (left_of : ℕ → ℕ) (checks : Accepts)
    (roster config : List Member) (means : Means) (own : EntryCallsAreOwn) where
  abbrev pub AllHold : Running (CellBank S C) C → Type 0
  AllHold running = Holds key left accepts checks roster config running

  abbrev pub StateHolds : State LyingStore (CellBank S C) C → Type 0
  StateHolds state = OneState key left accepts checks roster config state

  abbrev pub InWorld : World (CellBank S C) C → Type 0
  InWorld world = WorldHolds key left accepts checks roster config world

  does_accepted : (request : Request) (old new : World (CellBank S C) C) (place : ℕ) (line : List ℕ) → InWorld old → (does : Does accepts (bank_view key left accepts) old new place request line)
      → InWorld new × DoesAccepted accepts (bank_view key left accepts) old new place request line does
  does_accepted (requests.New client label payload) old new place line holds does =
      let entry = first_entry (nonce old.draws) payload in
      let drew = drew_act {C = C} (nonce old.draws) (Some entry) in (
        asked_holds key left accepts checks roster config means old new place (Some (Draw (nonce old.draws) (Some entry))) (Own 0 0 entry) label line holds drew does.asked,
        asked_accepted key left accepts checks roster config means old new place (Some (Draw (nonce old.draws) (Some entry))) (Own 0 0 entry) label line holds drew does.asked,
      )
  does_accepted (requests.Append client label height payload) old new place line holds does =
      let entry = later_entry (handle_for old.labels label) height (nonce old.draws) payload in
      let drew = drew_act {C = C} (nonce old.draws) (Some entry) in (
        asked_holds key left accepts checks roster config means old new place (Some (Draw (nonce old.draws) (Some entry))) (Own 0 0 entry) label line holds drew does.asked,
        asked_accepted key left accepts checks roster config means old new place (Some (Draw (nonce old.draws) (Some entry))) (Own 0 0 entry) label line holds drew does.asked,
      )
  does_accepted (requests.Latest client label) old new place line holds does =
      let task = Newest 0 0 (handle_for old.labels label) (nonce old.draws) in
      let drew = drew_act {C = C} (nonce old.draws) None in (
        asked_holds key left accepts checks roster config means old new place (Some (Draw (nonce old.draws) None)) task label line holds drew does.asked,
        asked_accepted key left accepts checks roster config means old new place (Some (Draw (nonce old.draws) None)) task label line holds drew does.asked,
      )
  does_accepted (requests.At client label height) old new place line holds does =
      let task = Height 0 (handle_for old.labels label) height in (
        asked_holds key left accepts checks roster config means old new place None task label line holds (drew_none {C = C}) does.asked,
        asked_accepted key left accepts checks roster config means old new place None task label line holds (drew_none {C = C}) does.asked,
      )
  does_accepted (requests.Reconfigure ids) old new place line holds does = absurd does

  going_by : (old new : Operations) → new ≡ old → AreGoing key left accepts checks roster config old.all → AreGoing key left accepts checks roster config new.all
  going_by old new same going = subst (λ (operations : Operations). AreGoing key left accepts checks roster config operations.all) (sym same) going

  module _ (old new : Running (CellBank S C) C) (said : List (List ℕ)) (holds : AllHold old) where
    pub request_line : (request : Request) → (did : DidRequest key left size signs fit accepts checks old new said request)
        → AllHold new × DoesAccepted accepts (bank_view key left accepts) (world_of did.asking) (world_of new) did.place request did.line did.does
    request_line request did =
        let asking = came_holds key left accepts checks roster config old did.asking _ did.place did.came holds in
        let both = does_accepted request (world_of did.asking) (world_of new) did.place did.line (in_world key left accepts checks roster config did.asking asking) did.does in
        (from_world key left accepts checks roster config new both.0 (going_by did.asking.operations new.operations did.keeps.operations asking.operations), both.1)

    -- nothing but the coordinator and the operations changed
    within : (state : StateHolds new.state) → new.first ≡ old.first → new.clients ≡ old.clients → AreGoing key left accepts checks roster config new.operations.all → AllHold new
    within state first clients going =
        record { state = state; first = first ∙ holds.first; clients = subst (AreOne key left accepts checks roster config) (sym clients) holds.clients; operations = going }

    pub genesis_line : (ids : List ℕ) → DidGenesis key left size signs fit accepts checks old new said ids → AllHold new
    genesis_line ids did =
        within (first_stays key left accepts checks roster config old.state new.state did.answer holds.state did.says) (ap (λ (r : Running (CellBank S C) C). r.first) did.others)
        (ap (λ (r : Running (CellBank S C) C). r.clients) did.others) (going_by old.operations new.operations (ap (λ (r : Running (CellBank S C) C). r.operations) did.others) holds.operations)

    pub step_line : (op : List ℕ) (n : ℕ) → DidStep key left size signs fit accepts checks old new said op n → AllHold new
    step_line op n did = stepped did.stepped
      where
        stepped : StepsNamed lying_view (bank_view key left accepts) old.state new.state (accepts old.state.checker) old.operations new.operations op n → AllHold new
        stepped (inl step) =
            let steps = subst (λ (a : Accepts). Steps lying_view (bank_view key left accepts) old.state new.state a step.begun.progress step.progress n) holds.state.checker step.steps in
            let going = one_of (λ (begun : Begun). IsGoing checks (alone roster config) begun.task begun.progress) old.operations.all step.place step.begun holds.operations step.found.is.stands in
            let both = steps_going key left accepts checks roster config own old.state new.state holds.state step.begun.task step.begun.progress step.progress n going steps in
            within both.0 (ap (λ (r : Running (CellBank S C) C). r.first) did.rest) (ap (λ (r : Running (CellBank S C) C). r.clients) did.rest)
            (going_by (with_begun old.operations step.place (at_progress step.begun step.progress)) new.operations step.stands
            (all_set (λ (begun : Begun). IsGoing checks (alone roster config) begun.task begun.progress) old.operations.all step.place (at_progress step.begun step.progress) holds.operations both.1))
        stepped (inr (none, same, quiet)) =
            within (subst StateHolds (sym quiet) holds.state) (ap (λ (r : Running (CellBank S C) C). r.first) did.rest) (ap (λ (r : Running (CellBank S C) C). r.clients) did.rest)
            (going_by old.operations new.operations same holds.operations)

    pub restart_line : DidRestart old new → AllHold new
    restart_line did =
        let state : StateHolds (record old.state { chain = old.first; refused = 0 }) =
        record { chain = holds.first; checker = holds.state.checker; store = holds.state.store; link = holds.state.link } in
        record {
          state = subst StateHolds (sym did.restarted.state) state;
          first = did.restarted.first ∙ holds.first;
          clients = subst (AreOne key left accepts checks roster config) (sym did.restarted.clients) holds.clients;
          operations = going_by (record { all = old.operations.all; names = old.operations.names; open_from = length old.operations.all }) new.operations did.closed holds.operations;
        }

    -- nothing but the store changed, in which nothing stands of what ended a view
    store_line : OnlyStore old new → HasNoFinals (held_in new.state.store) → AllHold new
    store_line rest none =
        let state : StateHolds (record old.state { store = new.state.store }) =
        record { chain = holds.state.chain; checker = holds.state.checker; store = none; link = holds.state.link } in
        within (subst StateHolds (sym (ap (λ (r : Running (CellBank S C) C). r.state) rest)) state) (ap (λ (r : Running (CellBank S C) C). r.first) rest)
        (ap (λ (r : Running (CellBank S C) C). r.clients) rest) (going_by old.operations new.operations (ap (λ (r : Running (CellBank S C) C). r.operations) rest) holds.operations)

    same_none : (contents : Contents) (source : Key → Option Key) → (held_in new.state.store).contents ≡ (held_in old.state.store).contents → (held_in new.state.store).source ≡ source
        → ((number : ℕ) → source (keys.Finals number) ≡ Some (keys.Finals number)) → HasNoFinals (held_in new.state.store)
    same_none contents source same at is number =
        (ap (λ (c : Contents). c (keys.Finals number)) same ∙ (holds.state.store number).0, ap (λ (s : Key → Option Key). s (keys.Finals number)) at ∙ is number)

    pub fails_line : (n : ℕ) → FailsMore old new n → AllHold new
    fails_line n did = store_line did.rest (same_none (held_in old.state.store).contents (held_in old.state.store).source did.contents did.source (λ number. (holds.state.store number).1))

    pub honest_line : EndsLies old new → AllHold new
    honest_line did = store_line did.rest (same_none (held_in old.state.store).contents itself did.contents did.source (λ number. refl))

    pub hide_line : (label : List ℕ) (height : ℕ) → Lies old new (lies.Hide (row_at old new label height)) → AllHold new
    hide_line label height did =
        store_line did.0 (same_none (held_in old.state.store).contents (source_after (held_in old.state.store).source (lies.Hide (row_at old new label height))) did.1.held did.1.source (λ number. (holds.state.store number).1))

    pub stale_line : (label : List ℕ) (height from : ℕ) → Lies old new (lies.Stale (row_at old new label height) (row_at old new label from)) → AllHold new
    stale_line label height from did =
        store_line did.0
        (same_none (held_in old.state.store).contents (source_after (held_in old.state.store).source (lies.Stale (row_at old new label height) (row_at old new label from))) did.1.held did.1.source (λ number. (holds.state.store number).1))

    pub fork_line : (label : List ℕ) (height : ℕ) → Lies old new (lies.Fork (row_at old new label height)) → AllHold new
    fork_line label height did =
        store_line did.0 (same_none (held_in old.state.store).contents (source_after (held_in old.state.store).source (lies.Fork (row_at old new label height))) did.1.held did.1.source (λ number. (holds.state.store number).1))

    -- nothing but the endorsers changed
    link_line : OnlyLink old new → ServedIn (newest_tail (config ∷ [])) new.state.link → AllHold new
    link_line rest served =
        let state : StateHolds (record old.state { link = new.state.link }) =
        record { chain = holds.state.chain; checker = holds.state.checker; store = holds.state.store; link = served } in
        within (subst StateHolds (sym (ap (λ (r : Running (CellBank S C) C). r.state) rest)) state) (ap (λ (r : Running (CellBank S C) C). r.first) rest)
        (ap (λ (r : Running (CellBank S C) C). r.clients) rest) (going_by old.operations new.operations (ap (λ (r : Running (CellBank S C) C). r.operations) rest) holds.operations)

    pub lose_line : (id : ℕ) (which : Loss) (n : ℕ) → DidLose key left size signs fit accepts checks old new said id which n → AllHold new
    lose_line id which n did = link_line did.rest (same_in (newest_tail (config ∷ [])) old.state.link new.state.link did.log did.fresh holds.state.link)

    pub raw_line : (answered : List ℕ → Type 0) (did : DidRaw key left size signs fit accepts checks old new said answered) (id : ℕ) (call : Call) → BeginsIn (newest_tail (config ∷ [])) call
        → AnsweredRaw key left size signs fit old.state.link new.state.link id call did.line → AllHold new
    raw_line answered did id call begins is =
        link_line did.rest (raw_in (newest_tail (config ∷ [])) old.state.link new.state.link id call is.answer is.asks.noted did.fresh begins holds.state.link)
