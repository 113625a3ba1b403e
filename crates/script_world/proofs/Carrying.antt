-- Clients by their names, and operations that were begun, go on, or are told an answer.
use Rattle.std.proofs.Common.{◌≡◌, ◌≢◌, inl, inr, ◌<◌, ℕ, List, [], ◌∷◌, ◌++◌, length, slice_get, Option, Some, None, IfSome, IfNone, IfOk, MatchOption, Result, Ok, Err, refl, sym, ap, subst, ◌∙◌}
use Rattle.chain_block.specs.declared.entry.Entry.{Entry}
use Rattle.chain_block.specs.Entry.{bare}
use Rattle.blob_store.specs.declared.lying_store.LyingStore.{LyingStore}
use Rattle.blob_store.specs.LyingStore.{lying_view}
use Rattle.nim_base.specs.Text.{Content as TextContent}
use Rattle.nim_base.specs.declared.no_memory.NoMemory.{NoMemory}
use Rattle.port.specs.Link.{LinkView}
use Rattle.port.specs.Reply.{LatestReply}
use Rattle.port.specs.Store.{StoreView}
use Rattle.view_ledger.specs.Receipts.{Accepts}
use Rattle.view_ledger.specs.Views.{ViewChain}
use Rattle.coordinator.specs.State.{State}
use Rattle.client_acts.specs.ClientActs.{ClientActs, StaysOn}
use Rattle.endorser_cell.specs.CellBank.{CellBank, bank_view}
use Rattle.name_map.specs.NameMap.{means}
use Rattle.answer_lines.specs.Draws.{DrewEntry, DrewRead}
use Rattle.script_operations.specs.Giving.{HasFinished, HasGiven, HasRetried, NoneReads}
use Rattle.script_operations.specs.Operations.{Operations, Progress, Closed, InEntry, InNewest, HasBegun, NoneIsNamed, NoneIsOpen}
use Rattle.script_operations.specs.Stepping.{Steps, StepsNamed}
use Rattle.script_operations.specs.Task.{Height, Newest, Own, Task}
use Rattle.script_world.specs.Carried.{CameAs, Finished, GivenReply, KeepsNames, Opened, Retried, Stepped}
use Rattle.script_world.specs.Labels.{handle_for}
use Rattle.script_world.specs.Lines.{ClientCame}
use Rattle.script_world.specs.Nonce.{nonce}
use Rattle.script_world.specs.Running.{Running, world_of}
use Rattle.script_world.proofs.Goes.{value}

-- what stands at the end
last_of : (names : List (List ℕ)) (name : List ℕ) → slice_get (names ++ name ∷ []) (length names) ≡ Some name
last_of [] name = refl
last_of (first ∷ names) name = last_of names name

pub keeps_still : {L C : Type 0} (old : Running L C) → KeepsNames old old
keeps_still old = record { names = refl; operations = refl }

module _ {L C : Type 0} (old : Running L C) (state : State LyingStore L C) (acts : ClientActs C) (operations : Operations) (ledgers : List (List ℕ × List ℕ)) (draws : ℕ) (view : value state acts operations ledgers draws ≡ old) where
  -- a client that is found by its name, and one that isn't
  pub found_client : (result : Option ℕ) (name : List ℕ) → IfSome result (λ place. slice_get acts.names place ≡ Some name) → IfSome result (λ place. place < length acts.clients)
      → IfSome result (λ place. (place < length old.clients) × (slice_get old.names place ≡ Some name))
  found_client None name is below = tt
  found_client (Some place) name is below =
      (subst (λ (running : Running L C). place < length running.clients) view below, subst (λ (running : Running L C). slice_get running.names place ≡ Some name) view is)

  pub no_client : (result : Option ℕ) (name : List ℕ) → (result ≡ None → (place : ℕ) → slice_get acts.names place ≢ Some name)
      → IfNone result ((place : ℕ) → slice_get old.names place ≢ Some name)
  no_client None name none = subst (λ (running : Running L C). (place : ℕ) → slice_get running.names place ≢ Some name) view (none refl)
  no_client (Some place) name none = tt

  -- a client that was there already, and one more
  pub here_as : (accepts : C → Accepts) (checks : Accepts) (name : List ℕ) (place : ℕ) → slice_get acts.names place ≡ Some name
      → ClientCame accepts checks (world_of old) (world_of old) place → CameAs accepts checks old old name place
  here_as accepts checks name place is came = record {
    came = came;
    named = subst (λ (running : Running L C). slice_get running.names place ≡ Some name) view is;
    names = inl refl;
    turns = refl;
    operations = refl;
  }

  pub came_as : (accepts : C → Accepts) (checks : Accepts) (after : ClientActs C) (name : List ℕ) (place : ℕ)
      → place ≡ length acts.clients → length acts.names ≡ length acts.clients
      → after.names ≡ acts.names ++ name ∷ [] → after.turns ≡ acts.turns → ((other : ℕ) → slice_get acts.names other ≢ Some name)
      → ClientCame accepts checks (world_of old) (world_of (value state after operations ledgers draws)) place
      → CameAs accepts checks old (value state after operations ledgers draws) name place
  came_as accepts checks after name place at_end named names turns none came =
      let last : slice_get (acts.names ++ name ∷ []) place ≡ Some name =
      subst (λ (place : ℕ). slice_get (acts.names ++ name ∷ []) place ≡ Some name) (named ∙ sym at_end) (last_of acts.names name) in
      record {
        came = came;
        named = subst (λ (names : List (List ℕ)). slice_get names place ≡ Some name) (sym names) last;
        names = inr (subst (λ (running : Running L C). (after.names ≡ running.names ++ name ∷ []) × ((other : ℕ) → slice_get running.names other ≢ Some name)) view (names, none));
        turns = turns ∙ ap (λ (running : Running L C). running.turns) view;
        operations = ap (λ (running : Running L C). running.operations) view;
      }

  -- what no name and no operation came to
  pub keeps_on : (later : State LyingStore L C) (after : ClientActs C) (others : List (List ℕ × List ℕ)) (more : ℕ) → StaysOn acts after
      → KeepsNames old (value later after operations others more)
  keeps_on later after others more stays = record {
    names = stays.names ∙ ap (λ (running : Running L C). running.names) view;
    operations = ap (λ (running : Running L C). running.operations) view;
  }

  pub names_on : (after : ClientActs C) → StaysOn acts after → after.names ≡ old.names
  names_on after stays = stays.names ∙ ap (λ (running : Running L C). running.names) view

  -- all operations closed
  pub all_closed : (begun : Operations) → begun ≡ record { all = operations.all; names = operations.names; open_from = length operations.all }
      → begun ≡ record { all = old.operations.all; names = old.operations.names; open_from = length old.operations.all }
  all_closed begun closed =
      closed ∙ ap (λ (running : Running L C). record { all = running.operations.all; names = running.operations.names; open_from = length running.operations.all }) view

  -- an operation that was begun
  pub opened : (after : ClientActs C) (begun : Operations) (others : List (List ℕ × List ℕ)) (more : ℕ) (name : List ℕ) (task own : Task) (label : List ℕ) (chain : ViewChain)
      → HasBegun operations begun name task label chain → chain ≡ state.chain → task ≡ own → after.names ≡ acts.names
      → Opened old (value state after begun others more) name own label
  opened after begun others more name task own label chain has from same names =
      let whole : HasBegun operations begun name own label state.chain = subst (λ (task : Task). HasBegun operations begun name task label state.chain) same
      (subst (λ (chain : ViewChain). HasBegun operations begun name task label chain) from has) in
      subst (λ (old : Running L C). Opened old (value state after begun others more) name own label) view (record { begun = whole; names = names })

  -- one for an entry that a client drew
  pub opened_own : (after : ClientActs C) (begun : Operations) (others : List (List ℕ × List ℕ)) (more : ℕ) (name : List ℕ) (client draw : ℕ) (entry own : Entry) (label : List ℕ) (chain : ViewChain)
      → DrewEntry after.clients client draw (bare entry) → HasBegun operations begun name (Own client draw (bare entry)) label chain → chain ≡ state.chain → bare entry ≡ own
      → after.names ≡ acts.names
      → (draw : ℕ) × DrewEntry after.clients client draw own × Opened old (value state after begun others more) name (Own client draw own) label
  opened_own after begun others more name client draw entry own label chain drew has from same names = (
    draw,
    subst (λ (entry : Entry). DrewEntry after.clients client draw entry) same drew,
    opened after begun others more name (Own client draw (bare entry)) (Own client draw own) label chain has from (ap (λ (entry : Entry). Own client draw entry) same) names,
  )

  -- one for a read that a client drew, and one that draws nothing
  pub opened_read : (after : ClientActs C) (begun : Operations) (others : List (List ℕ × List ℕ)) (more : ℕ) (name : List ℕ) (client draw : ℕ) (handle drawn label : List ℕ) (chain : ViewChain)
      → DrewRead after.clients client draw drawn → HasBegun operations begun name (Newest client draw handle drawn) label chain → chain ≡ state.chain
      → handle ≡ handle_for (means ledgers) label → drawn ≡ nonce draws → after.names ≡ acts.names
      → (draw : ℕ) × DrewRead after.clients client draw (nonce old.draws) × Opened old (value state after begun others more) name (Newest client draw (handle_for (world_of old).labels label) (nonce old.draws)) label
  opened_read after begun others more name client draw handle drawn label chain drew has from means_it is names =
      let means_old : handle ≡ handle_for (world_of old).labels label = means_it ∙ ap (λ (running : Running L C). handle_for (world_of running).labels label) view in
      let of_old : drawn ≡ nonce old.draws = is ∙ ap (λ (running : Running L C). nonce running.draws) view in
      let same : Newest client draw handle drawn ≡ Newest client draw (handle_for (world_of old).labels label) (nonce old.draws) =
      ap (λ (handle : List ℕ). Newest client draw handle drawn) means_old ∙ ap (λ (drawn : List ℕ). Newest client draw (handle_for (world_of old).labels label) drawn) of_old in (
        draw,
        subst (λ (drawn : List ℕ). DrewRead after.clients client draw drawn) of_old drew,
        opened after begun others more name (Newest client draw handle drawn) (Newest client draw (handle_for (world_of old).labels label) (nonce old.draws)) label chain has from same names,
      )

  pub opened_height : (begun : Operations) (name : List ℕ) (client : ℕ) (handle : List ℕ) (height : ℕ) (label : List ℕ) (chain : ViewChain)
      → HasBegun operations begun name (Height client handle height) label chain → chain ≡ state.chain → handle ≡ handle_for (means ledgers) label
      → Opened old (value state acts begun ledgers draws) name (Height client (handle_for (world_of old).labels label) height) label
  opened_height begun name client handle height label chain has from means_it =
      let means_old : handle ≡ handle_for (world_of old).labels label = means_it ∙ ap (λ (running : Running L C). handle_for (world_of running).labels label) view in
      opened acts begun ledgers draws name (Height client handle height) (Height client (handle_for (world_of old).labels label) height) label chain has from
      (ap (λ (handle : List ℕ). Height client handle height) means_old) refl

  -- no read has the name
  pub none_reads : (name : List ℕ) → NoneReads operations name → NoneReads old.operations name
  none_reads name none = subst (λ (running : Running L C). NoneReads running.operations name) view none

  -- nothing came of it
  pub same_value : (later : State LyingStore L C) (after : ClientActs C) (begun : Operations) → begun ≡ operations → after ≡ acts → later ≡ state
      → value later after begun ledgers draws ≡ old
  same_value later after begun same_operations same_acts same_state =
      ap (λ (later : State LyingStore L C). value later after begun ledgers draws) same_state
      ∙ (ap (λ (after : ClientActs C). value state after begun ledgers draws) same_acts
      ∙ (ap (λ (begun : Operations). value state acts begun ledgers draws) same_operations ∙ view))

module _ {S L C : Type 0} (store_view : S → StoreView) (link_view : L → LinkView) (before after : State S L C) (accepts : Accepts) where
  -- steps leave the checker as it was
  steps_checker : (old new : Progress) (n : ℕ) → Steps store_view link_view before after accepts old new n → after.checker ≡ before.checker
  steps_checker Closed Closed n steps = ap (λ (state : State S L C). state.checker) steps
  steps_checker Closed (InEntry new) n steps = absurd steps
  steps_checker Closed (InNewest new) n steps = absurd steps
  steps_checker (InEntry old) Closed n steps = absurd steps
  steps_checker (InEntry old) (InEntry new) n steps = steps.goes.calls.checker
  steps_checker (InEntry old) (InNewest new) n steps = absurd steps
  steps_checker (InNewest old) Closed n steps = absurd steps
  steps_checker (InNewest old) (InEntry new) n steps = absurd steps
  steps_checker (InNewest old) (InNewest new) n steps = steps.goes.calls.checker

  pub named_checker : (old new : Operations) (name : List ℕ) (n : ℕ) → StepsNamed store_view link_view before after accepts old new name n → after.checker ≡ before.checker
  named_checker old new name n (inl has) = steps_checker has.begun.progress has.progress n has.steps
  named_checker old new name n (inr (none, same, quiet)) = ap (λ (state : State S L C). state.checker) quiet

module _ {S C : Type 0} (key : S → List ℕ) (left : S → ℕ) (accepts : C → Accepts) (checks : Accepts) (old : Running (CellBank S C) C)
    (state : State LyingStore (CellBank S C) C) (acts : ClientActs C) (operations : Operations) (ledgers : List (List ℕ × List ℕ)) (draws : ℕ) (view : value state acts operations ledgers draws ≡ old) where
  pub stepped : (later : State LyingStore (CellBank S C) C) (begun : Operations) (name : List ℕ) (n : ℕ)
      → StepsNamed lying_view (bank_view key left accepts) state later (accepts state.checker) operations begun name n
      → Stepped key left accepts checks old (value later acts begun ledgers draws) name n
  stepped later begun name n steps =
      subst (λ (old : Running (CellBank S C) C). Stepped key left accepts checks old (value later acts begun ledgers draws) name n) view steps

  pub finished : (later : State LyingStore (CellBank S C) C) (after : ClientActs C) (begun : Operations) (name : List ℕ) (result : Result (Option TextContent) NoMemory)
      → IfOk result (λ line. MatchOption line (NoneIsOpen operations name × (begun ≡ operations) × (after ≡ acts) × (later ≡ state))
      (λ line. HasFinished accepts lying_view (bank_view key left accepts) checks name acts after state later operations begun line.bytes))
      → IfOk result (λ line. MatchOption line (NoneIsOpen old.operations name × (value later after begun ledgers draws ≡ old))
      (λ line. Finished key left accepts checks old (value later after begun ledgers draws) name line.bytes))
  finished later after begun name (Err fault) is = tt
  finished later after begun name (Ok None) is = (
    subst (λ (running : Running (CellBank S C) C). NoneIsOpen running.operations name) view is.0,
    same_value old state acts operations ledgers draws view later after begun is.1 is.2 is.3,
  )
  finished later after begun name (Ok (Some line)) is =
      subst (λ (old : Running (CellBank S C) C). Finished key left accepts checks old (value later after begun ledgers draws) name line.bytes) view is

  pub retried : (later : State LyingStore (CellBank S C) C) (after : ClientActs C) (name : List ℕ) (result : Result (Option TextContent) NoMemory)
      → IfOk result (λ line. MatchOption line (NoneIsNamed operations name × (after ≡ acts) × (later ≡ state))
      (λ line. HasRetried accepts lying_view (bank_view key left accepts) checks name acts after state later operations line.bytes))
      → IfOk result (λ line. MatchOption line (NoneIsNamed old.operations name × (value later after operations ledgers draws ≡ old))
      (λ line. Retried key left accepts checks old (value later after operations ledgers draws) name line.bytes))
  retried later after name (Err fault) is = tt
  retried later after name (Ok None) is = (
    subst (λ (running : Running (CellBank S C) C). NoneIsNamed running.operations name) view is.0,
    same_value old state acts operations ledgers draws view later after operations refl is.1 is.2,
  )
  retried later after name (Ok (Some line)) is =
      subst (λ (old : Running (CellBank S C) C). Retried key left accepts checks old (value later after operations ledgers draws) name line.bytes) view is

  pub given : (later : State LyingStore (CellBank S C) C) (after : ClientActs C) (begun : Operations) (name : List ℕ) (reply : LatestReply) (result : Result (Option TextContent) NoMemory)
      → IfOk result (λ line. MatchOption line (NoneReads operations name × (begun ≡ operations) × (after ≡ acts) × (later ≡ state))
      (λ line. HasGiven accepts lying_view (bank_view key left accepts) checks name acts after state later operations begun reply line.bytes))
      → IfOk result (λ line. MatchOption line (NoneReads old.operations name × (value later after begun ledgers draws ≡ old))
      (λ line. GivenReply key left accepts checks old (value later after begun ledgers draws) name reply line.bytes))
  given later after begun name reply (Err fault) is = tt
  given later after begun name reply (Ok None) is = (
    subst (λ (running : Running (CellBank S C) C). NoneReads running.operations name) view is.0,
    same_value old state acts operations ledgers draws view later after begun is.1 is.2 is.3,
  )
  given later after begun name reply (Ok (Some line)) is =
      subst (λ (old : Running (CellBank S C) C). GivenReply key left accepts checks old (value later after begun ledgers draws) name reply line.bytes) view is
