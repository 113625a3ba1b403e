-- How a run begins, restarts and gets a client more.
use Rattle.std.proofs.Common.{◌≡◌, ◌⊎◌, inl, inr, ℕ, zero, suc, ◌+◌, ◌≤◌, List, [], ◌∷◌, ◌++◌, length, slice_get, Some, Result, Ok, Err, refl, sym, ap, ◌∙◌, subst, arith}
use Rattle.std.proofs.lemmas.List.{append-nil}
use Rattle.fault_script.specs.Command.{Command, Genesis, Restart, End}
use Rattle.statement.specs.declared.member.Member.{Member}
use Rattle.port.specs.Cause.{Cause, NoMemory}
use Rattle.port.specs.Contents.{Contents}
use Rattle.port.specs.Link.{LinkView}
use Rattle.port.specs.Store.{Truth}
use Rattle.port.specs.Trace.{Event, Ran, AreHonest}
use Rattle.port.specs.View.{ViewRow}
use Rattle.blob_store.specs.LyingStore.{lying_view, held_in}
use Rattle.blob_store.specs.TrueStores.{NeitherLiesNorFails, AnsweredHonestly}
use Rattle.blob_store.specs.declared.lying_store.LyingStore.{LyingStore}
use Rattle.view_ledger.specs.Receipts.{Accepts}
use Rattle.view_ledger.specs.Views.{ViewChain}
use Rattle.client_pass.specs.ClientPass.{ClientPass}
use Rattle.calm.specs.Calm.{ServiceState}
use Rattle.calm.specs.StandingViews.{IsFront}
use Rattle.calm_first.specs.First.{BeforeFirst}
use Rattle.coordinator.specs.CalmStates.{IsBeforeFirst, IsCalmOver, WasHonest, BeginsCalm, begun}
use Rattle.coordinator.specs.First.{SaysOfFirst}
use Rattle.coordinator.specs.State.{State}
use Rattle.script_world.specs.Labels.{Labels, no_labels}
use Rattle.script_world.specs.Lines.{Restarted, HasClientMore}
use Rattle.script_world.specs.World.{World}
use Rattle.world_run.specs.Plain.{Known, after}
use Rattle.world_run.specs.PlainRun.{IsRunnable}
use Rattle.world_run.specs.Tied.{AreTied, KnowsFirst, IsTied, BeginsTied}
use Rattle.script_runs.specs.Begins.{IsUnbegun}
use Rattle.world_run.proofs.CalmRuns.{more_news, some_is, view_chain}
use Rattle.world_run.proofs.Nonces.{none_in_nothing}
use Rattle.world_run.proofs.TiedLedgers.{same_ledgers}

pushed : {X : Type 0} (xs : List X) (y x : X) (place : ℕ) → slice_get (xs ++ y ∷ []) place ≡ Some x → (slice_get xs place ≡ Some x) ⊎ (y ≡ x)
pushed [] y x zero e = inr (some_is y x e)
pushed [] y x (suc place) e = inl e
pushed (z ∷ xs) y x zero e = inl e
pushed (z ∷ xs) y x (suc place) e = pushed xs y x place e

-- nothing is known of ledgers after the first line, and none has an entry
first_ledgers : (ids : List ℕ) → AreTied (Genesis ids ∷ []) no_labels 0 (λ handle. []) (λ label. [])
first_ledgers ids = record {
  drawn = refl;
  nonces = λ handle entry has. absurd (none_in_nothing entry has);
  made = λ label. refl;
  first = λ label handle e. absurd cc;
  apart = λ one other handle e f. absurd cc;
  stand = λ handle. inl refl;
  payloads = λ label handle e. absurd cc;
  unmade = λ label e. refl;
}

module _ {L C : Type 0} (accepts : C → Accepts) (checks : Accepts) (lv : L → LinkView) where
  -- a restart changes nothing that is known
  pub restart_line : ((old new : State LyingStore L C) (service : ServiceState) → IsCalmOver accepts lying_view lv old service → new.store ≡ old.store → new.link ≡ old.link → new.checker ≡ old.checker
      → IsFront service.roster service.configs new.chain → IsCalmOver accepts lying_view lv new service)
      → (texts_of : ℕ → List (List ℕ)) (script before after : List Command) (old new : World L C) (known : Known) (left : ℕ) → IsRunnable texts_of script → script ≡ before ++ Restart ∷ after
      → IsTied accepts checks lv before old known (left + 1) → Restarted old new → IsTied accepts checks lv (before ++ Restart ∷ []) new known left
  restart_line restarts texts_of script before after old new known left fits split tied did =
      let chain : new.state.chain ≡ record { roster = tied.service.roster; configs = tied.service.configs } = ap (λ (s : State LyingStore L C). s.chain) did.state ∙ tied.alone in
      let configs : new.state.chain.configs ≡ tied.service.configs = ap (λ (c : ViewChain). c.configs) chain in
      let front : IsFront tied.service.roster tied.service.configs new.state.chain = record {
        genuine = ap (λ (c : ViewChain). c.roster) chain;
        some = subst (λ (l : List (List Member)). 1 ≤ length l) (sym (configs ∙ tied.one_view)) (omega arith);
        rest = [];
        split = sym (append-nil new.state.chain.configs ∙ configs);
      } in
      let store : new.state.store ≡ old.state.store = ap (λ (s : State LyingStore L C). s.store) did.state in
      let checker : new.state.checker ≡ old.state.checker = ap (λ (s : State LyingStore L C). s.checker) did.state in
      record {
        service = tied.service;
        calm = restarts old.state new.state tied.service tied.calm store (ap (λ (s : State LyingStore L C). s.link) did.state) checker front;
        unbent = subst (λ (s : LyingStore). NeitherLiesNorFails (held_in s)) (sym store) tied.unbent;
        enough = omega (arith, tied.enough);
        checker = ap accepts checker ∙ tied.checker;
        config = tied.config;
        one_view = tied.one_view;
        alone = did.first ∙ tied.alone;
        clients = λ place client is.
            let knew = tied.clients place client (ap (λ (l : List (ClientPass C)). slice_get l place) (sym did.clients) ∙ is) in
            record { chain = knew.chain ∙ sym did.first; checker = knew.checker };
        ledgers =
            subst (λ (labels : Labels). AreTied (before ++ Restart ∷ []) labels new.draws tied.service.ledgers known.ledgers) (sym did.labels)
            (same_ledgers texts_of script before after Restart fits split old.labels old.draws tied.service.ledgers known.ledgers tied.ledgers new.draws (did.draws ∙ omega arith) refl);
        room = omega (arith, tied.room, more_news before Restart);
      }

  -- nor does the end
  pub end_line : (texts_of : ℕ → List (List ℕ)) (script before after : List Command) (world : World L C) (known : Known) (left : ℕ) → IsRunnable texts_of script → script ≡ before ++ End ∷ after
      → IsTied accepts checks lv before world known (left + 1) → IsTied accepts checks lv (before ++ End ∷ []) world known left
  end_line texts_of script before after world known left fits split tied = record {
    service = tied.service;
    calm = tied.calm;
    unbent = tied.unbent;
    enough = omega (arith, tied.enough);
    checker = tied.checker;
    config = tied.config;
    one_view = tied.one_view;
    alone = tied.alone;
    clients = tied.clients;
    ledgers = same_ledgers texts_of script before after End fits split world.labels world.draws tied.service.ledgers known.ledgers tied.ledgers world.draws (omega arith) refl;
    room = omega (arith, tied.room, more_news before End);
  }

  -- nor does a client that comes
  pub client_more : (before : List Command) (old new : World L C) (known : Known) (left : ℕ) → IsTied accepts checks lv before old known left → HasClientMore accepts checks old new
      → IsTied accepts checks lv before new known left
  client_more before old new known left tied did = record {
    service = tied.service;
    calm = subst (λ (s : State LyingStore L C). IsCalmOver accepts lying_view lv s tied.service) (sym did.state) tied.calm;
    unbent = subst (λ (s : State LyingStore L C). NeitherLiesNorFails (held_in s.store)) (sym did.state) tied.unbent;
    enough = tied.enough;
    checker = ap (λ (s : State LyingStore L C). accepts s.checker) did.state ∙ tied.checker;
    config = tied.config;
    one_view = tied.one_view;
    alone = did.first ∙ tied.alone;
    clients = λ place client is. elim (pushed old.clients did.client client place (ap (λ (l : List (ClientPass C)). slice_get l place) (sym did.clients) ∙ is)) [
      | inl there ↦
          let knew = tied.clients place client there in
          record { chain = knew.chain ∙ sym did.first; checker = knew.checker }
      | inr own ↦ subst (KnowsFirst accepts checks new.first) own (record { chain = did.chain ∙ sym did.first; checker = did.checker })
    ];
    ledgers =
        subst (λ (labels : Labels). AreTied before labels new.draws tied.service.ledgers known.ledgers) (sym did.labels)
        (subst (λ (draws : ℕ). AreTied before old.labels draws tied.service.ledgers known.ledgers) (sym did.draws) tied.ledgers);
    room = tied.room;
  }

module _ {L C : Type 0} (accepts : C → Accepts) (lv : L → LinkView) where
  module _ (honest : (old new : LyingStore) (link link' : L) (events : List Event) → Ran lying_view lv old link events new link' → (truth : Truth) → (lying_view old).truth ≡ Some truth → NeitherLiesNorFails truth → AnsweredHonestly new truth events)
      (begins : (old new : State LyingStore L C) (answer : Result ViewRow Cause) (first : BeforeFirst) → SaysOfFirst accepts lying_view lv old new answer → IsBeforeFirst accepts lying_view lv old first
      → WasHonest lying_view lv old new first.contents → BeginsCalm accepts lying_view lv new first answer)
      (old new : World L C) (ids : List ℕ) (first : BeforeFirst) (same : new ≡ record old { state = new.state }) (unbegun : IsUnbegun old) (fresh : IsBeforeFirst accepts lying_view lv old.state first) (unbent : NeitherLiesNorFails (held_in old.state.store)) where
    world_first : new.first ≡ old.first
    world_first = ap (λ (w : World L C). w.first) same

    world_clients : new.clients ≡ old.clients
    world_clients = ap (λ (w : World L C). w.clients) same

    world_labels : new.labels ≡ old.labels
    world_labels = ap (λ (w : World L C). w.labels) same

    world_draws : new.draws ≡ old.draws
    world_draws = ap (λ (w : World L C). w.draws) same

    told_contents : (held_in old.state.store).contents ≡ first.contents
    told_contents = some_is (held_in old.state.store).contents first.contents fresh.contents

    answered : (events : List Event) → Ran lying_view lv old.state.store old.state.link events new.state.store new.state.link → AnsweredHonestly new.state.store (held_in old.state.store) events
    answered events ran = honest old.state.store new.state.store old.state.link new.state.link events ran (held_in old.state.store) refl unbent

    was_honest : WasHonest lying_view lv old.state new.state first.contents
    was_honest events ran =
        let is = answered events ran in
        (is.0, is.1, subst (λ (contents : Contents). AreHonest contents events is.0) told_contents is.2)

    unbent_then : (answer : Result ViewRow Cause) → SaysOfFirst accepts lying_view lv old.state new.state answer → NeitherLiesNorFails (held_in new.state.store)
    unbent_then answer says =
        let is = answered says.served.events says.served.ran in
        let then : held_in new.state.store ≡ record (held_in old.state.store) { contents = is.0 } = some_is (held_in new.state.store) (record (held_in old.state.store) { contents = is.0 }) is.3 in
        subst NeitherLiesNorFails (sym then) (record { source = unbent.source; forks = unbent.forks; due = unbent.due })

    began_tied : (answer : Result ViewRow Cause) → SaysOfFirst accepts lying_view lv old.state new.state answer → BeginsCalm accepts lying_view lv new.state first answer → BeginsTied accepts lv new ids first answer
    began_tied (Ok row) says is =
        let later = is.1.0 in
        let configs : old.state.chain.configs ≡ first.config ∷ [] = fresh.alone in
        let chain : new.state.chain ≡ old.state.chain = says.served.did.same in (
          is.0,
          record {
            service = begun first new.state.chain.roster later;
            calm = is.1.2;
            unbent = unbent_then (Ok row) says;
            enough = omega (arith, is.1.1);
            config = first.config;
            one_view = refl;
            checker = is.1.2.tells.checks;
            alone = world_first ∙ unbegun.first ∙ sym chain ∙ ap (view_chain new.state.chain.roster) (ap (λ (c : ViewChain). c.configs) chain ∙ configs);
            clients = λ place client has.
                let none : slice_get [] place ≡ Some client = ap (λ (l : List (ClientPass C)). slice_get l place) (sym (world_clients ∙ unbegun.clients)) ∙ has in
                absurd cc;
            ledgers =
                subst (λ (labels : Labels). AreTied (Genesis ids ∷ []) labels new.draws (λ handle. []) (λ label. [])) (sym (world_labels ∙ unbegun.labels))
                (subst (λ (draws : ℕ). AreTied (Genesis ids ∷ []) no_labels draws (λ handle. []) (λ label. [])) (sym (world_draws ∙ unbegun.draws)) (first_ledgers ids));
            room = omega arith;
          },
        )
    began_tied (Err NoMemory) says is = tt
    began_tied (Err cause) says is = absurd is

    pub begin_line : (answer : Result ViewRow Cause) → SaysOfFirst accepts lying_view lv old.state new.state answer → BeginsTied accepts lv new ids first answer
    begin_line answer says = began_tied answer says (begins old.state new.state answer first says fresh was_honest)
