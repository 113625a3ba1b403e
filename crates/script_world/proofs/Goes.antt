-- A run that goes on.
use Rattle.std.proofs.Common.{◌≡◌, inl, inr, ◌<◌, ℕ, List, [], ◌∷◌, ◌++◌, length, refl, sym, ap, subst, ◌∙◌, append_assoc, append-nil}
use Rattle.blob_store.specs.declared.lying_store.LyingStore.{LyingStore}
use Rattle.view_ledger.specs.Receipts.{Accepts}
use Rattle.view_ledger.specs.Views.{ViewChain}
use Rattle.client_pass.specs.Act.{Line}
use Rattle.client_pass.specs.ClientPass.{ClientPass}
use Rattle.coordinator.specs.State.{State}
use Rattle.reply_taking.specs.Learning.{Grows}
use Rattle.client_acts.specs.ClientActs.{ClientActs, StaysOn}
use Rattle.script_operations.specs.Operations.{Operations}
use Rattle.script_world.specs.Going.{GoesOn}
use Rattle.script_world.specs.Lines.{ClientCame, Restarted}
use Rattle.script_world.specs.Running.{Running, world_of}

-- a pass that did nothing, and one that did more twice
pub grows_same : {C : Type 0} (pass : ClientPass C) → Grows pass pass
grows_same pass = record {
  client = refl;
  checker = refl;
  first = refl;
  more = [];
  lines = sym (append-nil pass.lines);
}

pub grows_again : {C : Type 0} (old middle new : ClientPass C) → Grows old middle → Grows middle new → Grows old new
grows_again old middle new one other = record {
  client = other.client ∙ one.client;
  checker = other.checker ∙ one.checker;
  first = other.first ∙ one.first;
  more = one.more ++ other.more;
  lines = other.lines ∙ ap (λ (lines : List Line). lines ++ other.more) one.lines ∙ append_assoc old.lines one.more other.more;
}

module _ {L C : Type 0} where
  -- what contracts see of a run
  abbrev pub value : State LyingStore L C → ClientActs C → Operations → List (List ℕ × List ℕ) → ℕ → Running L C
  value state acts operations ledgers draws = record {
    state = state;
    first = acts.first;
    names = acts.names;
    clients = acts.clients;
    turns = acts.turns;
    operations = operations;
    ledgers = ledgers;
    draws = draws;
  }

  pub goes : (old : Running L C) (state later : State LyingStore L C) (acts after : ClientActs C) (operations begun : Operations) (ledgers others : List (List ℕ × List ℕ)) (draws more : ℕ)
      → value state acts operations ledgers draws ≡ old → later.checker ≡ state.checker → StaysOn acts after
      → GoesOn (world_of old) (world_of (value later after begun others more))
  goes old state later acts after operations begun ledgers others draws more view checker stays =
      subst (λ (old : Running L C). GoesOn (world_of old) (world_of (value later after begun others more))) view (record {
        first = stays.first;
        checker = checker;
        count = stays.count;
        grow = stays.grow;
      })

  -- the same where no client did anything
  pub goes_same : (old : Running L C) (state later : State LyingStore L C) (acts : ClientActs C) (operations begun : Operations) (ledgers others : List (List ℕ × List ℕ)) (draws more : ℕ)
      → value state acts operations ledgers draws ≡ old → later.checker ≡ state.checker
      → GoesOn (world_of old) (world_of (value later acts begun others more))
  goes_same old state later acts operations begun ledgers others draws more view checker =
      subst (λ (old : Running L C). GoesOn (world_of old) (world_of (value later acts begun others more))) view (record {
        first = refl;
        checker = checker;
        count = refl;
        grow = λ place from stood. (from, stood, grows_same from);
      })

  pub goes_still : (old : Running L C) → GoesOn (world_of old) (world_of old)
  goes_still old = record {
    first = refl;
    checker = refl;
    count = refl;
    grow = λ place from stood. (from, stood, grows_same from);
  }

  -- a client's place among them
  pub here : (old : Running L C) (state : State LyingStore L C) (acts : ClientActs C) (operations : Operations) (ledgers : List (List ℕ × List ℕ)) (draws place : ℕ)
      → value state acts operations ledgers draws ≡ old → place < length old.clients → place < length acts.clients
  here old state acts operations ledgers draws place view within = subst (λ (running : Running L C). place < length running.clients) (sym view) within

  -- a client that was there already, and one more
  pub came_already : (accepts : C → Accepts) (checks : Accepts) (old : Running L C) (state : State LyingStore L C) (acts : ClientActs C) (operations : Operations) (ledgers : List (List ℕ × List ℕ)) (draws place : ℕ)
      → value state acts operations ledgers draws ≡ old → place < length acts.clients
      → ClientCame accepts checks (world_of old) (world_of old) place
  came_already accepts checks old state acts operations ledgers draws place view within =
      inl (refl, subst (λ (running : Running L C). place < length running.clients) view within)

  pub came_now : (accepts : C → Accepts) (checks : Accepts) (old : Running L C) (state : State LyingStore L C) (acts after : ClientActs C) (operations : Operations) (ledgers : List (List ℕ × List ℕ)) (draws place : ℕ) (checker : C)
      → value state acts operations ledgers draws ≡ old → accepts checker ≡ checks → place ≡ length acts.clients → after.first ≡ acts.first
      → ((client : ClientPass C) × (client.checker ≡ checker) × (client.chain ≡ acts.first) × (after.clients ≡ acts.clients ++ client ∷ []) × (client.lines ≡ []))
      → ClientCame accepts checks (world_of old) (world_of (value state after operations ledgers draws)) place
  came_now accepts checks old state acts after operations ledgers draws place checker view agrees at_end first (client, own, chain, more, none) =
      subst (λ (old : Running L C). ClientCame accepts checks (world_of old) (world_of (value state after operations ledgers draws)) place) view (inr (
        record {
          client = client;
          checker = ap accepts own ∙ agrees;
          chain = chain;
          lines = none;
          clients = more;
          state = refl;
          first = first;
          labels = refl;
          draws = refl;
        },
        at_end,
      ))

  pub restarted : (old : Running L C) (state later : State LyingStore L C) (acts : ClientActs C) (operations begun : Operations) (ledgers : List (List ℕ × List ℕ)) (draws : ℕ) (first : ViewChain)
      → value state acts operations ledgers draws ≡ old → first ≡ acts.first → later ≡ record state { chain = first; refused = 0 }
      → Restarted (world_of old) (world_of (value later acts begun ledgers draws))
  restarted old state later acts operations begun ledgers draws first view same anew =
      subst (λ (old : Running L C). Restarted (world_of old) (world_of (value later acts begun ledgers draws))) view (record {
        state = anew ∙ ap (λ (chain : ViewChain). record state { chain = chain; refused = 0 }) same;
        first = refl;
        clients = refl;
        labels = refl;
        draws = refl;
      })
