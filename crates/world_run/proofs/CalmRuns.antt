-- A run over a calm service goes on: what its coordinator answers, and what its clients know then.
use Rattle.std.proofs.Common.{◌≡◌, ◌⊎◌, inl, inr, ℕ, zero, suc, ◌+◌, ◌-◌, ◌≤◌, cond, List, [], ◌∷◌, ◌++◌, length, slice_get, Some, None, refl, sym, ap, ap₂, ◌∙◌, subst, arith}
use Rattle.std.specs.Prelude.{count_by, slice_set, IsOk}
use Rattle.std.proofs.lemmas.List.Sums.{sum_by-append}
use Rattle.chain_block.specs.declared.entry.Entry.{Entry}
use Rattle.chain_block.specs.Entry.{handle_of}
use Rattle.fault_script.specs.Command.{Command}
use Rattle.fault_script.specs.Limits.{is_new}
use Rattle.statement.specs.declared.member.Member.{Member}
use Rattle.port.specs.Cause.{Conflict}
use Rattle.port.specs.Contents.{Contents}
use Rattle.port.specs.Link.{LinkView}
use Rattle.port.specs.Reply.{Standing, LatestReply}
use Rattle.port.specs.Service.{ServiceCall, NewLedger, Append, Latest, At, Views, ServiceAnswer, Stood, Replied, Refused}
use Rattle.port.specs.Store.{Truth}
use Rattle.port.specs.Trace.{Event, Ran, AreHonest}
use Rattle.blob_store.specs.LyingStore.{lying_view, held_in}
use Rattle.blob_store.specs.TrueStores.{NeitherLiesNorFails, AnsweredHonestly}
use Rattle.blob_store.specs.declared.lying_store.LyingStore.{LyingStore}
use Rattle.view_ledger.specs.Receipts.{Accepts}
use Rattle.view_ledger.specs.Views.{ViewChain}
use Rattle.verifier.specs.Outcomes.{append_outcome, at_outcome, latest_outcome}
use Rattle.client_pass.specs.ClientPass.{ClientPass}
use Rattle.calm.specs.Calls.{Later, StaysCalm, GrowsCalm}
use Rattle.calm.specs.Calm.{ServiceState, with_next}
use Rattle.calm.specs.StandingViews.{IsFront}
use Rattle.coordinator.specs.CalmStates.{Tells, IsCalmOver, WasHonest, CalmlyServed, after}
use Rattle.coordinator.specs.Entries.{first_entry, later_entry}
use Rattle.coordinator.specs.Says.{coordinator_says}
use Rattle.coordinator.specs.State.{State}
use Rattle.reply_taking.specs.Learning.{Grows}
use Rattle.script_world.specs.World.{World}
use Rattle.world_run.specs.Plain.{Known}
use Rattle.world_run.specs.Tied.{AreTied, KnowsFirst, IsTied}

-- the laws of the parts, of which those of a run are made
pub record Laws {L C : Type 0} (accepts : C → Accepts) (lv : L → LinkView) : Type 0 where
  pub answers : (old new : State LyingStore L C) (call : ServiceCall) (answer : ServiceAnswer) (service : ServiceState) (left : ℕ)
      → coordinator_says accepts lying_view lv old new call answer → IsCalmOver accepts lying_view lv old service → service.left ≡ left + 1
      → WasHonest lying_view lv old new service.contents → CalmlyServed accepts lying_view lv new call answer service left
  pub stays : (state : State LyingStore L C) (service : ServiceState) (later : Later) → Tells accepts lying_view lv state (after service later) → StaysCalm service later
      → IsCalmOver accepts lying_view lv state (record service { bank = later.bank; left = later.left })
  pub grows : (state : State LyingStore L C) (service : ServiceState) (entry : Entry) (later : Later) → Tells accepts lying_view lv state (after service later) → GrowsCalm service entry later
      → IsCalmOver accepts lying_view lv state (with_next service (handle_of entry) entry later.contents later.bank later.left)
  pub honest : (old new : LyingStore) (link link' : L) (events : List Event) → Ran lying_view lv old link events new link'
      → (truth : Truth) → (lying_view old).truth ≡ Some truth → NeitherLiesNorFails truth → AnsweredHonestly new truth events
  pub first : (old new : State LyingStore L C) (nonce payload : List ℕ) (standing : Standing) → coordinator_says accepts lying_view lv old new (NewLedger nonce payload) (Stood standing)
      → append_outcome (accepts old.checker) new.chain.configs (first_entry nonce payload) standing ≡ None
  pub later : (old new : State LyingStore L C) (handle : List ℕ) (height : ℕ) (nonce payload : List ℕ) (standing : Standing)
      → coordinator_says accepts lying_view lv old new (Append handle height nonce payload) (Stood standing)
      → append_outcome (accepts old.checker) new.chain.configs (later_entry handle height nonce payload) standing ≡ None
  pub conflict : (old new : State LyingStore L C) (handle : List ℕ) (height : ℕ) (nonce payload : List ℕ) (standing : Standing)
      → coordinator_says accepts lying_view lv old new (Append handle height nonce payload) (Refused (Conflict standing))
      → at_outcome (accepts old.checker) new.chain.configs handle height standing ≡ None
  pub at : (old new : State LyingStore L C) (handle : List ℕ) (height : ℕ) (standing : Standing) → coordinator_says accepts lying_view lv old new (At handle height) (Stood standing)
      → at_outcome (accepts old.checker) new.chain.configs handle height standing ≡ None
  pub newest : (old new : State LyingStore L C) (handle nonce : List ℕ) (reply : LatestReply) → coordinator_says accepts lying_view lv old new (Latest handle nonce) (Replied reply)
      → IsOk (latest_outcome (accepts old.checker) new.chain.configs handle nonce reply)

pub some_is : {X : Type 0} (a b : X) → Some a ≡ Some b → a ≡ b
some_is a b e = cc e

-- what a call did outside, whatever was asked
record Outside {L C : Type 0} (lv : L → LinkView) (old new : State LyingStore L C) : Type 0 where
  events : List Event
  ran : Ran lying_view lv old.store old.link events new.store new.link
  checker : new.checker ≡ old.checker

outside : {L C : Type 0} (accepts : C → Accepts) (lv : L → LinkView) (old new : State LyingStore L C) (call : ServiceCall) (answer : ServiceAnswer)
    → coordinator_says accepts lying_view lv old new call answer → Outside lv old new
outside accepts lv old new (NewLedger nonce payload) answer says = record { events = says.events; ran = says.ran; checker = says.checker }
outside accepts lv old new (Append handle height nonce payload) answer says = record { events = says.events; ran = says.ran; checker = says.checker }
outside accepts lv old new (Latest handle nonce) answer says = record { events = says.events; ran = says.ran; checker = says.checker }
outside accepts lv old new (At handle height) answer says = record { events = says.events; ran = says.ran; checker = says.checker }
outside accepts lv old new (Views number) answer says = record { events = says.events; ran = says.ran; checker = says.checker }

-- a beginning of a list with one element is that list
one_front : {X : Type 0} (config : X) (front rest : List X) → 1 ≤ length front → config ∷ [] ≡ front ++ rest → front ≡ config ∷ []
one_front config [] rest some split = absurd (omega (arith, some))
one_front {X} config (x ∷ []) rest some split = ap (λ (y : X). y ∷ []) (cc split)
one_front config (x ∷ y ∷ front) rest some split = absurd cc

abbrev pub view_chain : List Member → List (List Member) → ViewChain
view_chain roster configs = record { roster = roster; configs = configs }

pub whole_front : (roster : List Member) (configs : List (List Member)) (config : List Member) (chain : ViewChain) → configs ≡ config ∷ [] → IsFront roster configs chain
    → chain ≡ record { roster = roster; configs = configs }
whole_front roster configs config chain one front =
    let same : chain.configs ≡ configs = one_front config chain.configs front.rest front.some (sym one ∙ front.split) ∙ sym one in
    ap₂ view_chain front.genuine same

-- an element after one was set
set_cases : {X : Type 0} (xs : List X) (place other : ℕ) (x y : X) → slice_get (slice_set xs place x) other ≡ Some y → (y ≡ x) ⊎ (slice_get xs other ≡ Some y)
set_cases [] place other x y e = inr e
set_cases (z ∷ xs) zero zero x y e = inl (sym (some_is x y e))
set_cases (z ∷ xs) zero (suc other) x y e = inr e
set_cases (z ∷ xs) (suc place) zero x y e = inr e
set_cases (z ∷ xs) (suc place) (suc other) x y e = set_cases xs place other x y e

-- how many of some lines make a ledger, with one line more
pub more_news : (before : List Command) (command : Command) → count_by is_new (before ++ command ∷ []) ≡ count_by is_new before + cond (is_new command) 1 0
more_news before command = sum_by-append (λ c. cond (is_new c) 1 0) before (command ∷ []) ∙ omega arith

module _ {L C : Type 0} (accepts : C → Accepts) (checks : Accepts) (lv : L → LinkView) (laws : Laws accepts lv) (before : List Command) (old new : World L C) (known : Known) (left : ℕ)
    (tied : IsTied accepts checks lv before old known (left + 1)) where
  abbrev spare : ℕ
  spare = tied.service.left - 1

  module _ (middle : State LyingStore L C) (call : ServiceCall) (answer : ServiceAnswer) (says : coordinator_says accepts lying_view lv old.state middle call answer) where
    told_contents : (held_in old.state.store).contents ≡ tied.service.contents
    told_contents = some_is (held_in old.state.store).contents tied.service.contents tied.calm.tells.contents

    answered : (events : List Event) → Ran lying_view lv old.state.store old.state.link events middle.store middle.link → AnsweredHonestly middle.store (held_in old.state.store) events
    answered events ran = laws.honest old.state.store middle.store old.state.link middle.link events ran (held_in old.state.store) refl tied.unbent

    was_honest : WasHonest lying_view lv old.state middle tied.service.contents
    was_honest events ran =
        let is = answered events ran in
        (is.0, is.1, subst (λ (contents : Contents). AreHonest contents events is.0) told_contents is.2)

    pub served : CalmlyServed accepts lying_view lv middle call answer tied.service spare
    served =
        let one_more : tied.service.left ≡ spare + 1 = omega (arith, tied.enough) in
        laws.answers old.state middle call answer tied.service spare says tied.calm one_more was_honest

    pub still_unbent : NeitherLiesNorFails (held_in middle.store)
    still_unbent =
        let out = outside accepts lv old.state middle call answer says in
        let is = answered out.events out.ran in
        let then : held_in middle.store ≡ record (held_in old.state.store) { contents = is.0 } = some_is (held_in middle.store) (record (held_in old.state.store) { contents = is.0 }) is.3 in
        subst NeitherLiesNorFails (sym then) (record { source = tied.unbent.source; forks = tied.unbent.forks; due = tied.unbent.due })

    pub same_checker : middle.checker ≡ old.state.checker
    same_checker = (outside accepts lv old.state middle call answer says).checker

    -- the chain has the one view then, as before
    pub same_chain : middle.chain ≡ old.first
    same_chain = whole_front tied.service.roster tied.service.configs tied.config middle.chain tied.one_view served.tells.front ∙ sym tied.alone

  module _ (middle : State LyingStore L C) (place : ℕ) (from to : ClientPass C) (stood : slice_get old.clients place ≡ Some from) (stands : new.clients ≡ slice_set old.clients place to)
      (grows : Grows from to) (first : new.first ≡ old.first) (checker : middle.checker ≡ old.state.checker) (state : new.state ≡ middle) (chain : to.chain ≡ from.chain) where
    all_know : (other : ℕ) (client : ClientPass C) → slice_get new.clients other ≡ Some client → KnowsFirst accepts checks new.first client
    all_know other client is = elim (set_cases old.clients place other to client (ap (λ (l : List (ClientPass C)). slice_get l other) (sym stands) ∙ is)) [
      | inl own ↦
          let knew = tied.clients place from stood in
          subst (KnowsFirst accepts checks new.first) (sym own) (record { chain = chain ∙ knew.chain ∙ sym first; checker = ap accepts grows.checker ∙ knew.checker })
      | inr another ↦
          let knew = tied.clients other client another in
          record { chain = knew.chain ∙ sym first; checker = knew.checker }
    ]

    -- the run is tied to what is known then, where the service that is left is calm
    pub tied_then : (done : List Command) (next : ServiceState) (then : Known) → IsCalmOver accepts lying_view lv middle next → NeitherLiesNorFails (held_in middle.store) → left ≤ next.left
        → next.roster ≡ tied.service.roster → next.configs ≡ tied.service.configs → AreTied done new.labels new.draws next.ledgers then.ledgers → length next.rows ≤ count_by is_new done
        → IsTied accepts checks lv done new then left
    tied_then done next then calm unbent enough roster configs ledgers room = record {
      service = next;
      calm = subst (λ (s : State LyingStore L C). IsCalmOver accepts lying_view lv s next) (sym state) calm;
      unbent = subst (λ (s : State LyingStore L C). NeitherLiesNorFails (held_in s.store)) (sym state) unbent;
      enough = enough;
      checker = ap (λ (s : State LyingStore L C). accepts s.checker) state ∙ ap accepts checker ∙ tied.checker;
      config = tied.config;
      one_view = configs ∙ tied.one_view;
      alone = first ∙ tied.alone ∙ ap₂ view_chain (sym roster) (sym configs);
      clients = all_know;
      ledgers = ledgers;
      room = room;
    }
