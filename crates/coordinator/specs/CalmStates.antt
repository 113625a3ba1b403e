-- A coordinator over a calm service.
use Rattle.std.specs.Prelude.{◌≡◌, ℕ, List, [], ◌∷◌, Some, Result, Ok, Err}
use Rattle.statement.specs.declared.member.Member.{Member}
use Rattle.port.specs.Cause.{Cause, NoMemory}
use Rattle.port.specs.Contents.{Contents}
use Rattle.port.specs.Link.{LinkView}
use Rattle.port.specs.Reply.{Standing}
use Rattle.port.specs.Service.{ServiceCall, NewLedger, Append, Latest, At, Views, ServiceAnswer}
use Rattle.port.specs.Store.{StoreView}
use Rattle.port.specs.Trace.{Event, Ran, AreHonest}
use Rattle.port.specs.View.{ViewRow}
use Rattle.view_ledger.specs.Views.{ViewChain}
use Rattle.view_ledger.specs.Receipts.{Accepts}
use Rattle.op_entry.specs.Ask as asks
use Rattle.calm.specs.Calls.{Later, CalmLatest}
use Rattle.op_reconf.specs.First.{first_row}
use Rattle.calm.specs.Calm.{ServiceState, IsCalm, new_service}
use Rattle.calm.specs.StandingViews.{IsFront}
use Rattle.calm_first.specs.First.{BeforeFirst}
use Rattle.coordinator.specs.Calls.{OfStanding, OfReply, OfViews}
use Rattle.coordinator.specs.Calm.{CalmEntry, CalmViews}
use Rattle.coordinator.specs.Entries.{first_entry, later_entry}
use Rattle.coordinator.specs.State.{State}

module _ {S L C : Type 0} (accepts : C → Accepts) (store_view : S → StoreView) (link_view : L → LinkView) where
  -- Its store and its link tell this of the service, its checker accepts what the service's members sign, and its chain has the
  -- first of the service's views.
  pub record Tells (state : State S L C) (service : ServiceState) : Type 0 where
    pub contents : (store_view state.store).told ≡ Some service.contents
    pub bank : (link_view state.link).told ≡ Some service.bank
    pub signs : (link_view state.link).signs ≡ service.signs
    pub checks : accepts state.checker ≡ service.accepts
    pub front : IsFront service.roster service.configs state.chain

  -- the coordinator is calm
  pub record IsCalmOver (state : State S L C) (service : ServiceState) : Type 0 where
    pub tells : Tells state service
    pub calm : IsCalm service

-- By whatever calls the one came from the other, its store answered them honestly from these contents on, and tells what stands then.
abbrev pub WasHonest : {S L C : Type 0} → (S → StoreView) → (L → LinkView) → State S L C → State S L C → Contents → Type 0
WasHonest sv lv old new contents =
    (events : List Event) → Ran sv lv old.store old.link events new.store new.link → (after : Contents) × ((sv new.store).told ≡ Some after) × AreHonest contents events after

-- the same service, with what stands after a call
abbrev pub after : ServiceState → Later → ServiceState
after service later = record service { contents = later.contents; bank = later.bank; left = later.left }

-- what is answered to a call over a calm service, and what the service is then
abbrev pub CalmAnswer : ServiceCall → ServiceAnswer → ViewChain → ServiceState → Later → Type 0
CalmAnswer (NewLedger nonce payload) answer chain service later =
    OfStanding (λ (result : Result Standing Cause). CalmEntry (asks.NewLedger (first_entry nonce payload)) result service later) answer
CalmAnswer (Append handle height nonce payload) answer chain service later =
    OfStanding (λ (result : Result Standing Cause). CalmEntry (asks.AppendEntry (later_entry handle height nonce payload)) result service later) answer
CalmAnswer (Latest handle nonce) answer chain service later = OfReply (λ result. CalmLatest service handle nonce result later) answer
CalmAnswer (At handle height) answer chain service later = OfStanding (λ (result : Result Standing Cause). CalmEntry (asks.ReadAt handle height) result service later) answer
CalmAnswer (Views number) answer chain service later = OfViews (λ result. CalmViews chain result service later) answer

-- After a call the store and the link tell what stands then, and the answer is as a calm service's.
pub record CalmlyServed {S L C : Type 0} (accepts : C → Accepts) (store_view : S → StoreView) (link_view : L → LinkView) (new : State S L C) (call : ServiceCall) (answer : ServiceAnswer) (service : ServiceState) (left : ℕ) : Type 0 where
  pub later : Later
  pub one_less : later.left ≡ left
  pub tells : Tells accepts store_view link_view new (after service later)
  pub answered : CalmAnswer call answer new.chain service later

-- Nothing stands in its store yet and no member of its view 0 was initialized, which is the one view of its chain; store and link tell
-- so.
pub record IsBeforeFirst {S L C : Type 0} (accepts : C → Accepts) (store_view : S → StoreView) (link_view : L → LinkView) (state : State S L C) (first : BeforeFirst) : Type 0 where
  pub contents : (store_view state.store).told ≡ Some first.contents
  pub bank : (link_view state.link).told ≡ Some first.bank
  pub signs : (link_view state.link).signs ≡ first.signs
  pub checks : accepts state.checker ≡ first.accepts
  pub alone : state.chain.configs ≡ first.config ∷ []

-- the service in which view 0 stands, with these contents and endorsers
abbrev pub begun : BeforeFirst → List Member → Later → ServiceState
begun first roster later = new_service first.accepts first.signs later.contents later.bank roster first.config later.left

-- The view was answered and the coordinator is calm, or memory was wanted.
abbrev pub BeginsCalm : {S L C : Type 0} → (C → Accepts) → (S → StoreView) → (L → LinkView) → State S L C → BeforeFirst → Result ViewRow Cause → Type 0
BeginsCalm accepts sv lv new first (Ok row) =
    (row ≡ first_row first.config) × ((later : Later) × (later.left ≡ first.left) × IsCalmOver accepts sv lv new (begun first new.chain.roster later))
BeginsCalm accepts sv lv new first (Err NoMemory) = Unit {0}
BeginsCalm accepts sv lv new first (Err cause) = ⊥
