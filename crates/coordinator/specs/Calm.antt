-- What a coordinator answers over a calm service.
use Rattle.std.specs.Prelude.{◌≡◌, ◌+◌, List, Result, Ok, Err}
use Rattle.port.specs.Cause.{Cause, NoMemory}
use Rattle.port.specs.Reply.{Standing}
use Rattle.port.specs.Trace.{Event, AreHonest, AreFaithful}
use Rattle.port.specs.View.{ViewRow}
use Rattle.view_ledger.specs.Views.{ViewChain}
use Rattle.view_ledger.specs.Receipts.{Accepts}
use Rattle.op_entry.specs.Ask.{Ask, NewLedger, AppendEntry, ReadAt}
use Rattle.calm.specs.Calls.{Later, StaysCalm, CalmNew, CalmAppend, CalmAt, IsFirstOrNone}
use Rattle.calm.specs.Calm.{ServiceState, IsCalm}
use Rattle.calm.specs.StandingViews.{IsFront}

-- The calls were made over a service that was calm: to its store, which was honest, and to its endorsers, of which none was lost. The
-- chain of views had the first of its own. What stood afterwards, and what each member has left: one call's worth less.
pub record OverCalm (accepts : Accepts) (from : ViewChain) (events : List Event) (service : ServiceState) (later : Later) : Type 0 where
  pub calm : IsCalm service
  pub one_more : service.left ≡ later.left + 1
  pub checks : service.accepts ≡ accepts
  pub front : IsFront service.roster service.configs from
  pub honest : AreHonest service.contents events later.contents
  pub faithful : AreFaithful service.signs service.bank events later.bank

-- then this is so, and the chain still has the first of the service's views
abbrev pub Calmly : Accepts → ViewChain → ViewChain → List Event → (ServiceState → Later → Type 0) → Type 0
Calmly accepts from chain events P =
    (service : ServiceState) (later : Later) → OverCalm accepts from events service later → P service later × IsFront service.roster service.configs chain

abbrev pub CalmEntry : Ask → Result Standing Cause → ServiceState → Later → Type 0
CalmEntry (NewLedger entry) answer service later = IsFirstOrNone service entry → CalmNew service entry answer later
CalmEntry (AppendEntry entry) answer service later = CalmAppend service entry answer later
CalmEntry (ReadAt handle height) answer service later = CalmAt service handle height answer later

-- all views are known, or memory was wanted
abbrev pub CalmViews : ViewChain → Result (List ViewRow) Cause → ServiceState → Later → Type 0
CalmViews chain (Ok rows) service later = (chain ≡ record { roster = service.roster; configs = service.configs }) × StaysCalm service later
CalmViews chain (Err NoMemory) service later = Unit {0}
CalmViews chain (Err cause) service later = ⊥
