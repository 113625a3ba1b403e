-- An operation on entries over a calm service.
use Rattle.std.specs.Prelude.{◌≡◌, ◌+◌, List}
use Rattle.port.specs.Trace.{Event, AreHonest, AreFaithful}
use Rattle.view_ledger.specs.Views.{ViewChain}
use Rattle.op_entry.specs.Ask.{Ask}
use Rattle.op_entry.specs.State.{State}
use Rattle.op_entry.specs.Sound.{Sound}
use Rattle.calm.specs.StandingViews.{IsFront}
use Rattle.calm.specs.Calm.{ServiceState, IsCalm}
use Rattle.calm.specs.Calls.{Later}

-- What is asked of a calm service; the chain of views with which the operation began, which has the first of the service's; how it
-- stands now, and by which calls; and what stands then, and how many stamps and signatures each member has left at least.
pub record CalmRun : Type 0 where
  pub service : ServiceState
  pub ask : Ask
  pub from : ViewChain
  pub state : State
  pub past : List Event
  pub later : Later
  pub calm : IsCalm service
  pub one_more : service.left ≡ later.left + 1
  pub front : IsFront service.roster service.configs from
  pub sound : Sound service.accepts ask from state past
  pub honest : AreHonest service.contents past later.contents
  pub faithful : AreFaithful service.signs service.bank past later.bank

-- its chain has all views of the service
abbrev pub all_views : ServiceState → ViewChain
all_views service = record { roster = service.roster; configs = service.configs }
