-- What contracts see of a coordinator.
use Rattle.std.specs.Prelude.{◌≡◌, ℕ, ◌-◌, ◌^◌, [], Option, Some, None}
use Rattle.port.specs.Service.{ServiceView}
use Rattle.view_ledger.specs.Views.{ViewChain}

-- its chain of views, its store, its link and its checker, and how many calls it refused
pub record State (S L C : Type 0) : Type 0 where
  pub chain : ViewChain
  pub store : S
  pub link : L
  pub checker : C
  pub refused : ℕ

-- the chain, which is lent out only while a call lasts
abbrev pub chain_in : Option ViewChain → ViewChain
chain_in (Some chain) = chain
chain_in None = record { roster = []; configs = [] }

-- It numbers no calls: what a call did is said of the calls that it made to the outside.
abbrev pub service_view : {S L C : Type 0} → State S L C → ServiceView
service_view state = record { refused = state.refused; calls = 2 ^ 64 - 1; was = λ n call answer. Unit {0} }
