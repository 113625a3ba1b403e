-- What a coordinator says where its views are asked for.
use Rattle.std.specs.Prelude.{◌≡◌, ◌⊎◌, ℕ, zero, suc, ◌+◌, ◌-◌, ◌<◌, max, List, [], ◌∷◌, ◌++◌, length, Result, Ok, Err}
use Rattle.port.specs.declared.store_answers.Got.{Got}
use Rattle.port.specs.Cause.{Cause, NoMemory}
use Rattle.port.specs.Trace.{Event, Had}
use Rattle.port.specs.View.{ViewRow}
use Rattle.view_ledger.specs.Views.{ViewChain}
use Rattle.view_ledger.specs.Receipts.{Accepts}
use Rattle.view_ledger.specs.Numbered.{row_at}
use Rattle.op_parts.specs.Refresh.{HasGrown}
use Rattle.op_entry.specs.Laws.{IsRefreshGet}
use Rattle.op_entry.specs.Refusal.{OrMemory}
use Rattle.op_entry.specs.Sound.{Refreshed, WasRefreshRefused}
use Rattle.coordinator.specs.ViewsGot.{finals_event, IsFinalsRefused, AreGot}

-- the first number whose finals are got: view 0 has none
abbrev pub first_got : ℕ → ℕ
first_got from = max from 1

-- view 0, where it is asked for, and the views above it
abbrev pub with_first : ViewChain → ℕ → List ViewRow → List ViewRow
with_first chain zero above = row_at chain.configs 0 [] ∷ above
with_first chain (suc n) above = above

-- By these calls the chain was refreshed, and then the finals were got of the views from the first number on, so far.
pub record AreBegun (accepts : Accepts) (from chain : ViewChain) (first : ℕ) (rows : List ViewRow) (events : List Event) : Type 0 where
  pub calls : List Event
  pub before : List Event
  pub split : events ≡ calls ++ before
  pub refreshed : Refreshed accepts from chain before
  pub got : AreGot accepts chain first rows calls

-- the views of all numbers from this one on
pub record AreViews (accepts : Accepts) (from chain : ViewChain) (number : ℕ) (rows : List ViewRow) (events : List Event) : Type 0 where
  pub above : List ViewRow
  pub is : rows ≡ with_first chain number above
  pub begun : AreBegun accepts from chain (first_got number) above events
  pub all : length above ≡ length chain.configs - first_got number

-- The newest call was to get the finals of the next view, and was refused for this cause.
pub record WasFinalsRefused (accepts : Accepts) (from chain : ViewChain) (first : ℕ) (cause : Cause) (events : List Event) : Type 0 where
  pub got : Got
  pub past : List Event
  pub rows : List ViewRow
  pub begun : AreBegun accepts from chain first rows past
  pub known : first + length rows < length chain.configs
  pub newest : events ≡ finals_event (first + length rows) got ∷ past
  pub refused : OrMemory (IsFinalsRefused accepts chain (first + length rows) (finals_event (first + length rows) got)) cause

-- memory was wanted between the calls, or for the answer
abbrev pub WasStopped : Accepts → ViewChain → ViewChain → ℕ → Cause → List Event → Type 0
WasStopped accepts from chain first NoMemory events = (rows : List ViewRow) × AreBegun accepts from chain first rows events
WasStopped accepts from chain first cause events = ⊥

-- what the answer says
abbrev pub ViewsSay : Accepts → ViewChain → ViewChain → ℕ → List Event → Result (List ViewRow) Cause → Type 0
ViewsSay accepts from chain number events (Ok rows) = AreViews accepts from chain number rows events
ViewsSay accepts from chain number events (Err cause) =
    WasRefreshRefused accepts from chain cause events
    ⊎ (WasFinalsRefused accepts from chain (first_got number) cause events ⊎ WasStopped accepts from chain (first_got number) cause events)

-- no call but gets of views and of what ended them
abbrev pub OwnGets : List Event → Type 0
OwnGets events = (event : Event) → Had events event → IsRefreshGet event

-- The calls are gets of views and of finals, the chain grew by the oldest of them, and this is what they say of the answer.
pub record ViewsServed (accepts : Accepts) (number : ℕ) (from chain : ViewChain) (events : List Event) (answer : Result (List ViewRow) Cause) : Type 0 where
  pub own : OwnGets events
  pub grown : HasGrown accepts from chain events
  pub says : ViewsSay accepts from chain number events answer
