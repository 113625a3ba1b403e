-- What the parts of asking for views have done.
use Rattle.std.specs.Prelude.{◌≡◌, ◌⊎◌, ℕ, ◌+◌, ◌-◌, ◌≤◌, ◌<◌, max, true, List, ◌∷◌, ◌++◌, length, Vec, Result, Ok, Err}
use Rattle.port.specs.declared.refusal.Refusal.{Refusal}
use Rattle.port.specs.declared.store_answers.Got.{Got}
use Rattle.port.specs.Cause.{Cause, NoMemory, cause_of}
use Rattle.port.specs.Store.{StoreView}
use Rattle.port.specs.Trace.{Event}
use Rattle.port.specs.View.{ViewRow}
use Rattle.view_ledger.specs.Views.{ViewChain}
use Rattle.view_ledger.specs.Receipts.{Accepts}
use Rattle.op_parts.specs.RefreshSound.{Sound}
use Rattle.op_parts.specs.RefreshState.{RefreshState, is_live}
use Rattle.op_entry.specs.Refusal.{OrMemory}
use Rattle.op_entry.specs.Sound.{Refreshed, WasRefreshRefused}
use Rattle.coordinator.specs.ViewsGot.{Asked, finals_event, IsFinalsRefused, AreGot}
use Rattle.coordinator.specs.Views.{ViewsServed}

-- answers, with what contracts see of a refusal
abbrev pub row_answer : Result ViewRow Refusal → Result ViewRow Cause
row_answer (Ok row) = Ok row
row_answer (Err refusal) = Err (cause_of refusal)

abbrev pub rows_answer : {A : Type 0} → Result (Vec ViewRow A) Refusal → Result (List ViewRow) Cause
rows_answer (Ok rows) = Ok rows.items
rows_answer (Err refusal) = Err (cause_of refusal)

module _ {S : Type 0} (accepts : Accepts) (store_view : S → StoreView) where
  -- the chain was refreshed by calls of the store, or that was refused
  abbrev pub HasRefreshed : ViewChain → S → ViewChain → S → Result (Unit {0}) Refusal → Type 0
  HasRefreshed from s chain s' (Ok done) = (events : List Event) × Asked store_view s events s' × Refreshed accepts from chain events
  HasRefreshed from s chain s' (Err refusal) =
      (events : List Event) × Asked store_view s events s' × WasRefreshRefused accepts from chain (cause_of refusal) events

  -- These views were got from the first number on, with calls of the store and no other.
  pub record GotTo (chain : ViewChain) (first : ℕ) (s s' : S) (rows : List ViewRow) : Type 0 where
    pub calls : List Event
    pub asked : Asked store_view s calls s'
    pub got : AreGot accepts chain first rows calls
    pub many : length rows ≡ length calls

  -- The get of the next view's finals was refused.
  pub record WasRefused (chain : ViewChain) (first : ℕ) (s s' : S) (cause : Cause) : Type 0 where
    pub got : Got
    pub past : List Event
    pub rows : List ViewRow
    pub asked : Asked store_view s (finals_event (first + length rows) got ∷ past) s'
    pub are : AreGot accepts chain first rows past
    pub known : first + length rows < length chain.configs
    pub refused : OrMemory (IsFinalsRefused accepts chain (first + length rows) (finals_event (first + length rows) got)) cause

  -- memory was wanted
  abbrev pub WasCut : ViewChain → ℕ → S → S → Cause → Type 0
  WasCut chain first s s' NoMemory = (rows : List ViewRow) × GotTo chain first s s' rows
  WasCut chain first s s' cause = ⊥

  -- the views from the first number on, after these
  abbrev pub HasGot : ViewChain → ℕ → List ViewRow → S → S → Result (List ViewRow) Cause → Type 0
  HasGot chain first below s s' (Ok rows) =
      (above : List ViewRow) × (rows ≡ below ++ above) × GotTo chain first s s' above × (length above ≡ length chain.configs - first)
  HasGot chain first below s s' (Err cause) = WasRefused chain first s s' cause ⊎ WasCut chain first s s' cause

  -- so far
  pub record IsGetting (chain : ViewChain) (first number : ℕ) (below rows : List ViewRow) (s s' : S) : Type 0 where
    pub above : List ViewRow
    pub is : rows ≡ below ++ above
    pub got : GotTo chain first s s' above
    pub next : number ≡ first + length above
    pub within : number ≤ max first (length chain.configs)

  -- a whole call for the views from a number on
  abbrev pub ViewsRan : ℕ → ViewChain → S → ViewChain → S → Result (List ViewRow) Cause → Type 0
  ViewsRan number from s chain s' answer = (events : List Event) × Asked store_view s events s' × ViewsServed accepts number from chain events answer

  -- a refresh that has not ended has made these calls of the store and no other
  abbrev pub IsRefreshing : ViewChain → S → RefreshState → ViewChain → S → Type 0
  IsRefreshing from s refresh chain s' = ((past : List Event) × Asked store_view s past s' × Sound accepts from refresh chain past) × (is_live refresh ≡ true)
