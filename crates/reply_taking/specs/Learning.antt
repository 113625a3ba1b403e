-- What a client does on the way to a check: it learns of views, and then notes what was checked.
use Rattle.std.specs.Prelude.{◌≡◌, ◌++◌, ℕ, true, false, List, Option, length}
use Rattle.std.specs.List.{AllByRecursion}
use Rattle.port.specs.Link.{LinkView}
use Rattle.port.specs.Service.{ServiceAnswer, Views}
use Rattle.port.specs.Store.{StoreView}
use Rattle.port.specs.View.{ViewRow}
use Rattle.view_ledger.specs.Receipts.{Accepts}
use Rattle.view_ledger.specs.declared.view_fault.ViewFault.{ViewFault}
use Rattle.verifier.specs.Outcomes.{is_known}
use Rattle.client_pass.specs.Act.{Act, Line, View}
use Rattle.client_pass.specs.ClientPass.{ClientPass, Notes}
use Rattle.coordinator.specs.Says.{coordinator_says}
use Rattle.coordinator.specs.State.{State}

-- The client did more: its number, its checker and the chain that it began with stay, and so do all lines.
pub record Grows {C : Type 0} (old new : ClientPass C) : Type 0 where
  pub client : new.client ≡ old.client
  pub checker : new.checker ≡ old.checker
  pub first : new.first ≡ old.first
  pub more : List Line
  pub lines : new.lines ≡ old.lines ++ more

-- each line is that of a view that was taken
abbrev pub AreViews : List Line → Type 0
AreViews lines = AllByRecursion (λ (line : Line). (row : ViewRow) × (fault : Option ViewFault) × (line.act ≡ View row fault)) lines

-- The client took views, and did nothing else.
pub record TakesViews {C : Type 0} (from to : ClientPass C) : Type 0 where
  pub grows : Grows from to
  pub views : AreViews grows.more

-- The client took views, and then this one act was noted.
pub record NotedAfterViews {C : Type 0} (from to : ClientPass C) (act : Act) : Type 0 where
  pub middle : ClientPass C
  pub views : TakesViews from middle
  pub noted : Notes middle to act

-- Where the client's chain has the view, nothing was asked and the chain is as it was. Where it doesn't, the coordinator was asked for
-- the views above the newest one of the chain.
pub record Learns {S L C : Type 0} (accepts : C → Accepts) (store_view : S → StoreView) (link_view : L → LinkView) (old new : State S L C) (from to : ClientPass C) (view : List ℕ) : Type 0 where
  pub known : is_known from.chain.configs view ≡ true → (new ≡ old) × (to.chain ≡ from.chain)
  pub unknown : is_known from.chain.configs view ≡ false
      → (answer : ServiceAnswer) × coordinator_says accepts store_view link_view old new (Views (length from.chain.configs)) answer
