-- How a run begins.
use Rattle.std.proofs.Common.{◌≡◌, ℕ, List, [], ◌∷◌, Some, refl, sym, subst}
use Rattle.statement.specs.declared.member.Member.{Member}
use Rattle.port.specs.Contents.{nothing as nothing_stands}
use Rattle.blob_store.specs.LyingStore.{lying_view}
use Rattle.blob_store.specs.MemStore.{itself, never}
use Rattle.blob_store.specs.declared.lying_store.LyingStore.{LyingStore}
use Rattle.view_ledger.specs.Receipts.{Accepts}
use Rattle.view_ledger.specs.Views.{ViewChain}
use Rattle.endorser_cell.specs.CellBank.{CellBank}
use Rattle.coordinator.specs.State.{State}
use Rattle.script_operations.specs.Operations.{Operations}
use Rattle.script_world.specs.Running.{Running}
use Rattle.script_runs.specs.Begins.{Begins}
use Rattle.script_runs.specs.Roster.{IsNewBank, all_members, members_by}

-- the chain of one view
abbrev pub one_view : List Member → List Member → ViewChain
one_view roster config = record { roster = roster; configs = config ∷ [] }

abbrev none_begun : Operations
none_begun = record { all = []; names = []; open_from = 0 }

module _ {S C : Type 0} (key : S → List ℕ) (left : S → ℕ) (accepts : C → Accepts) (key_of : ℕ → List ℕ) (left_of : ℕ → ℕ) (checks : Accepts) (ids : List ℕ) where
  abbrev Run : Type 0
  Run = Running (CellBank S C) C

  -- of an empty store, a bank of which nothing was asked and the chain of view 0
  pub begun_so : (world : Run) (state : State LyingStore (CellBank S C) C) (chain first : ViewChain) (store : LyingStore) (bank : CellBank S C) (checker : C)
      → world ≡ record { state = state; first = first; names = []; clients = []; turns = []; operations = none_begun; ledgers = []; draws = 0 }
      → state ≡ record { chain = chain; store = store; link = bank; checker = checker; refused = 0 }
      → first ≡ chain → chain ≡ record { roster = all_members key_of; configs = members_by key_of ids ∷ [] }
      → (lying_view store).truth ≡ Some (record { contents = nothing_stands; source = itself; forks = never; due = 0 }) → (lying_view store).told ≡ Some nothing_stands
      → accepts checker ≡ checks → IsNewBank key left accepts key_of left_of checks bank → Begins key left accepts key_of left_of checks ids world
  begun_so world state chain first store bank checker made held copied is truth told same fresh =
      let begins : Begins key left accepts key_of left_of checks ids (record { state = record { chain = chain; store = store; link = bank; checker = checker; refused = 0 }; first = first; names = []; clients = []; turns = []; operations = none_begun; ledgers = []; draws = 0 }) = record {
        unbegun = record { first = copied; clients = refl; labels = refl; draws = refl };
        chain = is;
        store = truth;
        told = told;
        checker = same;
        bank = fresh;
        names = refl;
        turns = refl;
        operations = refl;
      } in
      let over : Begins key left accepts key_of left_of checks ids (record { state = state; first = first; names = []; clients = []; turns = []; operations = none_begun; ledgers = []; draws = 0 }) =
      subst (λ (s : State LyingStore (CellBank S C) C). Begins key left accepts key_of left_of checks ids (record { state = s; first = first; names = []; clients = []; turns = []; operations = none_begun; ledgers = []; draws = 0 })) (sym held) begins in
      subst (λ (w : Run). Begins key left accepts key_of left_of checks ids w) (sym made) over
