-- How a run begins.
use Rattle.std.specs.Prelude.{◌≡◌, ℕ, List, [], ◌∷◌, Some}
use Rattle.fault_script.specs.Command.{Command, Genesis}
use Rattle.port.specs.Contents.{nothing as nothing_stands}
use Rattle.blob_store.specs.LyingStore.{lying_view}
use Rattle.blob_store.specs.MemStore.{itself, never}
use Rattle.view_ledger.specs.Receipts.{Accepts}
use Rattle.endorser_cell.specs.CellBank.{CellBank}
use Rattle.script_world.specs.Labels.{no_labels}
use Rattle.script_world.specs.Running.{Running, world_of}
use Rattle.script_world.specs.World.{World}
use Rattle.script_runs.specs.Roster.{IsNewBank, all_members, members_by}

-- the ids of a script's first line
abbrev pub first_ids : List Command → List ℕ
first_ids (Genesis ids ∷ commands) = ids
first_ids _ = []

-- A run that has done nothing yet.
pub record IsUnbegun {L C : Type 0} (world : World L C) : Type 0 where
  pub first : world.first ≡ world.state.chain
  pub clients : world.clients ≡ []
  pub labels : world.labels ≡ no_labels
  pub draws : world.draws ≡ 0

module _ {S C : Type 0} (key : S → List ℕ) (left : S → ℕ) (accepts : C → Accepts) (key_of : ℕ → List ℕ) (left_of : ℕ → ℕ) (checks : Accepts) where
  -- Nothing was done yet: nothing stands in the store, which is honest, none of the endorsers 1 to 64 was asked anything, there are no
  -- clients, no operation was begun, and the chain has view 0 alone, of the members of these ids.
  pub record Begins (ids : List ℕ) (world : Running (CellBank S C) C) : Type 0 where
    pub unbegun : IsUnbegun (world_of world)
    pub chain : world.state.chain ≡ record { roster = all_members key_of; configs = members_by key_of ids ∷ [] }
    pub store : (lying_view world.state.store).truth ≡ Some (record { contents = nothing_stands; source = itself; forks = never; due = 0 })
    pub told : (lying_view world.state.store).told ≡ Some nothing_stands
    pub checker : accepts world.state.checker ≡ checks
    pub bank : IsNewBank key left accepts key_of left_of checks world.state.link
    pub names : world.names ≡ []
    pub turns : world.turns ≡ []
    pub operations : world.operations ≡ record { all = []; names = []; open_from = 0 }
