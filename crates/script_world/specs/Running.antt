-- A run as contracts see it.
use Rattle.std.specs.Prelude.{◌≡◌, ℕ, List, length}
use Rattle.blob_store.specs.declared.lying_store.LyingStore.{LyingStore}
use Rattle.view_ledger.specs.Views.{ViewChain}
use Rattle.client_pass.specs.ClientPass.{ClientPass}
use Rattle.coordinator.specs.State.{State}
use Rattle.client_acts.specs.ClientActs.{ClientActs, line_count}
use Rattle.client_acts.specs.Turns.{lines_by}
use Rattle.client_acts.specs.declared.turn.Turn.{Turn}
use Rattle.name_map.specs.NameMap.{means}
use Rattle.script_operations.specs.Operations.{Operations, tasks_of}
use Rattle.script_operations.specs.Task.{AllHave}
use Rattle.script_world.specs.Labels.{no_labels}
use Rattle.script_world.specs.World.{World}

-- What the run has come to: the clients with their names and the turns in which they acted, and the operations that were begun. The ledgers
-- of labels are a list, in which no label stands twice.
pub record Running (L C : Type 0) : Type 0 where
  pub state : State LyingStore L C
  pub first : ViewChain
  pub names : List (List ℕ)
  pub clients : List (ClientPass C)
  pub turns : List Turn
  pub operations : Operations
  pub ledgers : List (List ℕ × List ℕ)
  pub draws : ℕ

abbrev pub world_of : {L C : Type 0} → Running L C → World L C
world_of running = record { state = running.state; first = running.first; clients = running.clients; turns = running.turns; labels = means running.ledgers; draws = running.draws }

-- its turns have as many lines of each client as the client wrote
abbrev pub AreTurnsCounted : {L C : Type 0} → Running L C → Type 0
AreTurnsCounted running = (place : ℕ) → lines_by place running.turns ≡ line_count running.clients place

-- its clients
abbrev pub acts_of : {L C : Type 0} → Running L C → ClientActs C
acts_of running = record { first = running.first; names = running.names; clients = running.clients; turns = running.turns }

-- a run with these clients and this coordinator, where nothing else matters
abbrev pub seen : {L C : Type 0} → State LyingStore L C → ClientActs C → World L C
seen state acts = record { state = state; first = acts.first; clients = acts.clients; turns = acts.turns; labels = no_labels; draws = 0 }

-- What stays so, whatever a script does: each client has its name, and each operation that was begun has its draw.
pub record IsKept {C : Type 0} (acts : ClientActs C) (operations : Operations) : Type 0 where
  pub named : length acts.names ≡ length acts.clients
  pub drawn : AllHave acts.clients (tasks_of operations)
