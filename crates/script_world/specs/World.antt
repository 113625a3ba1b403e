-- What a run of a script has come to.
use Rattle.std.specs.Prelude.{ℕ, List}
use Rattle.blob_store.specs.declared.lying_store.LyingStore.{LyingStore}
use Rattle.view_ledger.specs.Views.{ViewChain}
use Rattle.client_pass.specs.ClientPass.{ClientPass}
use Rattle.coordinator.specs.State.{State}
use Rattle.client_acts.specs.declared.turn.Turn.{Turn}
use Rattle.script_world.specs.Labels.{Labels}

-- The coordinator with its store and its link, the chain that has view 0 alone, the clients in the order in which they came, with the turns
-- in which they acted, the ledgers of labels, and how many nonces were drawn.
pub record World (L C : Type 0) : Type 0 where
  pub state : State LyingStore L C
  pub first : ViewChain
  pub clients : List (ClientPass C)
  pub turns : List Turn
  pub labels : Labels
  pub draws : ℕ
