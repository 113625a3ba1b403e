-- A store of a run that is to lie or to fail.
use Rattle.std.specs.Prelude.{◌≡◌}
use Rattle.blob_store.specs.Fault.{Stays}
use Rattle.blob_store.specs.Lies.{source_after, forks_after}
use Rattle.blob_store.specs.LyingStore.{lying_view, held_in}
use Rattle.blob_store.specs.declared.lie.Lie.{Lie}
use Rattle.blob_store.specs.declared.lying_store.LyingStore.{LyingStore}

-- the store is to lie so from now on, and nothing else of it changes
pub record LiesSo (old new : LyingStore) (lie : Lie) : Type 0 where
  pub source : (held_in new).source ≡ source_after (held_in old).source lie
  pub forks : (held_in new).forks ≡ forks_after (held_in old).forks lie
  pub held : (held_in new).contents ≡ (held_in old).contents
  pub due : (held_in new).due ≡ (held_in old).due
  pub stays : Stays lying_view old new
