-- A store that was told to lie and holds no lie.
use Rattle.std.specs.Prelude.{◌≡◌, List, Some}
use Rattle.port.specs.Contents.{Contents}
use Rattle.port.specs.Store.{Truth}
use Rattle.port.specs.Trace.{Event, AreHonest}
use Rattle.blob_store.specs.LyingStore.{lying_view}
use Rattle.blob_store.specs.MemStore.{itself, never}
use Rattle.blob_store.specs.declared.lying_store.LyingStore.{LyingStore}

-- gets are given what stands at their keys, no put replaces it, and no call is still to fail
pub record NeitherLiesNorFails (truth : Truth) : Type 0 where
  pub source : truth.source ≡ itself
  pub forks : truth.forks ≡ never
  pub due : truth.due ≡ 0

-- These calls were answered honestly from what stood before, and the store tells what stands then, from which it departs no more.
abbrev pub AnsweredHonestly : LyingStore → Truth → List Event → Type 0
AnsweredHonestly new truth events =
    (after : Contents) × ((lying_view new).told ≡ Some after) × AreHonest truth.contents events after × ((lying_view new).truth ≡ Some (record truth { contents = after }))
