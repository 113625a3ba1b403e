-- What is known of a store that lies.
use Rattle.port.specs.Store.{StoreView, Truth}
use Rattle.blob_store.specs.Lies.{source_of, forks_of}
use Rattle.blob_store.specs.Memory.{memory_view, truth_of}
use Rattle.blob_store.specs.declared.lying_store.LyingStore.{LyingStore}

abbrev pub lying_view : LyingStore → StoreView
lying_view store = memory_view (source_of store.lies) (forks_of store.lies) store.memory

-- what really stands in it
abbrev pub held_in : LyingStore → Truth
held_in store = truth_of (source_of store.lies) (forks_of store.lies) store.memory
