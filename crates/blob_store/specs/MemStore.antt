-- What is known of an honest store in memory.
use Rattle.std.specs.Prelude.{Bool, false, Option, Some}
use Rattle.port.specs.declared.key.Key.{Key}
use Rattle.port.specs.Store.{StoreView, Truth}
use Rattle.blob_store.specs.Memory.{memory_view, truth_of}
use Rattle.blob_store.specs.declared.mem_store.MemStore.{MemStore}

-- a get of a key is given what stands there
abbrev pub itself : Key → Option Key
itself = λ key. Some key

-- no put replaces what stands
abbrev pub never : Key → Bool
never = λ key. false

abbrev pub mem_view : MemStore → StoreView
mem_view store = memory_view itself never store.memory

-- what really stands in it
abbrev pub truth_in : MemStore → Truth
truth_in store = truth_of itself never store.memory
