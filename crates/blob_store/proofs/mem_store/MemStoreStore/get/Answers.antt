use Rattle.std.proofs.Common.{refl}
use Rattle.blob_store.specs.Memory.{memory_view}
use Rattle.blob_store.specs.MemStore.{itself, never}
use Rattle.blob_store.specs.declared.mem_store.MemStore.{MemStore}
use Rattle.blob_store.proofs.Calls.{carried, noted_alone}
use Rattle.blob_store.proofs.mem_store.MemStoreStore.get.Goals as goal

pub returns-clause-step : goal.returns-clause-step
returns-clause-step c = carried (memory_view itself never) (λ (store : MemStore). store.memory) c.args.self.now _ _ _ (c.get.ensures.step itself never refl)

pub returns-clause-only : goal.returns-clause-only
returns-clause-only c = noted_alone _ _ _ c.get.ensures.noted
