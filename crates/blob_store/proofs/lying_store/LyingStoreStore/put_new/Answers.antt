use Rattle.std.proofs.Common.{refl, sym}
use Rattle.blob_store.specs.Lies.{source_of, forks_of}
use Rattle.blob_store.proofs.Calls.{lied, noted_alone}
use Rattle.blob_store.proofs.lying_store.LyingStoreStore.put_new.Goals as goal

pub returns-clause-step : goal.returns-clause-step
returns-clause-step c = lied c.args.self.now _ _ _ refl (c.put_new.ensures.step (source_of c.args.self.now.lies) (forks_of c.args.self.now.lies) (sym c.forks-forks.ensures))

pub returns-clause-only : goal.returns-clause-only
returns-clause-only c = noted_alone _ _ _ c.put_new.ensures.noted
