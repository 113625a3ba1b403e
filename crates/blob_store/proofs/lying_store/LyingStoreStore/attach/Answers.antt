use Rattle.std.proofs.Common.{refl}
use Rattle.blob_store.specs.Lies.{source_of, forks_of}
use Rattle.blob_store.proofs.Calls.{lied, noted_alone}
use Rattle.blob_store.proofs.lying_store.LyingStoreStore.attach.Goals as goal

pub returns-clause-step : goal.returns-clause-step
returns-clause-step c = lied c.args.self.now _ _ _ refl (c.attach.ensures.step (source_of c.args.self.now.lies) (forks_of c.args.self.now.lies))

pub returns-clause-only : goal.returns-clause-only
returns-clause-only c = noted_alone _ _ _ c.attach.ensures.noted
