use Rattle.blob_store.proofs.KeyMap.{pointed}
use Rattle.blob_store.proofs.lies.Lies.point.Goals as goal

pub returns-clause-source : goal.returns-clause-source
returns-clause-source c = pointed _ c.keys_tie.ensures c.args.self.now.sources.entries c.insert.new.self.entries c.args.key.now c.args.source c.in_ok-insert.ensures.updates.0
