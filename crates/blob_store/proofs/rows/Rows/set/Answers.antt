use Rattle.blob_store.proofs.KeyMap.{set_key}
use Rattle.blob_store.proofs.rows.Rows.set.Goals as goal

pub returns-clause-ok : goal.returns-clause-ok
returns-clause-ok c = set_key _ c.keys_tie.ensures c.args.self.now.map.entries c.insert.new.self.entries c.args.key.now c.args.stored c.in_ok-insert.ensures.updates.0
