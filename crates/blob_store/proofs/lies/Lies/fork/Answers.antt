use Rattle.blob_store.proofs.KeyMap.{forked}
use Rattle.blob_store.proofs.lies.Lies.fork.Goals as goal

pub returns-clause-forks : goal.returns-clause-forks
returns-clause-forks c = forked _ c.keys_tie.ensures c.args.self.now.forks.entries c.insert.new.self.entries c.args.key.now c.in_ok-insert.ensures.updates.0
