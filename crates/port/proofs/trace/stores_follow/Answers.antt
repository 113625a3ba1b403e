use Rattle.port.proofs.Traces.{follow_run}
use Rattle.port.proofs.trace.stores_follow.Goals as goal

pub returns : goal.returns
returns g c = follow_run g.S.Store.view g.L.Link.view
