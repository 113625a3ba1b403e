use Rattle.port.proofs.Traces.{faithful_run}
use Rattle.port.proofs.trace.links_are_faithful.Goals as goal

pub returns : goal.returns
returns g c = faithful_run g.S.Store.view g.L.Link.view
