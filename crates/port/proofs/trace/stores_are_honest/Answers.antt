use Rattle.port.proofs.Traces.{honest_run}
use Rattle.port.proofs.trace.stores_are_honest.Goals as goal

pub returns : goal.returns
returns g c = honest_run g.S.Store.view g.L.Link.view
