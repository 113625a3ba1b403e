use Rattle.port.proofs.Traces.{store_fact, link_fact}
use Rattle.port.proofs.trace.calls_stand.Goals as goal

pub returns-clause-store : goal.returns-clause-store
returns-clause-store g c = store_fact g.S.Store.view g.L.Link.view

pub returns-clause-link : goal.returns-clause-link
returns-clause-link g c = link_fact g.S.Store.view g.L.Link.view
