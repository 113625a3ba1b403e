use Rattle.port.proofs.Traces.{store_faults, failed_rose, link_faults, lost_rose}
use Rattle.port.proofs.trace.causes_count.Goals as goal

pub returns-clause-store : goal.returns-clause-store
returns-clause-store g c = store_faults g.S.Store.view g.L.Link.view

pub returns-clause-failed : goal.returns-clause-failed
returns-clause-failed g c = failed_rose g.S.Store.view g.L.Link.view

pub returns-clause-link : goal.returns-clause-link
returns-clause-link g c = link_faults g.S.Store.view g.L.Link.view

pub returns-clause-lost : goal.returns-clause-lost
returns-clause-lost g c = lost_rose g.S.Store.view g.L.Link.view
