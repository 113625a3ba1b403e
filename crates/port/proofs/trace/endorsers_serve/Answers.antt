use Rattle.port.proofs.Traces.{serve_run, due_run}
use Rattle.port.proofs.trace.endorsers_serve.Goals as goal

pub returns-clause-served : goal.returns-clause-served
returns-clause-served g c = serve_run g.S.Store.view g.L.Link.view

pub returns-clause-due : goal.returns-clause-due
returns-clause-due g c = due_run g.S.Store.view g.L.Link.view
