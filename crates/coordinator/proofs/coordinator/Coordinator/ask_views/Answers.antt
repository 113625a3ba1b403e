use Rattle.std.proofs.Common.{refl, subst}
use Rattle.port.specs.Service.{knew}
use Rattle.coordinator.specs.Says.{SaysOfViews}
use Rattle.coordinator.specs.State.{State, chain_in}
use Rattle.coordinator.proofs.Viewing.{views_served}
use Rattle.coordinator.proofs.coordinator.Coordinator.ask_views.Goals as goal

pub returns-clause-says : goal.returns-clause-says
returns-clause-says g c =
    let inside = c.self.inside in
    let ended = c.views_from-ended in
    let old : State g.row.S.Denot g.row.L.Denot g.row.C.Denot = record { chain = chain_in inside.chain; store = inside.store; link = inside.link; checker = inside.checker; refused = inside.refused } in
    let new : State g.row.S.Denot g.row.L.Denot g.row.C.Denot = record { chain = ended.result.chain; store = ended.new.store; link = inside.link; checker = inside.checker; refused = inside.refused } in
    subst (λ (state : State g.row.S.Denot g.row.L.Denot g.row.C.Denot). SaysOfViews g.C.Checker.accepts g.S.Store.view g.L.Link.view state new c.args.from (knew ended.result.answer)) c.self.view_is
    (views_served g.C.Checker.accepts g.S.Store.view g.L.Link.view c.args.from old new c.taken-chain.result ended.result.answer c.taken-chain.ensures refl refl ended.ensures)
