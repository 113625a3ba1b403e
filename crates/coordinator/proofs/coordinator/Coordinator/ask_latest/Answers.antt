use Rattle.std.proofs.Common.{refl, subst}
use Rattle.port.specs.Service.{replied}
use Rattle.op_latest.specs.LatestAsked.{LatestAsk}
use Rattle.coordinator.specs.Says.{SaysOfLatest}
use Rattle.coordinator.specs.State.{State, chain_in}
use Rattle.coordinator.proofs.Reading.{reply_served}
use Rattle.coordinator.proofs.coordinator.Coordinator.ask_latest.Goals as goal

pub returns-clause-says : goal.returns-clause-says
returns-clause-says g c =
    let inside = c.self.inside in
    let ended = c.read_latest-ended in
    let ask : LatestAsk = record { handle = c.args.handle.now; nonce = c.args.nonce.now } in
    let old : State g.row.S.Denot g.row.L.Denot g.row.C.Denot = record { chain = chain_in inside.chain; store = inside.store; link = inside.link; checker = inside.checker; refused = inside.refused } in
    let new : State g.row.S.Denot g.row.L.Denot g.row.C.Denot = record { chain = ended.result.chain; store = ended.new.store; link = ended.new.link; checker = inside.checker; refused = inside.refused } in
    subst (λ (state : State g.row.S.Denot g.row.L.Denot g.row.C.Denot). SaysOfLatest g.C.Checker.accepts g.S.Store.view g.L.Link.view state new ask (replied ended.result.answer)) c.self.view_is
    (reply_served g.C.Checker.accepts g.S.Store.view g.L.Link.view ask old new c.taken-chain.result ended.result.answer c.taken-chain.ensures refl ended.ensures)
