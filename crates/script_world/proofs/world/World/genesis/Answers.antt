use Rattle.std.proofs.Common.{subst}
use Rattle.blob_store.specs.declared.lying_store.LyingStore.{LyingStore}
use Rattle.blob_store.specs.LyingStore.{lying_view}
use Rattle.coordinator.specs.First.{SaysOfFirst}
use Rattle.coordinator.specs.State.{State}
use Rattle.endorser_cell.specs.CellBank.{CellBank, bank_view}
use Rattle.op_reconf.specs.State.{answer_of}
use Rattle.script_world.proofs.Lent.{only_state, state_is}
use Rattle.script_world.proofs.world.World.genesis.Goals as goal

pub returns-clause-says : goal.returns-clause-says
returns-clause-says g c =
    subst (λ (state : State LyingStore (CellBank g.row.G-Signer.Denot g.row.G-Checker.Denot) g.row.G-Checker.Denot).
    SaysOfFirst g.G.Checker.Checker.accepts lying_view (bank_view g.G.Signer.Signer.key_of g.G.Signer.Signer.left_of g.G.Checker.Checker.accepts) state c.genesis.new.self (answer_of c.genesis.result))
    (state_is c.args.self.now c.self.inside.coordinator c.self.inside.acts c.self.inside.operations c.self.inside.labels c.self.inside.draws c.self.view_is) c.genesis.ensures

pub returns-clause-rest : goal.returns-clause-rest
returns-clause-rest g c = only_state c.args.self.now c.self.inside.coordinator c.self.inside.acts c.self.inside.operations c.self.inside.labels c.self.inside.draws c.self.view_is c.genesis.new.self
