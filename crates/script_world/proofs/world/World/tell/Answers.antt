use Rattle.std.proofs.Common.{refl, subst}
use Rattle.script_world.proofs.Goes.{goes_same}
use Rattle.blob_store.specs.declared.lying_store.LyingStore.{LyingStore}
use Rattle.script_world.specs.Faults.{LiesSo}
use Rattle.script_world.proofs.Lent.{only_store, was_store}
use Rattle.script_world.proofs.world.World.tell.Goals as goal

pub returns-clause-rest : goal.returns-clause-rest
returns-clause-rest g c = only_store c.args.self.now c.self.inside.coordinator c.self.inside.acts c.self.inside.operations c.self.inside.labels c.self.inside.draws c.self.view_is c.lie.new.self

pub returns-clause-goes : goal.returns-clause-goes
returns-clause-goes g c =
    let inside = c.self.inside in
    goes_same c.args.self.now inside.coordinator (record inside.coordinator { store = c.lie.new.self }) inside.acts inside.operations inside.operations inside.labels inside.labels inside.draws inside.draws c.self.view_is refl

pub returns-in_err-lie-clause-rest : goal.returns-in_err-lie-clause-rest
returns-in_err-lie-clause-rest g c = only_store c.args.self.now c.self.inside.coordinator c.self.inside.acts c.self.inside.operations c.self.inside.labels c.self.inside.draws c.self.view_is c.lie.new.self

pub returns-in_err-lie-clause-goes : goal.returns-in_err-lie-clause-goes
returns-in_err-lie-clause-goes g c =
    let inside = c.self.inside in
    goes_same c.args.self.now inside.coordinator (record inside.coordinator { store = c.lie.new.self }) inside.acts inside.operations inside.operations inside.labels inside.labels inside.draws inside.draws c.self.view_is refl

pub returns-clause-lies : goal.returns-clause-lies
returns-clause-lies g c =
    subst (λ (store : LyingStore). LiesSo store c.lie.new.self c.args.lie) (was_store c.args.self.now c.self.inside.coordinator c.self.inside.acts c.self.inside.operations c.self.inside.labels c.self.inside.draws c.self.view_is c.store_mut.result.now c.store_mut.ensures.value) (record {
      source = c.in_ok-lie.ensures.source;
      forks = c.in_ok-lie.ensures.forks;
      held = c.lie.ensures.held;
      due = c.lie.ensures.due;
      stays = c.lie.ensures.stays;
    })
