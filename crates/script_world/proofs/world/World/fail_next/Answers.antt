use Rattle.std.proofs.Common.{◌≡◌, ◌+◌, ◌-◌, ◌^◌, min, refl, subst}
use Rattle.script_world.proofs.Goes.{goes_same}
use Rattle.blob_store.specs.declared.lying_store.LyingStore.{LyingStore}
use Rattle.blob_store.specs.LyingStore.{held_in, lying_view}
use Rattle.script_world.proofs.Lent.{only_store, was_store}
use Rattle.script_world.proofs.world.World.fail_next.Goals as goal

pub returns-clause-rest : goal.returns-clause-rest
returns-clause-rest g c = only_store c.args.self.now c.self.inside.coordinator c.self.inside.acts c.self.inside.operations c.self.inside.labels c.self.inside.draws c.self.view_is c.fail_next.new.self

pub returns-clause-goes : goal.returns-clause-goes
returns-clause-goes g c =
    let inside = c.self.inside in
    goes_same c.args.self.now inside.coordinator (record inside.coordinator { store = c.fail_next.new.self }) inside.acts inside.operations inside.operations inside.labels inside.labels inside.draws inside.draws c.self.view_is refl

pub returns-clause-due : goal.returns-clause-due
returns-clause-due g c =
    subst (λ (store : LyingStore). (held_in c.fail_next.new.self).due ≡ min ((held_in store).due + c.args.n) (2 ^ 64 - 1 - (lying_view store).faults))
    (was_store c.args.self.now c.self.inside.coordinator c.self.inside.acts c.self.inside.operations c.self.inside.labels c.self.inside.draws c.self.view_is c.store_mut.result.now c.store_mut.ensures.value) c.fail_next.ensures.due

pub returns-clause-contents : goal.returns-clause-contents
returns-clause-contents g c =
    subst (λ (store : LyingStore). (held_in c.fail_next.new.self).contents ≡ (held_in store).contents)
    (was_store c.args.self.now c.self.inside.coordinator c.self.inside.acts c.self.inside.operations c.self.inside.labels c.self.inside.draws c.self.view_is c.store_mut.result.now c.store_mut.ensures.value) c.fail_next.ensures.contents

pub returns-clause-source : goal.returns-clause-source
returns-clause-source g c =
    subst (λ (store : LyingStore). (held_in c.fail_next.new.self).source ≡ (held_in store).source)
    (was_store c.args.self.now c.self.inside.coordinator c.self.inside.acts c.self.inside.operations c.self.inside.labels c.self.inside.draws c.self.view_is c.store_mut.result.now c.store_mut.ensures.value) c.fail_next.ensures.source

pub returns-clause-forks : goal.returns-clause-forks
returns-clause-forks g c =
    subst (λ (store : LyingStore). (held_in c.fail_next.new.self).forks ≡ (held_in store).forks)
    (was_store c.args.self.now c.self.inside.coordinator c.self.inside.acts c.self.inside.operations c.self.inside.labels c.self.inside.draws c.self.view_is c.store_mut.result.now c.store_mut.ensures.value) c.fail_next.ensures.forks
