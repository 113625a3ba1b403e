use Rattle.std.proofs.Common.{OnOk, subst}
use Rattle.blob_store.specs.declared.lie.Lie.TheVariants as lies
use Rattle.port.specs.declared.key.Key.{Key}
use Rattle.port.specs.declared.key.Key.TheVariants.{Row}
use Rattle.script_world.specs.Faults.{LiesSo}
use Rattle.script_world.specs.Labels.{handle_for}
use Rattle.script_world.specs.Running.{world_of}
use Rattle.script_world.proofs.world.World.stale.Goals as goal

pub returns-clause-lies : goal.returns-clause-lies
returns-clause-lies g c =
    let store = c.args.self.now.state.store in
    let after = c.tell.new.self.state.store in
    let there : Key = Row (handle_for (world_of c.args.self.now).labels c.args.label.now) c.args.from in
    subst (λ (key : Key). OnOk c.tell.result (LiesSo store after (lies.Stale key there))) c.row_key-key.ensures
    (subst (λ (from : Key). OnOk c.tell.result (LiesSo store after (lies.Stale c.row_key-key.result from))) c.row_key-from.ensures c.tell.ensures.lies)
