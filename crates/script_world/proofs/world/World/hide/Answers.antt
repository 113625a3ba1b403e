use Rattle.std.proofs.Common.{OnOk, subst}
use Rattle.blob_store.specs.declared.lie.Lie.TheVariants as lies
use Rattle.port.specs.declared.key.Key.{Key}
use Rattle.script_world.specs.Faults.{LiesSo}
use Rattle.script_world.proofs.world.World.hide.Goals as goal

pub returns-clause-lies : goal.returns-clause-lies
returns-clause-lies g c =
    subst (λ (key : Key). OnOk c.tell.result (LiesSo c.args.self.now.state.store c.tell.new.self.state.store (lies.Hide key))) c.row_key-key.ensures c.tell.ensures.lies
