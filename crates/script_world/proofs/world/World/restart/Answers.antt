use Rattle.std.proofs.Common.{◌∙◌}
use Rattle.script_world.proofs.Carrying.{all_closed}
use Rattle.script_world.proofs.Goes.{restarted}
use Rattle.script_world.proofs.Kept.{kept_closed}
use Rattle.script_world.proofs.Lent.{names_are, turns_are}
use Rattle.script_world.proofs.world.World.restart.Goals as goal

pub invariant_of-self : goal.invariant_of-self
invariant_of-self g c = kept_closed c.self.inside.acts c.self.inside.operations c.restart-2.new.self c.restart-2.ensures c.self.invariant

pub returns-clause-restarted : goal.returns-clause-restarted
returns-clause-restarted g c =
    let inside = c.self.inside in
    restarted c.args.self.now inside.coordinator c.restart.new.self inside.acts inside.operations c.restart-2.new.self inside.labels inside.draws c.in_ok-first.first
    c.self.view_is (c.in_ok-first.ensures ∙ c.first.ensures) c.restart.ensures

pub returns-clause-closed : goal.returns-clause-closed
returns-clause-closed g c = all_closed c.args.self.now c.self.inside.coordinator c.self.inside.acts c.self.inside.operations c.self.inside.labels c.self.inside.draws c.self.view_is c.restart-2.new.self c.restart-2.ensures

pub returns-clause-names : goal.returns-clause-names
returns-clause-names g c = names_are c.args.self.now c.self.inside.coordinator c.self.inside.acts c.self.inside.operations c.self.inside.labels c.self.inside.draws c.self.view_is

pub returns-clause-turns : goal.returns-clause-turns
returns-clause-turns g c = turns_are c.args.self.now c.self.inside.coordinator c.self.inside.acts c.self.inside.operations c.self.inside.labels c.self.inside.draws c.self.view_is
