use Rattle.script_world.proofs.Lent.{acts_are, state_is}
use Rattle.script_world.proofs.world.World.into_parts.Goals as goal

pub returns-clause-acts : goal.returns-clause-acts
returns-clause-acts g c = acts_are c.args.self c.self.inside.coordinator c.self.inside.acts c.self.inside.operations c.self.inside.labels c.self.inside.draws c.self.view_is

pub returns-clause-state : goal.returns-clause-state
returns-clause-state g c = state_is c.args.self c.self.inside.coordinator c.self.inside.acts c.self.inside.operations c.self.inside.labels c.self.inside.draws c.self.view_is
