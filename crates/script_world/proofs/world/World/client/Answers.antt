use Rattle.script_world.proofs.Carrying.{found_client, no_client}
use Rattle.script_world.proofs.world.World.client.Goals as goal

pub returns-clause-some : goal.returns-clause-some
returns-clause-some g c = found_client c.args.self.now c.self.inside.coordinator c.self.inside.acts c.self.inside.operations c.self.inside.labels c.self.inside.draws c.self.view_is c.place.result c.args.name.now c.place.ensures.some c.place.ensures.some_client

pub returns-clause-none : goal.returns-clause-none
returns-clause-none g c = no_client c.args.self.now c.self.inside.coordinator c.self.inside.acts c.self.inside.operations c.self.inside.labels c.self.inside.draws c.self.view_is c.place.result c.args.name.now c.place.ensures.none
