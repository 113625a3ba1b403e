use Rattle.script_world.proofs.Carrying.{came_as, here_as}
use Rattle.script_world.proofs.Goes.{came_already, came_now}
use Rattle.script_world.proofs.Kept.{kept_more}
use Rattle.script_world.proofs.world.World.add_client.Goals as goal

pub returns-in-Some : goal.returns-in-Some
returns-in-Some g c =
    here_as c.args.self.now c.self.inside.coordinator c.self.inside.acts c.self.inside.operations c.self.inside.labels c.self.inside.draws c.self.view_is g.G.Checker.Checker.accepts g.K.RunName.accepts c.args.name.now c.in-Some.place c.in-Some.ensures.some
    (came_already g.G.Checker.Checker.accepts g.K.RunName.accepts c.args.self.now c.self.inside.coordinator c.self.inside.acts c.self.inside.operations c.self.inside.labels c.self.inside.draws c.in-Some.place
    c.self.view_is c.in-Some.ensures.some_client)

pub returns-in_ok-place-in-None : goal.returns-in_ok-place-in-None
returns-in_ok-place-in-None g c =
    let inside = c.self.inside in
    let came = c.in_ok-place-in-None in
    came_as c.args.self.now c.self.inside.coordinator c.self.inside.acts c.self.inside.operations c.self.inside.labels c.self.inside.draws c.self.view_is g.G.Checker.Checker.accepts g.K.RunName.accepts c.add.new.self c.args.name.now came.place
    came.ensures.place c.self.invariant.named came.ensures.names c.add.ensures.turns (c.place.ensures.none c.in-None.is)
    (came_now g.G.Checker.Checker.accepts g.K.RunName.accepts c.args.self.now inside.coordinator inside.acts c.add.new.self inside.operations inside.labels inside.draws came.place c.args.checker
    c.self.view_is c.requires came.ensures.place c.add.ensures.first came.ensures.client)

pub invariant_of-self-in-None : goal.invariant_of-self-in-None
invariant_of-self-in-None g c =
    let came = c.in_ok-place-in-None.ensures in
    kept_more c.operations_keep_draws.ensures.client c.self.inside.acts c.add.new.self c.self.inside.operations c.args.name.now came.client.0 came.names came.client.3 c.self.invariant
