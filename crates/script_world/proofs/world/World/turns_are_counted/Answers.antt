use Rattle.std.proofs.Common.{subst}
use Rattle.script_world.specs.Running.{AreTurnsCounted, Running}
use Rattle.script_world.proofs.world.World.turns_are_counted.Goals as goal

pub returns : goal.returns
returns g c = subst AreTurnsCounted c.self.view_is c.turns.ensures.counted
