use Rattle.std.proofs.Common.{take}
use Rattle.std.specs.List.{AllByRecursion}
use Rattle.script_world.specs.Served.{HasLawfulList}
use Rattle.script_world.proofs.world.World.lists_are_lawful.Given as goal

abbrev pub invariant-loop-id : goal.invariant-loop-id
invariant-loop-id g l = AllByRecursion (HasLawfulList g.G.Signer.Signer.key_of g.G.Checker.Checker.accepts l.self.state.link) (take l.id-index l.ids)
