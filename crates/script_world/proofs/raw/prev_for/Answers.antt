use Rattle.std.proofs.Common.{ap}
use Rattle.std.specs.Option.{option_copied}
use Rattle.script_world.proofs.Lent.{prev_found}
use Rattle.script_world.proofs.raw.prev_for.Goals as goal

pub returns-clause-prev : goal.returns-clause-prev
returns-clause-prev g c =
    prev_found c.args.coordinator.now c.link-2.result.now c.store.result.now (option_copied c.cell.result) c.in-Some.cell.now c.args.id c.args.handle.now c.args.height c.in_ok-prev.prev
    c.link-2.ensures c.store.ensures c.cell.ensures.cell (ap option_copied c.in-Some.is) c.in_ok-prev.ensures
