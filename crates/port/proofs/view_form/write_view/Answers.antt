use Rattle.std.proofs.Common.{◌≡◌, ◌<◌, ◌^◌, length, arith}
use Rattle.statement.specs.ViewBlock.{IsViewBlock}
use Rattle.port.proofs.view_form.write_view.Goals as goal

pub returns-clause-view : goal.returns-clause-view
returns-clause-view c =
    let prev : length c.args.block.now.prev ≡ 32 = grind arith in
    let digest : length c.args.block.now.config ≡ 32 = grind arith in
    let number : c.args.block.now.number < 2 ^ 64 = grind arith in
    let block : IsViewBlock c.args.block.now = record { prev = prev; config = digest; number = number } in
    record { block = block; config = c.members.ensures.config }
