use Rattle.port.specs.Service.{At, stood}
use Rattle.endorser_cell.specs.CellBank.{bank_view}
use Rattle.answer_lines.specs.Taken.{TookAt}
use Rattle.script_world.proofs.AskedFor.{asked_at_once}
use Rattle.script_world.proofs.asking.ask_for_row.Goals as goal

pub returns-clause-asked : goal.returns-clause-asked
returns-clause-asked g c =
    let handle = c.args.handle.now in
    asked_at_once g.G.Checker.Checker.accepts (bank_view g.G.Signer.Signer.key_of g.G.Signer.Signer.left_of g.G.Checker.Checker.accepts) g.K.RunName.accepts
    c.args.acts.now c.give_at.new.acts c.args.coordinator.now c.at-answer.new.self c.give_at.new.coordinator c.args.client
    (At handle c.args.height) (stood c.at-answer.result)
    (λ checks sides answer. TookAt checks sides c.args.label.now handle c.args.height answer c.in_ok-line.line.bytes)
    c.see_checkers.ensures c.at-answer.ensures.says c.in_ok-line.ensures.took c.in_ok-line.ensures.learned
    c.served_so_far-before.result c.served_so_far-before.ensures c.in_ok-line.ensures.turns
