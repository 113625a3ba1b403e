use Rattle.std.proofs.Common.{None}
use Rattle.port.specs.Service.{Latest, replied}
use Rattle.client_pass.specs.Act.{Draw}
use Rattle.endorser_cell.specs.CellBank.{bank_view}
use Rattle.answer_lines.specs.Taken.{TookLatest}
use Rattle.script_world.proofs.AskedFor.{asked_after_draw}
use Rattle.script_world.proofs.asking.ask_for_newest.Goals as goal

pub returns-clause-asked : goal.returns-clause-asked
returns-clause-asked g c =
    let handle = c.args.handle.now in
    let nonce = c.args.nonce.now in
    asked_after_draw g.G.Checker.Checker.accepts (bank_view g.G.Signer.Signer.key_of g.G.Signer.Signer.left_of g.G.Checker.Checker.accepts) g.K.RunName.accepts
    c.args.acts.now c.draw_read.new.acts c.give_latest.new.acts c.args.coordinator.now c.latest-answer.new.self c.give_latest.new.coordinator c.args.client
    (Draw nonce None) (Latest handle nonce) (replied c.latest-answer.result)
    (λ checks sides answer. TookLatest checks sides c.args.label.now handle nonce answer c.in_ok-line.line.bytes)
    c.see_checkers.ensures c.in_ok-draw.ensures.drew c.latest-answer.ensures.says c.in_ok-line.ensures.took c.in_ok-line.ensures.learned
    c.served_so_far.result c.served_so_far-before.result c.served_so_far.ensures c.served_so_far-before.ensures c.in_ok-draw.ensures.turn c.in_ok-line.ensures.turns

pub returns-clause-stays : goal.returns-clause-stays
returns-clause-stays g c =
    c.clients_stay_on.ensures.again c.args.acts.now c.draw_read.new.acts c.give_latest.new.acts c.in_ok-draw.ensures.stays c.in_ok-line.ensures.stays

pub returns-in_err-line-clause-stays : goal.returns-in_err-line-clause-stays
returns-in_err-line-clause-stays g c =
    c.clients_stay_on.ensures.again c.args.acts.now c.draw_read.new.acts c.give_latest.new.acts c.in_ok-draw.ensures.stays c.in_err-line.ensures.stays
