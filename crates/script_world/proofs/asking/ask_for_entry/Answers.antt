use Rattle.std.proofs.Common.{Some}
use Rattle.chain_block.specs.Entry.{bare, nonce_of}
use Rattle.port.specs.Service.{stood}
use Rattle.client_pass.specs.Act.{Draw}
use Rattle.endorser_cell.specs.CellBank.{bank_view}
use Rattle.answer_lines.specs.Asking.{call_for}
use Rattle.answer_lines.specs.Taken.{TookOwn}
use Rattle.script_world.proofs.AskedFor.{asked_after_draw}
use Rattle.script_world.proofs.asking.ask_for_entry.Goals as goal

pub returns-clause-asked : goal.returns-clause-asked
returns-clause-asked g c =
    let entry = c.args.entry.now in
    asked_after_draw g.G.Checker.Checker.accepts (bank_view g.G.Signer.Signer.key_of g.G.Signer.Signer.left_of g.G.Checker.Checker.accepts) g.K.RunName.accepts
    c.args.acts.now c.draw_entry.new.acts c.give_own.new.acts c.args.coordinator.now c.ask_own-answer.new.coordinator c.give_own.new.coordinator c.args.client
    (Draw (nonce_of entry) (Some (bare entry))) (call_for entry) (stood c.ask_own-answer.result)
    (λ checks sides answer. TookOwn checks sides c.args.label.now (bare entry) answer c.in_ok-line.line.bytes)
    c.see_checkers.ensures c.in_ok-draw.ensures.drew c.ask_own-answer.ensures c.in_ok-line.ensures.took c.in_ok-line.ensures.learned
    c.served_so_far.result c.served_so_far-before.result c.served_so_far.ensures c.served_so_far-before.ensures c.in_ok-draw.ensures.turn c.in_ok-line.ensures.turns

pub returns-clause-stays : goal.returns-clause-stays
returns-clause-stays g c =
    c.clients_stay_on.ensures.again c.args.acts.now c.draw_entry.new.acts c.give_own.new.acts c.in_ok-draw.ensures.stays c.in_ok-line.ensures.stays

pub returns-in_err-line-clause-stays : goal.returns-in_err-line-clause-stays
returns-in_err-line-clause-stays g c =
    c.clients_stay_on.ensures.again c.args.acts.now c.draw_entry.new.acts c.give_own.new.acts c.in_ok-draw.ensures.stays c.in_err-line.ensures.stays
