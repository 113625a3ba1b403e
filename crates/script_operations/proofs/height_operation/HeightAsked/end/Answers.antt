use Rattle.nim_base.specs.declared.text.Text.{Text}
use Rattle.endorser_cell.specs.CellBank.{bank_view}
use Rattle.port.specs.Service.{stood}
use Rattle.roster_bank.specs.Counting.{served_count}
use Rattle.script_operations.specs.Operations.{InEntry}
use Rattle.script_operations.proofs.Answering.{entry_led, height_ends, turned_at}
use Rattle.script_operations.proofs.height_operation.HeightAsked.end.Goals as goal

pub returns-clause-gives : goal.returns-clause-gives
returns-clause-gives g c = λ name.
    height_ends (λ (text : Text). text.bytes) g.K.RunName.accepts name c.args.self.now.label.bytes c.args.acts.now c.give_at.new.acts c.answer_of-answer.new.coordinator c.give_at.new.coordinator c.give_at.result
    g.G.Checker.Checker.accepts g.S.Store.view (bank_view g.G.Signer.Signer.key_of g.G.Signer.Signer.left_of g.G.Checker.Checker.accepts) c.args.coordinator.now c.give_at.ensures.learned c.args.self.now.client c.args.self.now.handle c.args.self.now.height (InEntry c.args.op) (stood c.answer_of-answer.result) (turned_at c.args.self.now.client c.served_so_far-calls.result (served_count (bank_view g.G.Signer.Signer.key_of g.G.Signer.Signer.left_of g.G.Checker.Checker.accepts c.answer_of-answer.new.coordinator.link)) c.args.acts.now.turns c.give_at.new.acts.turns c.served_so_far-calls.ensures c.give_at.ensures.turns)
    (entry_led g.S.Store.view (bank_view g.G.Signer.Signer.key_of g.G.Signer.Signer.left_of g.G.Checker.Checker.accepts) (g.G.Checker.Checker.accepts c.args.coordinator.now.checker) c.args.coordinator.now c.answer_of-answer.new.coordinator c.args.op c.answer_of-answer.result c.answer_of-answer.ensures) c.bytes.result.now c.bytes.ensures c.give_at.ensures.took
