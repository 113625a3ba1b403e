use Rattle.nim_base.specs.declared.text.Text.{Text}
use Rattle.endorser_cell.specs.CellBank.{bank_view}
use Rattle.port.specs.Service.{replied}
use Rattle.script_operations.specs.Operations.{InNewest}
use Rattle.script_operations.specs.Task.{Newest}
use Rattle.script_operations.proofs.Answering.{ends_given, latest_led}
use Rattle.script_operations.proofs.newest_operation.NewestAsked.end.Goals as goal

pub returns-clause-gives : goal.returns-clause-gives
returns-clause-gives g c =
    ends_given (λ (text : Text). text.bytes) g.K.RunName.accepts c.args.name.now c.args.self.now.label.bytes c.args.acts.now c.give.new.acts c.answer_of-answer.new.coordinator c.give.new.coordinator c.give.result
    g.G.Checker.Checker.accepts g.S.Store.view (bank_view g.G.Signer.Signer.key_of g.G.Signer.Signer.left_of g.G.Checker.Checker.accepts) c.args.coordinator.now c.give.ensures.learned (Newest c.args.self.now.client c.args.self.now.draw c.args.self.now.handle c.args.self.now.nonce) (InNewest c.args.op) (replied c.answer_of-answer.result) c.give.ensures.turns
    (latest_led g.S.Store.view (bank_view g.G.Signer.Signer.key_of g.G.Signer.Signer.left_of g.G.Checker.Checker.accepts) (g.G.Checker.Checker.accepts c.args.coordinator.now.checker) c.args.coordinator.now c.answer_of-answer.new.coordinator c.args.op c.answer_of-answer.result c.answer_of-answer.ensures) c.give.ensures.given
