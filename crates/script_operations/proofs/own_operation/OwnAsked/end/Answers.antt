use Rattle.nim_base.specs.declared.text.Text.{Text}
use Rattle.chain_block.specs.Entry.{bare}
use Rattle.endorser_cell.specs.CellBank.{bank_view}
use Rattle.port.specs.Service.{stood}
use Rattle.script_operations.specs.Operations.{InEntry, state_of}
use Rattle.script_operations.specs.Task.{Own}
use Rattle.script_operations.proofs.Answering.{ends_given, entry_led}
use Rattle.script_operations.proofs.own_operation.OwnAsked.end.Goals as goal

pub returns-clause-gives : goal.returns-clause-gives
returns-clause-gives g c =
    ends_given (λ (text : Text). text.bytes) g.K.RunName.accepts c.args.name.now c.args.self.now.label.bytes c.args.acts.now c.give.new.acts c.answer-answer.new.coordinator c.give.new.coordinator c.give.result
    g.G.Checker.Checker.accepts g.S.Store.view (bank_view g.G.Signer.Signer.key_of g.G.Signer.Signer.left_of g.G.Checker.Checker.accepts) c.args.coordinator.now c.give.ensures.learned (Own c.args.self.now.client c.args.self.now.draw (bare c.args.self.now.entry)) (InEntry (state_of c.args.run)) (stood c.answer-answer.result) c.give.ensures.turns
    (entry_led g.S.Store.view (bank_view g.G.Signer.Signer.key_of g.G.Signer.Signer.left_of g.G.Checker.Checker.accepts) (g.G.Checker.Checker.accepts c.args.coordinator.now.checker) c.args.coordinator.now c.answer-answer.new.coordinator (state_of c.args.run) c.answer-answer.result c.answer-answer.ensures) c.give.ensures.given
