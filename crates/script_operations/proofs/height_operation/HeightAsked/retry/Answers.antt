use Rattle.nim_base.specs.declared.text.Text.{Text}
use Rattle.endorser_cell.specs.CellBank.{bank_view}
use Rattle.port.specs.Service.{stood}
use Rattle.roster_bank.specs.Counting.{served_count}
use Rattle.script_operations.proofs.Answering.{height_asked, turned_at}
use Rattle.script_operations.proofs.height_operation.HeightAsked.retry.Goals as goal

pub returns-clause-asks : goal.returns-clause-asks
returns-clause-asks g c = λ name.
    height_asked (λ (text : Text). text.bytes) g.K.RunName.accepts name c.args.self.now.label.bytes c.args.acts.now c.give_at.new.acts c.at-answer.new.self c.give_at.new.coordinator c.give_at.result
    g.G.Checker.Checker.accepts g.S.Store.view (bank_view g.G.Signer.Signer.key_of g.G.Signer.Signer.left_of g.G.Checker.Checker.accepts) c.args.coordinator.now c.give_at.ensures.learned c.args.self.now.client c.args.self.now.handle c.args.self.now.height (stood c.at-answer.result) (turned_at c.args.self.now.client c.served_so_far-calls.result (served_count (bank_view g.G.Signer.Signer.key_of g.G.Signer.Signer.left_of g.G.Checker.Checker.accepts c.at-answer.new.self.link)) c.args.acts.now.turns c.give_at.new.acts.turns c.served_so_far-calls.ensures c.give_at.ensures.turns) c.at-answer.ensures.says c.bytes.result.now c.bytes.ensures c.give_at.ensures.took
