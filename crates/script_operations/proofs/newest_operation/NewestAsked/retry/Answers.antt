use Rattle.std.proofs.Common.{refl}
use Rattle.nim_base.specs.declared.text.Text.{Text}
use Rattle.endorser_cell.specs.CellBank.{bank_view}
use Rattle.port.specs.Service.{replied}
use Rattle.roster_bank.specs.Counting.{served_count}
use Rattle.script_operations.specs.Task.{Newest}
use Rattle.script_operations.proofs.Answering.{done_asked, latest_asked, opened, turned_at}
use Rattle.script_operations.proofs.Staying.{within}
use Rattle.script_operations.proofs.newest_operation.NewestAsked.retry.Goals as goal

pub is_answered-requires : goal.is_answered-requires
is_answered-requires g c = record { place = within c.args.acts.now.clients c.args.self.now.client c.requires.0 c.requires.1 }

pub returns-then-is_answered-clause-stays : goal.returns-then-is_answered-clause-stays
returns-then-is_answered-clause-stays g c = c.clients_stay_on.ensures.same c.args.acts.now

pub returns-then-is_answered-clause-asks : goal.returns-then-is_answered-clause-asks
returns-then-is_answered-clause-asks g c =
    done_asked (λ (text : Text). text.bytes) g.K.RunName.accepts c.args.name.now c.args.self.now.label.bytes c.args.acts.now c.args.acts.now c.args.coordinator.now c.args.coordinator.now c.done_line.result
    (Newest c.args.self.now.client c.args.self.now.draw c.args.self.now.handle c.args.self.now.nonce) (c.requires.0, c.requires.1, (c.is_answered.ensures c.requires.0 c.requires.1).0 c.if-is_answered.true) c.done_line.ensures refl refl g.G.Checker.Checker.accepts g.S.Store.view (bank_view g.G.Signer.Signer.key_of g.G.Signer.Signer.left_of g.G.Checker.Checker.accepts)

pub returns-clause-asks : goal.returns-clause-asks
returns-clause-asks g c =
    latest_asked (λ (text : Text). text.bytes) g.K.RunName.accepts c.args.name.now c.args.self.now.label.bytes c.args.acts.now c.give_latest.new.acts c.latest-answer.new.self c.give_latest.new.coordinator c.give_latest.result
    g.G.Checker.Checker.accepts g.S.Store.view (bank_view g.G.Signer.Signer.key_of g.G.Signer.Signer.left_of g.G.Checker.Checker.accepts) c.args.coordinator.now c.give_latest.ensures.learned c.args.self.now.client c.args.self.now.draw c.args.self.now.handle c.args.self.now.nonce (replied c.latest-answer.result) (turned_at c.args.self.now.client c.served_so_far-calls.result (served_count (bank_view g.G.Signer.Signer.key_of g.G.Signer.Signer.left_of g.G.Checker.Checker.accepts c.latest-answer.new.self.link)) c.args.acts.now.turns c.give_latest.new.acts.turns c.served_so_far-calls.ensures c.give_latest.ensures.turns) (opened c.args.acts.now.clients c.args.self.now.client c.args.self.now.draw c.is_answered.result c.is_answered.ensures c.if-is_answered.false) c.latest-answer.ensures.says c.bytes.result.now c.bytes.ensures c.give_latest.ensures.took
