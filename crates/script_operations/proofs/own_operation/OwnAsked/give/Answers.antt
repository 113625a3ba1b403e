use Rattle.std.proofs.Common.{inl, refl}
use Rattle.nim_base.specs.declared.text.Text.{Text}
use Rattle.chain_block.specs.Entry.{bare}
use Rattle.port.specs.Service.{stood}
use Rattle.endorser_cell.specs.CellBank.{bank_view}
use Rattle.roster_bank.specs.Counting.{served_count}
use Rattle.script_operations.specs.Task.{Own}
use Rattle.script_operations.proofs.Answering.{done_given, no_turn, opened, own_given, turned_at}
use Rattle.script_operations.proofs.Staying.{within}
use Rattle.script_operations.proofs.own_operation.OwnAsked.give.Goals as goal

pub is_answered-requires : goal.is_answered-requires
is_answered-requires g c = record { place = within c.args.acts.now.clients c.args.self.now.client c.requires.0.0 c.requires.0.1 }

pub returns-then-is_answered-clause-stays : goal.returns-then-is_answered-clause-stays
returns-then-is_answered-clause-stays g c = c.clients_stay_on.ensures.same c.args.acts.now

pub returns-then-is_answered-clause-given : goal.returns-then-is_answered-clause-given
returns-then-is_answered-clause-given g c =
    done_given (λ (text : Text). text.bytes) g.K.RunName.accepts c.args.name.now c.args.self.now.label.bytes c.args.acts.now c.args.acts.now c.args.coordinator.now c.args.coordinator.now c.done_line.result
    (Own c.args.self.now.client c.args.self.now.draw (bare c.args.self.now.entry)) (c.requires.0.0, c.requires.0.1, (c.is_answered.ensures c.requires.0.0 c.requires.0.1).0 c.if-is_answered.true) c.done_line.ensures refl refl (stood c.args.answer)

pub returns-clause-given : goal.returns-clause-given
returns-clause-given g c =
    own_given (λ (text : Text). text.bytes) g.K.RunName.accepts c.args.name.now c.args.self.now.label.bytes c.args.acts.now c.give_own.new.acts c.args.coordinator.now c.give_own.new.coordinator c.give_own.result
    c.bytes.result.now c.bytes.ensures c.args.self.now.client c.args.self.now.draw (opened c.args.acts.now.clients c.args.self.now.client c.args.self.now.draw c.is_answered.result c.is_answered.ensures c.if-is_answered.false)
    (bare c.args.self.now.entry) (stood c.args.answer) c.give_own.ensures.took

pub returns-then-is_answered-clause-learned : goal.returns-then-is_answered-clause-learned
returns-then-is_answered-clause-learned g c = inl refl

pub returns-then-is_answered-clause-turns : goal.returns-then-is_answered-clause-turns
returns-then-is_answered-clause-turns g c = no_turn c.args.self.now.client (served_count (bank_view g.G.Signer.Signer.key_of g.G.Signer.Signer.left_of g.G.Checker.Checker.accepts c.args.coordinator.now.link)) c.args.acts.now.turns

pub returns-clause-turns : goal.returns-clause-turns
returns-clause-turns g c =
    turned_at c.args.self.now.client c.served_so_far-calls.result (served_count (bank_view g.G.Signer.Signer.key_of g.G.Signer.Signer.left_of g.G.Checker.Checker.accepts c.args.coordinator.now.link)) c.args.acts.now.turns c.give_own.new.acts.turns c.served_so_far-calls.ensures c.give_own.ensures.turns
