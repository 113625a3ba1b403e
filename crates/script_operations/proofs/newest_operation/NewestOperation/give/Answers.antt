use Rattle.std.proofs.Common.{sym, subst}
use Rattle.endorser_cell.specs.CellBank.{bank_view}
use Rattle.roster_bank.specs.Counting.{served_count}
use Rattle.script_operations.proofs.Answering.{no_turn}
use Rattle.script_operations.specs.declared.newest_operation.NewestAsked.{NewestAsked}
use Rattle.script_operations.specs.Task.{HasDraw, Newest}
use Rattle.script_operations.proofs.newest_operation.NewestOperation.give.Goals as goal

pub returns-then-is_none-clause-stays : goal.returns-then-is_none-clause-stays
returns-then-is_none-clause-stays g c = c.clients_stay_on.ensures.same c.args.acts.now

pub give-requires : goal.give-requires
give-requires g c =
    subst (λ (asked : NewestAsked). HasDraw c.args.acts.now.clients (Newest asked.client asked.draw asked.handle asked.nonce)) (sym c.close.ensures.asked) c.requires

pub returns-then-is_none-clause-turns : goal.returns-then-is_none-clause-turns
returns-then-is_none-clause-turns g c = no_turn c.args.self.now.asked.client (served_count (bank_view g.G.Signer.Signer.key_of g.G.Signer.Signer.left_of g.G.Checker.Checker.accepts c.args.coordinator.now.link)) c.args.acts.now.turns
