use Rattle.std.proofs.Common.{map}
use Rattle.std.specs.Prelude.{vec_items}
use Rattle.client_acts.proofs.Adding.{ended_clients, ended_lines}
use Rattle.client_acts.proofs.client_acts.ClientActs.into_lines.Goals as goal

pub returns-clause-lines : goal.returns-clause-lines
returns-clause-lines g c =
    ended_lines c.into_lines.result (λ lists. map vec_items lists.items) c.self.inside.first c.self.inside.clients c.self.inside.turns.items c.args.self
    c.self.view_is c.into_lines.ensures.lines

pub returns-clause-client : goal.returns-clause-client
returns-clause-client g c =
    ended_clients c.into_lines.result (λ lists. map vec_items lists.items) g.C.Checker.accepts c.self.inside.first g.K.RunName.accepts c.self.inside.clients c.self.inside.turns.items c.args.self
    c.self.view_is c.self.invariant.0 c.into_lines.ensures.lines c.into_lines.ensures.kept
