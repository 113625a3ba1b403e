use Rattle.std.proofs.Common.{subst}
use Rattle.client_acts.specs.ClientActs.{ClientActs, Each, IsOf}
use Rattle.client_acts.proofs.client_acts.ClientActs.count.Goals as goal

pub returns-clause-each : goal.returns-clause-each
returns-clause-each g c =
    subst (λ (own : ClientActs g.row.C.Denot). Each (IsOf g.C.Checker.accepts own.first g.K.RunName.accepts) own.clients) c.self.view_is c.self.invariant.0
