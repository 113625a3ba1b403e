use Rattle.std.proofs.Common.{None, sym, ◌∙◌, refl}
use Rattle.verifier.proofs.Yeses.{stands, fits, some_none}
use Rattle.verifier.proofs.client.Verifier.check_at.Goals as goal

pub returns-in-Some-clause-yes : goal.returns-in-Some-clause-yes
returns-in-Some-clause-yes g c =
    let accepts = g.C.Checker.accepts c.args.self.now.checker in
    let reply = c.args.reply.now in
    (λ e. absurd cc, λ is. some_none c.in-Some.fault (sym c.in-Some.is ∙ c.standing.ensures ∙ fits accepts c.args.self.now.chain.configs c.args.handle.now c.args.height None reply is refl))

pub returns-in-None-clause-yes : goal.returns-in-None-clause-yes
returns-in-None-clause-yes g c =
    let accepts = g.C.Checker.accepts c.args.self.now.checker in
    let reply = c.args.reply.now in
    (λ e. (stands accepts c.args.self.now.chain.configs c.args.handle.now c.args.height None reply reply.receipt.statement refl (sym c.standing.ensures ∙ c.in-None.is)).0, λ is. refl)
