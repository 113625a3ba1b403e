use Rattle.client_pass.proofs.Verdicts.{took}
use Rattle.client_pass.proofs.checks.view_fault.Goals as goal

pub returns-in-Ok-clause-chain : goal.returns-in-Ok-clause-chain
returns-in-Ok-clause-chain g c = took (g.C.Checker.accepts c.args.verifier.now.checker) c.args.verifier.now.chain c.accept_view.new.self.chain c.args.next.now c.in-Ok.ensures.ok
