use Rattle.std.proofs.Common.{◌≡◌}
use Rattle.verifier.specs.Outcomes.{append_outcome}
use Rattle.client_pass.proofs.Passes.{by_answer, append_judged}
use Rattle.client_pass.proofs.client_pass.ClientPass.take_append.Goals as goal

pub returns-clause-outcome : goal.returns-clause-outcome
returns-clause-outcome g c = λ entry own.
    let accepts = g.C.Checker.accepts in
    let fault = c.append_fault-fault.result in
    by_answer fault c.answer_by.result (λ fault. fault ≡ append_outcome (accepts c.args.self.now.checker) c.args.self.now.chain.configs entry c.args.reply.now) c.answer_by.ensures
    (append_judged accepts _ c.args.self.now c.as_slice.result.now c.args.draw fault c.args.reply.now c.self.view_is c.as_slice.ensures c.append_fault-fault.ensures.fault entry own)
