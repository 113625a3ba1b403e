use Rattle.std.proofs.Common.{ap, sym, ◌∙◌}
use Rattle.std.specs.Result.{result_err}
use Rattle.client_pass.proofs.Passes.{latest_judged}
use Rattle.client_pass.proofs.client_pass.ClientPass.take_latest.Goals as goal

pub returns-in-Ok-clause-outcome : goal.returns-in-Ok-clause-outcome
returns-in-Ok-clause-outcome g c = λ nonce own.
    let judged = latest_judged g.C.Checker.accepts _ c.args.self.now c.as_slice.result.now c.args.draw c.latest_count-checked.result c.args.handle.now c.args.reply.now c.self.view_is c.as_slice.ensures c.latest_count-checked.ensures nonce own in
    ap result_err (sym c.in-Ok.is ∙ judged)

pub returns-in-Ok-clause-count : goal.returns-in-Ok-clause-count
returns-in-Ok-clause-count g c = λ nonce own.
    let judged = latest_judged g.C.Checker.accepts _ c.args.self.now c.as_slice.result.now c.args.draw c.latest_count-checked.result c.args.handle.now c.args.reply.now c.self.view_is c.as_slice.ensures c.latest_count-checked.ensures nonce own in
    sym judged ∙ c.in-Ok.is

pub returns-in-Err-clause-outcome : goal.returns-in-Err-clause-outcome
returns-in-Err-clause-outcome g c = λ nonce own.
    let judged = latest_judged g.C.Checker.accepts _ c.args.self.now c.as_slice.result.now c.args.draw c.latest_count-checked.result c.args.handle.now c.args.reply.now c.self.view_is c.as_slice.ensures c.latest_count-checked.ensures nonce own in
    ap result_err (sym c.in-Err.is ∙ judged)
