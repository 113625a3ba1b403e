use Rattle.std.proofs.Common.{sym, ap, subst}
use Rattle.port.specs.declared.store_answers.Got.{Got}
use Rattle.port.specs.Stored.{Stored}
use Rattle.coordinator.specs.ViewsGot.{ComesTo, finals_event}
use Rattle.coordinator.specs.ViewsRun.{row_answer}
use Rattle.coordinator.proofs.views_got.row_of.Goals as goal

pub returns-in-Some : goal.returns-in-Some
returns-in-Some g c =
    subst (λ (got : Got). ComesTo (g.C.Checker.accepts c.args.checker.now) c.args.chain.now c.args.number (finals_event c.args.number got) (row_answer c.row_by.result)) (sym c.in-Some.is)
    (c.row_by.ensures c.in-Some.stored (sym (ap (λ (stored : Stored). stored.body) c.stored.view_is)))
