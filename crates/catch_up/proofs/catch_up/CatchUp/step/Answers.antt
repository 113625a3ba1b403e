use Rattle.std.proofs.Common.{refl, sym, ap, ◌∙◌}
use Rattle.port.specs.declared.key.Key.TheVariants as keys
use Rattle.port.specs.Store.{Get, WasGot}
use Rattle.port.specs.Trace.{AtStore, AtLink}
use Rattle.catch_up.specs.State.{State}
use Rattle.catch_up.specs.OwnCalls.{append_of}
use Rattle.catch_up.proofs.Steps.{leads_by_get, leads_by_append}
use Rattle.catch_up.proofs.catch_up.CatchUp.step.Goals as goal

pub returns-in-Get-clause-call : goal.returns-in-Get-clause-call
returns-in-Get-clause-call g c = λ live. (
  AtStore (Get (keys.Row c.args.self.now.target.handle c.in-Get.height)) (WasGot c.get.ensures.call.0),
  (c.args.store.now, c.args.link.now, (refl, refl), (c.get.ensures.call.1, refl)),
  leads_by_get c.args.self.now c.get.new.self c.in-Get.height c.get.ensures.call.0 c.get.result (sym (ap (λ (s : State). s.stage) c.self.view_is) ∙ c.in-Get.is) c.get.ensures.same c.get.ensures.call.2,
)

pub returns-in-Append-clause-call : goal.returns-in-Append-clause-call
returns-in-Append-clause-call g c = λ live. (
  AtLink c.args.self.now.target.member (append_of c.args.self.now.target.handle c.in-Append.block) c.append.ensures.call.0,
  (c.args.store.now, c.args.link.now, (refl, refl), (c.append.ensures.call.1, refl)),
  leads_by_append c.args.self.now c.append.new.self c.in-Append.block c.append.ensures.call.0 c.append.result (sym (ap (λ (s : State). s.stage) c.self.view_is) ∙ c.in-Append.is) c.append.ensures.same c.append.ensures.call.2,
)
