use Rattle.std.proofs.Common.{◌≡◌, ◌∷◌, sym, ap, subst, ◌∙◌}
use Rattle.view_ledger.specs.Views.{ViewChain}
use Rattle.op_entry.specs.State.{State, Stage, is_live_at, stage_of}
use Rattle.op_entry.specs.Sound.{IsAt}
use Rattle.op_entry.proofs.operation.Operation.step.Goals as goal

pub returns-clause-call : goal.returns-clause-call
returns-clause-call g c live =
    let accepts = g.C.Checker.accepts c.args.checker.now in
    let is : stage_of c.replace-stage.result ≡ c.args.self.now.stage = ap stage_of c.replace-stage.ensures.value ∙ ap (λ (s : State). s.stage) c.self.view_is in
    let chain_is : c.self.inside.chain ≡ c.args.self.now.chain = ap (λ (s : State). s.chain) c.self.view_is in
    let call = c.next_stage-turn.ensures.call (ap is_live_at is ∙ live) in (
      call.0,
      call.1,
      λ ask from past at.
          let before : IsAt accepts ask from c.self.inside.chain (stage_of c.replace-stage.result) past =
          subst (λ (v : ViewChain). IsAt accepts ask from v (stage_of c.replace-stage.result) past) (sym chain_is)
          (subst (λ (s : Stage). IsAt accepts ask from c.args.self.now.chain s past) (sym is) at) in
          subst (λ (v : ViewChain). IsAt accepts ask from v c.take.new.self.stage (call.0 ∷ past)) (sym c.take.ensures.chain)
          (subst (λ (s : Stage). IsAt accepts ask from c.next_stage-turn.new.chain s (call.0 ∷ past)) (sym c.take.ensures.stage) (call.2 ask from past before)),
    )
