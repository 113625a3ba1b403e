use Rattle.std.proofs.Common.{ap, ◌∙◌}
use Rattle.op_reconf.specs.State.{State, answer_at}
use Rattle.op_reconf.proofs.Ending.{calls_own, if_says}
use Rattle.op_reconf.proofs.reconf_op.ReconfOp.into_parts.Goals as goal

pub returns-clause-calls : goal.returns-clause-calls
returns-clause-calls c = λ accepts from past sound. (
  ap (λ (s : State). s.chain) c.self.view_is ∙ sound.chain,
  calls_own from c.quorums_are_parted.ensures.enough accepts c.args.self past sound,
  if_says from c.quorums_are_parted.ensures.enough c.quorums_are_parted.ensures.few accepts c.args.self past c.answer_of.result sound
      (c.answer_of.ensures ∙ ap (λ (s : State). answer_at s.stage) c.self.view_is),
)
