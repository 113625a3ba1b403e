use Rattle.std.proofs.Common.{List, sym, ◌∙◌, ap, subst}
use Rattle.std.specs.Prelude.{Result, Ok}
use Rattle.chain_block.specs.declared.meta_block.MetaBlock.{MetaBlock}
use Rattle.nim_base.specs.declared.no_memory.NoMemory.{NoMemory}
use Rattle.op_parts.specs.declared.walk.WalkProgress.{WalkProgress}
use Rattle.op_parts.specs.RoundRefusal.{causes}
use Rattle.settle.specs.State.{stage_of}
use Rattle.settle.specs.Turn.{StandsBy, TakesWalk}
use Rattle.settle.proofs.turn.Turn.of_walk.Goals as goal

pub returns-in-Ok-Stands-clause-takes : goal.returns-in-Ok-Stands-clause-takes
returns-in-Ok-Stands-clause-takes c =
    subst (λ (p : Result WalkProgress NoMemory). TakesWalk c.args.chain.now.configs c.args.handle.now c.args.walk (causes c.args.reasons.items) p (stage_of c.stands.result.stage) c.stands.result.answer)
    (sym (c.in-Ok-Stands.is ∙ ap (λ (w : WalkProgress). Ok w) c.in-Ok-Stands.field-0-is))
    (subst (λ (l : List MetaBlock). StandsBy l c.in-Ok-Stands.receipt (stage_of c.stands.result.stage) c.stands.result.answer) c.into_blocks.ensures c.stands.ensures.takes)
