use Rattle.std.proofs.Common.{◌≡◌, ◌≢◌, ◌⊎◌, List, inl, inr, ap, subst}
use Rattle.chain_block.specs.declared.meta_block.MetaBlock.{MetaBlock}
use Rattle.port.specs.declared.store_answers.Attached.{Attached}
use Rattle.port.specs.declared.store_answers.Attached.TheVariants.{Done, Absent, Failed, NoMemory}
use Rattle.op_parts.specs.Walk.{Place}
use Rattle.settle.specs.State.{stage_of}
use Rattle.settle.specs.Turn.{StandsBy}
use Rattle.settle.proofs.turn.Turn.of_attached.Goals as goal

had_memory : (attached : Attached) → (attached ≡ Done) ⊎ ((attached ≡ Absent) ⊎ (attached ≡ Failed)) → attached ≢ NoMemory
had_memory attached (inl is) wanted = absurd (cc)
had_memory attached (inr (inl is)) wanted = absurd (cc)
had_memory attached (inr (inr is)) wanted = absurd (cc)

pub returns-in-Done : goal.returns-in-Done
returns-in-Done c = record {
  takes = inl (
    had_memory c.args.attached c.in-Done.is,
    subst (λ (l : List MetaBlock). StandsBy l c.args.receipt (stage_of c.stands.result.stage) c.stands.result.answer) (ap (λ (p : Place). p.blocks) c.top.view_is) c.stands.ensures.takes,
  );
  ready = c.stands.ensures.ready;
}
