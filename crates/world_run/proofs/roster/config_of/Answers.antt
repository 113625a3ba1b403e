use Rattle.std.proofs.Common.{Err, ap, ◌∙◌}
use Rattle.statement.specs.declared.config_fault.ConfigFault.{ConfigFault}
use Rattle.world_run.proofs.Genesis.{are_genuine, no_order}
use Rattle.world_run.proofs.roster.config_of.Goals as goal

pub returns-in-Ok-clause-genuine : goal.returns-in-Ok-clause-genuine
returns-in-Ok-clause-genuine c =
    are_genuine c.requires.members.0 c.args.ids.now c.args.members.now c.in-Ok.config c.requires.members.1
    (c.in-Ok.ensures.members ∙ c.deref.ensures.value ∙ c.in_ok-picked.ensures c.requires.members.0 c.requires.members.1) c.requires.ids

pub unreachable-requires-in-Err-Order : goal.unreachable-requires-in-Err-Order
unreachable-requires-in-Err-Order c =
    let told = (c.of.ensures.order c.in-Err-Order.field-0-0).0 (c.in-Err-Order.is ∙ ap (λ (fault : ConfigFault). Err fault) c.in-Err-Order.field-0-is) in
    no_order c.requires.members.0 c.args.ids.now c.deref.result.now c.in-Err-Order.field-0-0
    (c.deref.ensures.value ∙ c.in_ok-picked.ensures c.requires.members.0 c.requires.members.1) c.requires.ids told.2
