use Rattle.std.proofs.Common.{refl}
use Rattle.op_parts.proofs.attachment.is_accepted.Goals as goal

pub returns-in-Ok : goal.returns-in-Ok
returns-in-Ok g c = (λ _. (c.in-Ok.field-0, (c.in-Ok.ensures.accepted c.in-Ok.field-0).0 refl), λ _. refl)
