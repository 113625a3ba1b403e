use Rattle.std.proofs.Common.{rules, sym, ◌∙◌}
use Rattle.stamp_clock.proofs.StepLemmas.{join_step, give_back_step}
use Rattle.stamp_clock.proofs.clock.Clock.join.Goals as goal

pub join_seat-requires : goal.join_seat-requires
join_seat-requires g c = (c.pass.invariant.0 ∙ sym c.self.invariant.0, c.other.invariant.0 ∙ sym c.self.invariant.0, search rules, search rules, join_step _ _ _ _)

pub load-requires : goal.load-requires
load-requires g c = (search rules, search rules, give_back_step _ _ _)
