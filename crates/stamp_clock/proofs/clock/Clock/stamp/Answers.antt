use Rattle.std.proofs.Common.{rules, arith, ap, sym, ◌∙◌}
use Rattle.stamp_clock.proofs.StepLemmas.{stamp_step}
use Rattle.stamp_clock.proofs.clock.Clock.stamp.Goals as goal

pub fetch_add-number-requires : goal.fetch_add-number-requires
fetch_add-number-requires g c = (c.pass.invariant.0 ∙ sym c.self.invariant.0, search rules, stamp_step _ _ _ (omega (arith, ap (λ m. m.0.left) c.pass.invariant.1, ap (λ s. s.left) c.pass.view_is, c.requires)))
