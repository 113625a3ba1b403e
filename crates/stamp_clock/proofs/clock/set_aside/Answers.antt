use Rattle.std.proofs.Common.{rules, ℕ, ◌≤◌, subst}
use Rattle.stamp_clock.proofs.StepLemmas.{set_aside_step}
use Rattle.stamp_clock.proofs.clock.set_aside.Goals as goal

pub load-requires : goal.load-requires
load-requires g c = (search rules, search rules, set_aside_step _ _ _ _ (subst (λ (n : ℕ). n ≤ c.args.seat.now.me.0.left) c.requires.share c.requires.left))
