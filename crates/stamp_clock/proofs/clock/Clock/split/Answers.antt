use Rattle.std.proofs.Common.{rules}
use Rattle.stamp_clock.proofs.StepLemmas.{split_step}
use Rattle.stamp_clock.proofs.clock.Clock.split.Goals as goal

pub split_seat-seat-requires : goal.split_seat-seat-requires
split_seat-seat-requires g c = (search rules, search rules, split_step _ _)
