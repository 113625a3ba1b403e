use Rattle.stamp_clock.proofs.Numbers.{times-append}
use Rattle.stamp_clock.proofs.AllPasses.{once_none_twice, once_below}
use Rattle.stamp_clock.proofs.laws.counts_add_up.Goals as goal

pub returns-clause-append : goal.returns-clause-append
returns-clause-append c = times-append

pub returns-clause-none_twice : goal.returns-clause-none_twice
returns-clause-none_twice c = once_none_twice

pub returns-clause-below : goal.returns-clause-below
returns-clause-below c = once_below
