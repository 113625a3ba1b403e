use Rattle.stamp_clock.proofs.AllPasses.{all_each_once, all_none_twice, each_below, left_bound}
use Rattle.stamp_clock.proofs.laws.passes_share_no_number.Goals as goal

pub returns-clause-each_once : goal.returns-clause-each_once
returns-clause-each_once c = all_each_once

pub returns-clause-none_twice : goal.returns-clause-none_twice
returns-clause-none_twice c = all_none_twice

pub returns-clause-below : goal.returns-clause-below
returns-clause-below c = each_below

pub returns-clause-bound : goal.returns-clause-bound
returns-clause-bound c = left_bound
