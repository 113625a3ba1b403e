use Rattle.settle.proofs.Behind.{told_behind}
use Rattle.settle.proofs.Shown.{shown}
use Rattle.settle.proofs.laws.refusals_are_shown.Goals as goal

pub returns-clause-cause : goal.returns-clause-cause
returns-clause-cause c = shown

pub returns-clause-behind : goal.returns-clause-behind
returns-clause-behind c = told_behind c.counts_are_told_on.ensures c.members_tell_counts.ensures
