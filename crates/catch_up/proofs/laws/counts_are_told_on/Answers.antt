use Rattle.catch_up.proofs.Shown.{told_on}
use Rattle.catch_up.proofs.laws.counts_are_told_on.Goals as goal

pub returns : goal.returns
returns c = told_on
