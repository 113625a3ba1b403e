use Rattle.std.proofs.Common.{rules}
use Rattle.view_ledger.proofs.Weights.{weight_small}
use Rattle.view_ledger.proofs.marks.weight.Goals as goal

pub returns-clause-small : goal.returns-clause-small
returns-clause-small c = search (rules, weight_small)
