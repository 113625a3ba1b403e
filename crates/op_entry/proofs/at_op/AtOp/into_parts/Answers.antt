use Rattle.std.proofs.Common.{List, subst}
use Rattle.port.specs.Trace.{Event}
use Rattle.view_ledger.specs.Views.{ViewChain}
use Rattle.view_ledger.specs.Receipts.{Accepts}
use Rattle.op_entry.specs.Ask.{Ask}
use Rattle.op_entry.specs.Laws.{OwnCalls}
use Rattle.op_entry.specs.Sound.{Sound}
use Rattle.op_entry.specs.State.{State}
use Rattle.op_entry.proofs.at_op.AtOp.into_parts.Goals as goal

pub returns-clause-own : goal.returns-clause-own
returns-clause-own c =
    subst (λ (s : State). (accepts : Accepts) (ask : Ask) (from : ViewChain) (past : List Event) → Sound accepts ask from s past → OwnCalls accepts ask s.chain.configs past)
    c.self.view_is c.into_parts.ensures.own
