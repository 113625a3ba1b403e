use Rattle.std.proofs.Common.{[], subst}
use Rattle.op_latest.specs.LatestSound.{LatestSound}
use Rattle.view_ledger.specs.Receipts.{Accepts}
use Rattle.view_ledger.specs.Views.{ViewChain}
use Rattle.script_operations.proofs.newest_operation.NewestOperation.begin.Goals as goal

pub returns-clause-fresh : goal.returns-clause-fresh
returns-clause-fresh c = (
  subst (λ (chain : ViewChain). (accepts : Accepts) → LatestSound accepts (record { handle = c.args.handle; nonce = c.args.nonce }) chain c.new-run.result []) c.in_ok-copy.ensures c.new-run.ensures.sound,
  c.new-run.ensures.live,
)
