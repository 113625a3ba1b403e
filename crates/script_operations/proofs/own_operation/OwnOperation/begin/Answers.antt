use Rattle.std.proofs.Common.{[], ap, ◌∙◌, subst}
use Rattle.chain_block.specs.declared.entry.Entry.{Entry}
use Rattle.chain_block.specs.Entry.{bare}
use Rattle.op_entry.specs.Sound.{Sound}
use Rattle.view_ledger.specs.Receipts.{Accepts}
use Rattle.view_ledger.specs.Views.{ViewChain}
use Rattle.script_operations.specs.Operations.{state_of}
use Rattle.script_operations.specs.Task.{ask_for}
use Rattle.script_operations.proofs.Answering.{bare_twice}
use Rattle.script_operations.proofs.own_operation.OwnOperation.begin.Goals as goal

pub returns-clause-fresh : goal.returns-clause-fresh
returns-clause-fresh c = (
  subst (λ (chain : ViewChain). (accepts : Accepts) → Sound accepts (ask_for (bare c.args.entry)) chain (state_of c.begin-run.result) []) c.in_ok-copy-2.ensures
      (subst (λ (entry : Entry). (accepts : Accepts) → Sound accepts (ask_for entry) c.in_ok-copy-2.field-0 (state_of c.begin-run.result) []) (ap bare c.in_ok-copy.ensures ∙ bare_twice c.args.entry) c.begin-run.ensures.sound),
  c.begin-run.ensures.live,
)
