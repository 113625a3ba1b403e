use Rattle.std.proofs.Common.{◌≡◌, List, ℕ, Option, sym, subst, ◌∙◌}
use Rattle.std.specs.Option.{option_map}
use Rattle.nim_base.specs.declared.text.Text.{Text}
use Rattle.statement.specs.Receipt.{Receipt}
use Rattle.op_parts.specs.Attachment.{IsAttached, IsReceiptFor, ReadsAsReceipt}
use Rattle.op_parts.proofs.attachment.accepted_receipt.Goals as goal

pub returns-clause-none : goal.returns-clause-none
returns-clause-none g c same receipt attached =
    let accepts = g.C.Checker.accepts c.args.checker.now in
    let configs = c.args.chain.now.configs in
    let there = subst (λ (o : Option Text). IsAttached accepts configs c.args.head.now (option_map (λ text. text.bytes) o) receipt) c.in-Some.is attached in
    let reads : ReadsAsReceipt c.bytes.result.now receipt = subst (λ (b : List ℕ). ReadsAsReceipt b receipt) (sym c.bytes.ensures) there.0 in
    let is : c.in-Some-2.receipt ≡ receipt = cc (sym c.in-Some-2.is ∙ c.in_ok-receipt.ensures.only receipt reads) in
    absurd (cc (c.if-is_for.ensures.1 (subst (λ (r : Receipt). IsReceiptFor accepts configs c.args.head.now r) (sym is) there.1)))
