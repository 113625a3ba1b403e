use Rattle.std.proofs.Common.{◌≡◌, sym, ◌∙◌, rules}
use Rattle.view_ledger.specs.Receipts.{receipt_outcome}
use Rattle.view_ledger.specs.ReceiptLaws.{accepted, accepts_it, outcome_none, unknown}
use Rattle.view_ledger.proofs.view_chain.ViewChain.check_receipt.Goals as goal

pub returns-clause-accepted : goal.returns-clause-accepted
returns-clause-accepted g c =
    let accepts = g.C.Checker.accepts c.args.checker.now in
    let judged : c.judge.result ≡ receipt_outcome accepts c.args.self.now.configs c.args.receipt.now = search rules in
    λ number. (λ e. accepted accepts c.args.self.now.configs c.args.receipt.now number (sym judged ∙ e), λ is. judged ∙ accepts_it accepts c.args.self.now.configs c.args.receipt.now number is)

pub returns-clause-unknown : goal.returns-clause-unknown
returns-clause-unknown g c =
    let accepts = g.C.Checker.accepts c.args.checker.now in
    let judged : c.judge.result ≡ receipt_outcome accepts c.args.self.now.configs c.args.receipt.now = search rules in
    (λ e. unknown accepts c.args.self.now.configs c.args.receipt.now (sym judged ∙ e), λ none. judged ∙ outcome_none accepts c.args.self.now.configs c.args.receipt.now none)
