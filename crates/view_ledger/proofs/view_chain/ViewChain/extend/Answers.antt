use Rattle.std.proofs.Common.{◌≡◌, inr, Result, Ok, Err, sym, ap, ◌∙◌, rules}
use Rattle.std.specs.Result.{result_err}
use Rattle.view_ledger.specs.declared.view_fault.ViewFault.{ViewFault}
use Rattle.view_ledger.specs.Views.{ViewChain}
use Rattle.view_ledger.specs.Extension.{extended, extend_fault, extend_outcome}
use Rattle.view_ledger.proofs.Extending.{outcome_err, outcome_ok, follows}
use Rattle.view_ledger.proofs.view_chain.ViewChain.extend.Goals as goal

no_fault : {X : Type 0} (outcome : Result ViewChain ViewFault) (chain : ViewChain) (fault : ViewFault) → outcome ≡ Ok chain → outcome ≡ Err fault → X
no_fault outcome chain fault ok err = absurd cc

same_err : (outcome : Result ViewChain ViewFault) (one other : ViewFault) → outcome ≡ Err one → outcome ≡ Err other → ◌≡◌ {A = Result (Unit {0}) ViewFault} (Err one) (Err other)
same_err outcome one other e f = let same : one ≡ other = cc in ap (λ (fault : ViewFault). Err fault) same

pub returns-in_err-add-in-Ok-clause-refused : goal.returns-in_err-add-in-Ok-clause-refused
returns-in_err-add-in-Ok-clause-refused g c =
    let accepts = g.C.Checker.accepts c.args.checker.now in
    let judged : result_err c.tail_of_next-judged.result ≡ extend_fault accepts c.args.self.now c.args.next.now = search rules in
    λ fault e. no_fault (extend_outcome accepts c.args.self.now c.args.next.now) (extended c.args.self.now c.args.next.now.config) fault (outcome_ok accepts c.args.self.now c.args.next.now (sym judged ∙ ap result_err c.in-Ok.is)) e

pub returns-in_ok-add-in-Ok-clause-ok : goal.returns-in_ok-add-in-Ok-clause-ok
returns-in_ok-add-in-Ok-clause-ok g c =
    let accepts = g.C.Checker.accepts c.args.checker.now in
    let judged : result_err c.tail_of_next-judged.result ≡ extend_fault accepts c.args.self.now c.args.next.now = search rules in
    let same : c.add.new.self ≡ extended c.args.self.now c.args.next.now.config = search rules in
    outcome_ok accepts c.args.self.now c.args.next.now (sym judged ∙ ap result_err c.in-Ok.is) ∙ ap (λ (chain : ViewChain). Ok chain) (sym same)

pub returns-in_ok-add-in-Ok-clause-refused : goal.returns-in_ok-add-in-Ok-clause-refused
returns-in_ok-add-in-Ok-clause-refused g c =
    let accepts = g.C.Checker.accepts c.args.checker.now in
    let judged : result_err c.tail_of_next-judged.result ≡ extend_fault accepts c.args.self.now c.args.next.now = search rules in
    λ fault e. no_fault (extend_outcome accepts c.args.self.now c.args.next.now) (extended c.args.self.now c.args.next.now.config) fault (outcome_ok accepts c.args.self.now c.args.next.now (sym judged ∙ ap result_err c.in-Ok.is)) e

pub returns-in_ok-add-in-Ok-clause-follows : goal.returns-in_ok-add-in-Ok-clause-follows
returns-in_ok-add-in-Ok-clause-follows g c =
    let accepts = g.C.Checker.accepts c.args.checker.now in
    let judged : result_err c.tail_of_next-judged.result ≡ extend_fault accepts c.args.self.now c.args.next.now = search rules in
    follows accepts c.args.self.now c.args.next.now (sym judged ∙ ap result_err c.in-Ok.is)

pub returns-in-Err-clause-refused : goal.returns-in-Err-clause-refused
returns-in-Err-clause-refused g c =
    let accepts = g.C.Checker.accepts c.args.checker.now in
    let judged : result_err c.tail_of_next-judged.result ≡ extend_fault accepts c.args.self.now c.args.next.now = search rules in
    let out = outcome_err accepts c.args.self.now c.args.next.now c.in-Err.fault (sym judged ∙ ap result_err c.in-Err.is) in
    λ fault e. same_err (extend_outcome accepts c.args.self.now c.args.next.now) c.in-Err.fault fault out e

pub returns-in-Err-clause-cause : goal.returns-in-Err-clause-cause
returns-in-Err-clause-cause g c =
    let accepts = g.C.Checker.accepts c.args.checker.now in
    let judged : result_err c.tail_of_next-judged.result ≡ extend_fault accepts c.args.self.now c.args.next.now = search rules in
    inr (outcome_err accepts c.args.self.now c.args.next.now c.in-Err.fault (sym judged ∙ ap result_err c.in-Err.is))
