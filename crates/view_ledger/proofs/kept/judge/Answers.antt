use Rattle.std.proofs.Common.{ℕ, List, map, get_or, sym, ap, ◌∙◌}
use Rattle.statement.specs.declared.member.Member.{Member}
use Rattle.statement.specs.Statement.{statement_bytes}
use Rattle.view_ledger.specs.Views.{number_of}
use Rattle.view_ledger.specs.Receipts.{marks_fault}
use Rattle.view_ledger.specs.Kept.{config_of}
use Rattle.view_ledger.proofs.KeptViews.{config_is}
use Rattle.view_ledger.specs.ReceiptLaws.{outcome_none, outcome_fault, outcome_ok}
use Rattle.view_ledger.proofs.kept.judge.Goals as goal

pub returns-in_default : goal.returns-in_default
returns-in_default g c =
    let none = ap (number_of (map config_of c.args.views.now)) (sym c.view.ensures) ∙ sym c.find_view.ensures.found ∙ c.in_default.is in
    sym (outcome_none (g.C.Checker.accepts c.args.checker.now) (map config_of c.args.views.now) (record { statement = c.args.statement.now; marks = c.args.marks.now }) none)

pub returns-in-Some-marks_fault : goal.returns-in-Some-marks_fault
returns-in-Some-marks_fault g c =
    let accepts = g.C.Checker.accepts c.args.checker.now in
    let configs = map config_of c.args.views.now in
    let marks = c.args.marks.now in
    let found = ap (number_of configs) (sym c.view.ensures) ∙ sym c.find_view.ensures.found ∙ c.in-Some.is in
    let bytes = c.as_slice.ensures ∙ c.bytes-bytes.ensures in
    let config = config_is c.args.views.now c.in-Some.number c.index-views-number.result c.in-Some.ensures.below in
    let fault =
    ap (λ (members : List Member). marks_fault accepts members (statement_bytes c.args.statement.now) marks) (sym config)
    ∙ ap (λ (b : List ℕ). marks_fault accepts (get_or c.args.views.now c.in-Some.number c.index-views-number.result).config b marks) (sym bytes)
    ∙ sym c.marks_fault.ensures
    ∙ c.in-Some-marks_fault.is in
    sym (outcome_fault accepts configs (record { statement = c.args.statement.now; marks = marks }) c.in-Some.number c.in-Some-marks_fault.fault found fault)

pub returns-in-None : goal.returns-in-None
returns-in-None g c =
    let accepts = g.C.Checker.accepts c.args.checker.now in
    let configs = map config_of c.args.views.now in
    let marks = c.args.marks.now in
    let found = ap (number_of configs) (sym c.view.ensures) ∙ sym c.find_view.ensures.found ∙ c.in-Some.is in
    let bytes = c.as_slice.ensures ∙ c.bytes-bytes.ensures in
    let config = config_is c.args.views.now c.in-Some.number c.index-views-number.result c.in-Some.ensures.below in
    let fault =
    ap (λ (members : List Member). marks_fault accepts members (statement_bytes c.args.statement.now) marks) (sym config)
    ∙ ap (λ (b : List ℕ). marks_fault accepts (get_or c.args.views.now c.in-Some.number c.index-views-number.result).config b marks) (sym bytes)
    ∙ sym c.marks_fault.ensures
    ∙ c.in-None.is in
    sym (outcome_ok accepts configs (record { statement = c.args.statement.now; marks = marks }) c.in-Some.number found fault)
