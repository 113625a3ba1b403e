use Rattle.std.proofs.Common.{◌≡◌, drop}
use Rattle.view_ledger.specs.Receipts.{first_bad_mark}
use Rattle.view_ledger.proofs.marks.first_bad_mark.Given as goal

abbrev pub invariant-loop-mark : goal.invariant-loop-mark
invariant-loop-mark g l =
    let accepts = g.C.Checker.accepts l.checker in first_bad_mark accepts l.config l.bytes (drop l.mark-index l.marks) ≡ first_bad_mark accepts l.config l.bytes l.marks
