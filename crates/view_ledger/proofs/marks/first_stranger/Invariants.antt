use Rattle.std.proofs.Common.{◌≡◌, drop}
use Rattle.view_ledger.specs.Receipts.{first_stranger}
use Rattle.view_ledger.proofs.marks.first_stranger.Given as goal

abbrev pub invariant-loop-mark : goal.invariant-loop-mark
invariant-loop-mark l = first_stranger l.config (drop l.mark-index l.marks) ≡ first_stranger l.config l.marks
