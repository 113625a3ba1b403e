use Rattle.std.proofs.Common.{◌≡◌, take}
use Rattle.port.proofs.view_row.copy_marks.Given as goal

-- the marks up to here were copied
abbrev pub invariant-loop-mark : goal.invariant-loop-mark
invariant-loop-mark l = l.copies.items ≡ take l.mark-index l.marks
