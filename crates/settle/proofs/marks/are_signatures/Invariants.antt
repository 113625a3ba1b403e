use Rattle.std.proofs.Common.{◌↔◌, drop}
use Rattle.std.specs.List.{AllByRecursion}
use Rattle.statement.specs.Mark.{Content, IsSignature}
use Rattle.settle.proofs.marks.are_signatures.Given as goal

abbrev IsSigned : Content → Type 0
IsSigned mark = IsSignature mark.sig

abbrev pub invariant-loop-mark : goal.invariant-loop-mark
invariant-loop-mark l = AllByRecursion IsSigned (drop l.mark-index l.marks) ↔ AllByRecursion IsSigned l.marks
