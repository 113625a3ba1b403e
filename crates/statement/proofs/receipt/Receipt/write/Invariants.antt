use Rattle.std.proofs.Common.{◌≡◌, ◌∷◌, ◌++◌, length, take}
use Rattle.std.specs.List.{flat_map}
use Rattle.statement.specs.Statement.{statement_bytes}
use Rattle.statement.specs.Mark.{mark_bytes}
use Rattle.statement.proofs.receipt.Receipt.write.Given as goal

abbrev pub invariant-loop-mark : goal.invariant-loop-mark
invariant-loop-mark l = l.text.bytes ≡ 0x23 ∷ statement_bytes l.self.statement ++ length l.self.marks ∷ flat_map mark_bytes (take l.mark-index l.self.marks)
