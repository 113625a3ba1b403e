-- Receipts: what one is, its bytes, and which fault shows first in others.
use Rattle.std.specs.Prelude.{ℕ, ◌==◌, ◌^◌, ◌<◌, List, ◌∷◌, ◌++◌, length}
use Rattle.std.specs.List.{flat_map, AllByRecursion}
use Rattle.nim_base.specs.declared.form_fault.FormFault.{FormFault}
use Rattle.nim_base.specs.declared.form_fault.FormFault.TheVariants.{Kind}
use Rattle.statement.specs.declared.statement.Statement.{Statement}
use Rattle.statement.specs.Statement.{IsStatement, statement_bytes, StatementBegins}
use Rattle.statement.specs.Mark.{Content, id_of, AreMarks, IsMark, mark_bytes, MarkBegins}
use Rattle.statement.specs.FormFault.{ShowsBehind, ShowsBehindByte, ShowsUnless, ShowsInList, ShowsInWhole}

-- what contracts see of one
pub record Receipt : Type 0 where
  pub statement : Statement
  pub marks : List Content

-- within the limits, with fields of their lengths, which each receipt of the code has by its type
pub record IsReceipt (receipt : Receipt) : Type 0 where
  pub statement : IsStatement receipt.statement
  pub marks : AreMarks receipt.marks
  pub ids : AllByRecursion (λ mark. mark.id < 2 ^ 32) receipt.marks

-- the kind, 23 in hexadecimal, the statement, the number of marks(1), and each mark
abbrev pub receipt_bytes : Receipt → List ℕ
receipt_bytes receipt = 0x23 ∷ statement_bytes receipt.statement ++ length receipt.marks ∷ flat_map mark_bytes receipt.marks

-- where a receipt is to begin
abbrev pub ReceiptBegins : List ℕ → FormFault → Type 0
ReceiptBegins =
    ShowsBehindByte (λ kind. ShowsUnless (kind == 0x23) Kind (ShowsBehind IsStatement statement_bytes StatementBegins (λ _. ShowsInList IsMark mark_bytes id_of MarkBegins)))

-- in bytes that are to be a receipt, and no more
abbrev pub ReceiptShows : List ℕ → FormFault → Type 0
ReceiptShows = ShowsInWhole IsReceipt receipt_bytes ReceiptBegins
