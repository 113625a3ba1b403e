-- The receipt that is attached to a row.
use Rattle.std.specs.Prelude.{◌≡◌, ℕ, List, Option, Some, None}
use Rattle.statement.specs.declared.member.Member.{Member}
use Rattle.statement.specs.declared.statement.Statement.{Statement}
use Rattle.statement.specs.declared.statement.Statement.TheVariants as statements
use Rattle.statement.specs.Receipt.{Receipt, IsReceipt, receipt_bytes}
use Rattle.view_ledger.specs.Receipts.{Accepts, IsAcceptedIn}
use Rattle.op_parts.specs.declared.attachment.Head.{Head}

-- these are the bytes of the receipt
abbrev pub ReadsAsReceipt : List ℕ → Receipt → Type 0
ReadsAsReceipt bytes receipt = IsReceipt receipt × (bytes ≡ receipt_bytes receipt)

-- the statement holds that the ledger has this tail and count
abbrev pub IsHeld : Head → Statement → Type 0
IsHeld head (statements.Held view handle tail count) = (handle ≡ head.handle) × (tail ≡ head.tail) × (count ≡ head.count)
IsHeld head statement = ⊥

-- a receipt for this head, which the chain of views accepts
abbrev pub IsReceiptFor : Accepts → List (List Member) → Head → Receipt → Type 0
IsReceiptFor accepts configs head receipt = IsHeld head receipt.statement × ((number : ℕ) × IsAcceptedIn accepts configs number receipt)

-- such a receipt is attached
abbrev pub IsAttached : Accepts → List (List Member) → Head → Option (List ℕ) → Receipt → Type 0
IsAttached accepts configs head None receipt = ⊥
IsAttached accepts configs head (Some bytes) receipt = ReadsAsReceipt bytes receipt × IsReceiptFor accepts configs head receipt
