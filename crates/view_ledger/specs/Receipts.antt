-- Receipts: which ones a chain of views accepts, and why it refuses the others.
use Rattle.std.specs.Prelude.{◌≡◌, ℕ, Bool, false, true, not, nat_lt, if◌then◌else◌, List, map, find, Option, Some, None, is_none, option_map, Result, Ok, Err}
use Rattle.std.specs.List.{AllByRecursion}
use Rattle.std.specs.Option.{option_map_or, option_or}
use Rattle.statement.specs.declared.member.Member.{Member}
use Rattle.statement.specs.Ids.{first_fall, IsRising}
use Rattle.statement.specs.Config.{key_of, weight_together, quorum, IsQuorum}
use Rattle.statement.specs.Statement.{view_of, statement_bytes}
use Rattle.statement.specs.Mark.{Content, id_of}
use Rattle.statement.specs.Receipt.{Receipt}
use Rattle.view_ledger.specs.declared.receipt_fault.ReceiptFault.{ReceiptFault}
use Rattle.view_ledger.specs.declared.receipt_fault.ReceiptFault.TheVariants.{UnknownView, Order, NotMember, BadMark, Few}
use Rattle.view_ledger.specs.Views.{tail_at, config_at, number_of}

-- what a checker accepts, by key, bytes and signature
abbrev pub Accepts : Type 0
Accepts = List ℕ → List ℕ → List ℕ → Bool

-- the member with this id signed the bytes so
abbrev pub IsSigned : Accepts → List Member → List ℕ → ℕ → List ℕ → Type 0
IsSigned accepts config bytes id sig = (key : List ℕ) × (key_of config id ≡ Some key) × (accepts key bytes sig ≡ true)

-- a receipt is accepted under a config whose view has this tail
pub record IsAccepted (accepts : Accepts) (config : List Member) (view : List ℕ) (receipt : Receipt) : Type 0 where
  pub own_view : view_of receipt.statement ≡ view
  pub rising : IsRising (map id_of receipt.marks)
  pub signed : AllByRecursion (λ mark. IsSigned accepts config (statement_bytes receipt.statement) mark.id mark.sig) receipt.marks
  pub enough : IsQuorum config (map id_of receipt.marks)

-- a receipt is accepted under the newest view that has its statement's tail, and this is the view's number
abbrev pub IsAcceptedIn : Accepts → List (List Member) → ℕ → Receipt → Type 0
IsAcceptedIn accepts configs number receipt =
    (number_of configs (view_of receipt.statement) ≡ Some number) × IsAccepted accepts (config_at configs number) (tail_at configs number) receipt

-- whether the member with this id signed the bytes so
abbrev pub is_signed : Accepts → List Member → List ℕ → ℕ → List ℕ → Bool
is_signed accepts config bytes id sig = option_map_or (λ key. accepts key bytes sig) (key_of config id) false

-- the first mark whose id is no member's
abbrev pub first_stranger : List Member → List Content → Option ℕ
first_stranger config marks = option_map id_of (find (λ mark. is_none (key_of config mark.id)) marks)

-- the first mark that isn't its member's
abbrev pub first_bad_mark : Accepts → List Member → List ℕ → List Content → Option ℕ
first_bad_mark accepts config bytes marks = option_map id_of (find (λ mark. not (is_signed accepts config bytes mark.id mark.sig)) marks)

abbrev pub few : ℕ → ℕ → Option ReceiptFault
few got need = if nat_lt got need then Some (Few got need) else None

-- the first cause that applies to these marks over these bytes, in the order of the causes
unfoldable pub marks_fault : Accepts → List Member → List ℕ → List Content → Option ReceiptFault
marks_fault accepts config bytes marks =
    option_or (option_map Order (first_fall None (map id_of marks)))
    (option_or (option_map NotMember (first_stranger config marks))
    (option_or (option_map BadMark (first_bad_mark accepts config bytes marks))
    (few (weight_together config (map id_of marks)) (quorum config))))

-- the number of the view under which the receipt is accepted, or the first cause that applies
unfoldable pub receipt_outcome : Accepts → List (List Member) → Receipt → Result ℕ ReceiptFault
receipt_outcome accepts configs receipt =
    option_map_or (λ number. option_map_or Err (marks_fault accepts (config_at configs number) (statement_bytes receipt.statement) receipt.marks) (Ok number)) (number_of configs (view_of receipt.statement)) (Err UnknownView)
