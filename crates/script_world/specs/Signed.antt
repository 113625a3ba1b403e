-- Replies that are made of what endorsers signed.
use Rattle.std.specs.Prelude.{◌≡◌, ◌⊎◌, ℕ, ◌&&◌, Bool, false, bytes_eq, if◌then◌else◌, List, [], ◌∷◌, map, fold, filter_map, Option, Some, None}
use Rattle.statement.specs.declared.statement.Statement.{Statement}
use Rattle.statement.specs.declared.statement.Statement.TheVariants as statements
use Rattle.statement.specs.Mark.{Content as Mark}
use Rattle.statement.specs.Receipt.{Receipt}
use Rattle.port.specs.Answer.{Answer, Signed as IsSigned}
use Rattle.port.specs.Reply.{LatestReply}
use Rattle.endorser_core.specs.Line.{Line}
use Rattle.endorser_cell.specs.Cells.{cell_of}
use Rattle.endorser_cell.specs.EndorserCell.{EndorserCell}
use Rattle.blob_store.specs.declared.lying_store.LyingStore.{LyingStore}
use Rattle.script_world.specs.Held.{IsNewest, tail_or_zeros}

-- a statement, and the signature over it of the endorser with this id
pub record Signed : Type 0 where
  pub id : ℕ
  pub statement : Statement
  pub sig : List ℕ

-- whether it tells a newest row of this ledger to the one who drew the nonce
abbrev pub is_for : List ℕ → List ℕ → Statement → Bool
is_for handle nonce (statements.Held view ledger tail count) = false
is_for handle nonce (statements.Latest view ledger tail count drawn) = bytes_eq ledger handle && bytes_eq drawn nonce
is_for handle nonce (statements.Final view next map) = false

-- what the endorser of the id signed so with this answer, if anything
abbrev pub signed_by_answer : List ℕ → List ℕ → ℕ → Answer → Option Signed
signed_by_answer handle nonce id (IsSigned statement sig) = if is_for handle nonce statement then Some (record { id = id; statement = statement; sig = sig }) else None
signed_by_answer handle nonce id answer = None

-- what stands, or else what stood before
abbrev pub or_before : Option Signed → Option Signed → Option Signed
or_before before (Some signed) = Some signed
or_before before None = before

-- what it signed so newest, by the lines of its calls
abbrev pub newest_signed : List ℕ → List ℕ → ℕ → List Line → Option Signed
newest_signed handle nonce id lines = fold (λ before line. or_before before (signed_by_answer handle nonce id line.answer)) None lines

-- the same by its cell
abbrev pub signed_in_cell : {S C : Type 0} → List ℕ → List ℕ → ℕ → Option (EndorserCell S C) → Option Signed
signed_in_cell handle nonce id None = None
signed_in_cell handle nonce id (Some cell) = newest_signed handle nonce id cell.lines

-- what those of the ids signed so newest that did, in the order of the ids
abbrev pub all_signed : {S C : Type 0} → List ℕ → List ℕ → List (EndorserCell S C) → List ℕ → List Signed
all_signed handle nonce cells ids = filter_map (λ id. signed_in_cell handle nonce id (cell_of cells id)) ids

abbrev pub mark_of : Signed → Mark
mark_of signed = record { id = signed.id; sig = signed.sig }

-- A receipt for the first one's statement, with the signatures of all.
abbrev pub receipt_of : List Signed → Option Receipt
receipt_of [] = None
receipt_of (signed ∷ more) = Some (record { statement = signed.statement; marks = map mark_of (signed ∷ more) })

-- how many rows a statement tells
abbrev pub count_told : Statement → ℕ
count_told (statements.Held view handle tail count) = count
count_told (statements.Latest view handle tail count nonce) = count
count_told (statements.Final view next map) = 0

-- The reply that these endorsers' signatures make: with the row that really stands as the newest one of so many as the statement tells.
pub record IsOffered (store : LyingStore) (handle : List ℕ) (signed : List Signed) (reply : LatestReply) : Type 0 where
  pub receipt : receipt_of signed ≡ Some reply.receipt
  pub row : IsNewest store handle (count_told reply.receipt.statement) reply.row

-- The reply that tells, in this view, that the ledger has so many rows and that the one that really stands is the newest one.
pub record IsForged (store : LyingStore) (view handle nonce : List ℕ) (count : ℕ) (reply : LatestReply) : Type 0 where
  pub row : IsNewest store handle count reply.row
  pub statement : reply.receipt.statement ≡ statements.Latest view handle (tail_or_zeros reply.row) count nonce

-- Each of these signed the bytes, in their order, under its id. One that has no signature left made no mark.
abbrev pub AreMarksBy : {S : Type 0} → (S → ℕ) → (S → List ℕ → List ℕ → S → Type 0) → List ℕ → List (ℕ × S) → List Mark → Type 0
AreMarksBy {S} left signs bytes [] marks = marks ≡ []
AreMarksBy {S} left signs bytes ((id, signer) ∷ signers) marks =
    ((left signer ≡ 0) × AreMarksBy left signs bytes signers marks)
    ⊎ ((sig : List ℕ) × (after : S) × (more : List Mark) × signs signer bytes sig after × (marks ≡ record { id = id; sig = sig } ∷ more)
    × AreMarksBy left signs bytes signers more)
