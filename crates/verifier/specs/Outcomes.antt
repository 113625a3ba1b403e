-- What is answered for a reply: the first fault that applies, in the order of the faults.
use Rattle.std.specs.Prelude.{ℕ, ◌+◌, ◌==◌, ◌&&◌, Bool, true, false, if◌then◌else◌, List, [], ◌∷◌, length, replicate, Option, Some, None, is_some, Result, Ok, Err}
use Rattle.std.specs.Option.{option_or}
use Rattle.std.specs.Str.{bytes_eq}
use Rattle.nim_base.specs.Text.{Content as Text}
use Rattle.chain_block.specs.declared.entry.Entry.{Entry}
use Rattle.chain_block.specs.declared.entry.Entry.TheVariants.{Genesis, Later}
use Rattle.chain_block.specs.declared.meta_block.MetaBlock.{MetaBlock}
use Rattle.chain_block.specs.Entry.{bare, entry_digest, handle_of, height_of}
use Rattle.chain_block.specs.Tail.{tail_after}
use Rattle.statement.specs.declared.member.Member.{Member}
use Rattle.statement.specs.declared.statement.Statement.{Statement}
use Rattle.statement.specs.declared.statement.Statement.TheVariants.{Held, Latest, Final}
use Rattle.port.specs.Row.{Content}
use Rattle.port.specs.Reply.{Standing, LatestReply}
use Rattle.view_ledger.specs.declared.receipt_fault.ReceiptFault.{ReceiptFault}
use Rattle.view_ledger.specs.Views.{number_of}
use Rattle.view_ledger.specs.Receipts.{Accepts, receipt_outcome}
use Rattle.verifier.specs.declared.reply_fault.ReplyFault.{ReplyFault}
use Rattle.verifier.specs.declared.reply_fault.ReplyFault.TheVariants.{WrongKind, UnknownView, WrongHandle, WrongHeight, WrongNonce, WrongEntry, WrongTail, BadReceipt}

-- the fault of the first test that fails
abbrev pub first_failed : List (Bool × ReplyFault) → Option ReplyFault
first_failed [] = None
first_failed (test ∷ tests) = if test.0 then first_failed tests else Some test.1

-- the last test, of the receipt
abbrev pub bad_receipt : Result ℕ ReceiptFault → Option ReplyFault
bad_receipt (Ok number) = None
bad_receipt (Err cause) = Some (BadReceipt cause)

abbrev pub is_known : List (List Member) → List ℕ → Bool
is_known configs view = is_some (number_of configs view)

abbrev pub is_text : Text → Text → Bool
is_text one other = bytes_eq one.bytes other.bytes && (one.room == other.room)

-- the entries are equal
abbrev pub is_entry : Entry → Entry → Bool
is_entry (Genesis nonce payload) (Genesis nonce' payload') = bytes_eq nonce nonce' && is_text payload payload'
is_entry (Later handle height nonce payload) (Later handle' height' nonce' payload') = bytes_eq handle handle' && ((height == height') && (bytes_eq nonce nonce' && is_text payload payload'))
is_entry (Genesis nonce payload) (Later handle' height' nonce' payload') = false
is_entry (Later handle height nonce payload) (Genesis nonce' payload') = false

-- the row has the own entry, if there is one
abbrev pub is_own : Option Entry → Content → Bool
is_own None row = true
is_own (Some own) row = is_entry (bare own) row.entry

-- the entry is of this ledger, and the metablock has its height and its digest
abbrev pub is_row_of : List ℕ → Content → Bool
is_row_of handle row = bytes_eq (handle_of row.entry) handle && ((height_of row.entry == row.metablock.height) && bytes_eq (entry_digest row.entry) row.metablock.entry)

abbrev pub row_tail : Content → List ℕ
row_tail row = tail_after row.metablock.prev row.metablock.entry row.metablock.height

-- the blocks stand at the heights from count on and lead from one tail to another
unfoldable pub are_linked : List MetaBlock → List ℕ → ℕ → List ℕ → Bool
are_linked [] prev count to = bytes_eq prev to
are_linked (block ∷ blocks) prev count to = (block.height == count) && (bytes_eq block.prev prev && are_linked blocks (tail_after block.prev block.entry block.height) (count + 1) to)

-- the tests of a reply that stands, but the last one
abbrev pub standing_tests : List (List Member) → List ℕ → ℕ → Option Entry → Content → List MetaBlock → List ℕ → List ℕ → List ℕ → ℕ → List (Bool × ReplyFault)
standing_tests configs asked height own row blocks view handle tail count =
    (is_known configs view, UnknownView)
    ∷ (bytes_eq handle asked, WrongHandle)
    ∷ ((row.metablock.height == height) && (count == row.metablock.height + 1 + length blocks), WrongHeight)
    ∷ (is_own own row && is_row_of asked row, WrongEntry)
    ∷ (are_linked blocks (row_tail row) (row.metablock.height + 1) tail, WrongTail)
    ∷ []

-- the first fault of a reply that is to stand in this ledger at this height, with the own entry if there is one
abbrev pub standing_fault : Accepts → List (List Member) → List ℕ → ℕ → Option Entry → Standing → Statement → Option ReplyFault
standing_fault accepts configs asked height own reply (Held view handle tail count) =
    option_or (first_failed (standing_tests configs asked height own reply.row reply.chain view handle tail count)) (bad_receipt (receipt_outcome accepts configs reply.receipt))
standing_fault accepts configs asked height own reply (Latest view handle tail count nonce) = Some WrongKind
standing_fault accepts configs asked height own reply (Final view next map) = Some WrongKind

-- the reply to an append of this entry
unfoldable pub append_outcome : Accepts → List (List Member) → Entry → Standing → Option ReplyFault
append_outcome accepts configs own reply = standing_fault accepts configs (handle_of own) (height_of own) (Some own) reply reply.receipt.statement

-- the reply to a read of this ledger at this height
unfoldable pub at_outcome : Accepts → List (List Member) → List ℕ → ℕ → Standing → Option ReplyFault
at_outcome accepts configs handle height reply = standing_fault accepts configs handle height None reply reply.receipt.statement

-- the row, if there is one, stands just below the count
abbrev pub is_newest : ℕ → Option Content → Bool
is_newest count None = true
is_newest count (Some row) = count == row.metablock.height + 1

-- there is a row of this ledger, or none where the count is 0
abbrev pub has_row : List ℕ → ℕ → Option Content → Bool
has_row asked count None = count == 0
has_row asked count (Some row) = is_row_of asked row

-- the tail is the row's, or zeros where there is none
abbrev pub is_tail : List ℕ → Option Content → Bool
is_tail tail None = bytes_eq (replicate 32 0) tail
is_tail tail (Some row) = bytes_eq (row_tail row) tail

-- the tests of a reply to a latest read, but the last one
abbrev pub latest_tests : List (List Member) → List ℕ → List ℕ → Option Content → List ℕ → List ℕ → List ℕ → ℕ → List ℕ → List (Bool × ReplyFault)
latest_tests configs asked asked_nonce row view handle tail count nonce =
    (is_known configs view, UnknownView)
    ∷ (bytes_eq handle asked, WrongHandle)
    ∷ (is_newest count row, WrongHeight)
    ∷ (bytes_eq nonce asked_nonce, WrongNonce)
    ∷ (has_row asked count row, WrongEntry)
    ∷ (is_tail tail row, WrongTail)
    ∷ []

-- this value, unless there is a fault
abbrev pub unless : {A : Type 0} → Option ReplyFault → A → Result A ReplyFault
unless None value = Ok value
unless (Some fault) value = Err fault

abbrev pub latest_by : Accepts → List (List Member) → List ℕ → List ℕ → LatestReply → Statement → Result ℕ ReplyFault
latest_by accepts configs asked asked_nonce reply (Latest view handle tail count nonce) =
    unless (option_or (first_failed (latest_tests configs asked asked_nonce reply.row view handle tail count nonce)) (bad_receipt (receipt_outcome accepts configs reply.receipt))) count
latest_by accepts configs asked asked_nonce reply (Held view handle tail count) = Err WrongKind
latest_by accepts configs asked asked_nonce reply (Final view next map) = Err WrongKind

-- the reply to a latest read of this ledger with this nonce: the count, or the first fault
unfoldable pub latest_outcome : Accepts → List (List Member) → List ℕ → List ℕ → LatestReply → Result ℕ ReplyFault
latest_outcome accepts configs handle nonce reply = latest_by accepts configs handle nonce reply reply.receipt.statement
