-- What a client takes of an answer, and the line that says so.
use Rattle.std.specs.Prelude.{◌≡◌, ℕ, true, List, Option, Some, None, Result, Ok, Err}
use Rattle.std.specs.Option.{option_map_or}
use Rattle.std.specs.Result.{result_err}
use Rattle.chain_block.specs.declared.entry.Entry.{Entry}
use Rattle.chain_block.specs.Entry.{handle_of, height_of}
use Rattle.statement.specs.declared.member.Member.{Member}
use Rattle.statement.specs.Statement.{view_of}
use Rattle.port.specs.Cause.{Cause, Conflict, NoMemory}
use Rattle.port.specs.Row.{Content}
use Rattle.port.specs.Service.{ServiceAnswer, Stood, Replied, Refused}
use Rattle.view_ledger.specs.Receipts.{Accepts}
use Rattle.verifier.specs.declared.reply_fault.ReplyFault.{ReplyFault}
use Rattle.verifier.specs.Outcomes.{append_outcome, at_outcome, latest_outcome, is_known}
use Rattle.client_pass.specs.Act.{Act, Append, Latest, At, Look}
use Rattle.client_pass.specs.ClientList.{IsForEntry, IsForRead}
use Rattle.client_pass.specs.ClientPass.{ClientPass}
use Rattle.coordinator.specs.State.{State}
use Rattle.reply_taking.specs.Learning.{NotedAfterViews}
use Rattle.reply_lines.specs.Lines.{ok_line, absent_line, conflict_line, bad_reply_line}
use Rattle.reply_lines.specs.Causes.{payload_of, refusal_line}

-- the line of a reply that was to be accepted, by the fault of its check
abbrev pub taken_line : List ℕ → Option ReplyFault → List ℕ
taken_line accepted fault = option_map_or bad_reply_line fault accepted

-- the line of an accepted reply to a latest read: the row, or that there is none
abbrev pub newest_line : List ℕ → Option Content → List ℕ
newest_line label None = absent_line label
newest_line label (Some row) = ok_line label (height_of row.entry) (payload_of row.entry)

abbrev pub latest_line : List ℕ → Option Content → Result ℕ ReplyFault → List ℕ
latest_line label row (Ok count) = newest_line label row
latest_line label row (Err fault) = bad_reply_line fault

-- A client and the coordinator, before and after.
pub record Sides (S L C : Type 0) : Type 0 where
  pub from : ClientPass C
  pub to : ClientPass C
  pub before : State S L C
  pub after : State S L C

-- nothing was asked of the coordinator, and the client's chain is as it was
abbrev pub IsQuiet : {S L C : Type 0} → Sides S L C → Type 0
IsQuiet sides = (sides.after ≡ sides.before) × (sides.to.chain ≡ sides.from.chain)

-- A reply was checked by the chain that the client had then. The act of that check was noted, right after the views that were learned of on
-- the way, and the line says what came of it. Where the chain had the receipt's view already, nothing was asked.
pub record Took {S L C O : Type 0} (sides : Sides S L C) (view : List ℕ) (outcome : List (List Member) → O) (act_by : O → Act) (line_by : O → List ℕ) (line : List ℕ) : Type 0 where
  pub known : is_known sides.from.chain.configs view ≡ true → IsQuiet sides
  pub noted : NotedAfterViews sides.from sides.to (act_by (outcome sides.to.chain.configs))
  pub printed : line ≡ line_by (outcome sides.to.chain.configs)

-- a refusal is printed as it is, and nothing is noted; want of memory has no line
abbrev pub Printed : {S L C : Type 0} → Sides S L C → List ℕ → Cause → List ℕ → Type 0
Printed sides label NoMemory line = ⊥
Printed sides label cause line = IsQuiet sides × (line ≡ refusal_line label cause) × (sides.to ≡ sides.from)

module _ {S L C : Type 0} (accepts : Accepts) (sides : Sides S L C) (label : List ℕ) where
  -- the answer to a new ledger of this entry, or to an append of it: it is taken for a draw that was for this entry
  abbrev pub TookOwn : Entry → ServiceAnswer → List ℕ → Type 0
  TookOwn entry (Stood standing) line =
      (draw : ℕ) × IsForEntry sides.from.lines draw entry
      × Took sides (view_of standing.receipt.statement) (λ configs. append_outcome accepts configs entry standing)
      (Append draw standing) (taken_line (ok_line label (height_of entry) (payload_of entry))) line
  TookOwn entry (Refused (Conflict standing)) line =
      Took sides (view_of standing.receipt.statement) (λ configs. at_outcome accepts configs (handle_of entry) (height_of entry) standing)
      (Look (handle_of entry) (height_of entry) standing) (taken_line (conflict_line label (height_of entry) (payload_of standing.row.entry))) line
  TookOwn entry (Refused cause) line = Printed sides label cause line
  TookOwn entry answer line = ⊥

  -- the answer to a read of this ledger at this height
  abbrev pub TookAt : List ℕ → ℕ → ServiceAnswer → List ℕ → Type 0
  TookAt handle height (Stood standing) line =
      Took sides (view_of standing.receipt.statement) (λ configs. at_outcome accepts configs handle height standing)
      (At handle height standing) (taken_line (ok_line label height (payload_of standing.row.entry))) line
  TookAt handle height (Refused cause) line = Printed sides label cause line
  TookAt handle height answer line = ⊥

  -- the answer to a read of this ledger's newest row with this nonce: it is taken for a draw with this nonce
  abbrev pub TookLatest : List ℕ → List ℕ → ServiceAnswer → List ℕ → Type 0
  TookLatest handle nonce (Replied reply) line =
      (draw : ℕ) × IsForRead sides.from.lines draw nonce
      × Took sides (view_of reply.receipt.statement) (λ configs. latest_outcome accepts configs handle nonce reply)
      (λ told. Latest draw handle reply (result_err told)) (latest_line label reply.row) line
  TookLatest handle nonce (Refused cause) line = Printed sides label cause line
  TookLatest handle nonce answer line = ⊥
