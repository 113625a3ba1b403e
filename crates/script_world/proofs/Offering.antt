-- Replies that a script gives the client of a read.
use Rattle.std.proofs.Common.{◌≡◌, ◌<◌, inl, inr, ℕ, zero, suc, List, [], ◌∷◌, length, slice_get, Option, Some, None, IfOk, IfSome, IfNone, MatchOption, Result, Ok, Err, refl, subst, arith}
use Rattle.blob_store.specs.declared.lying_store.LyingStore.{LyingStore}
use Rattle.nim_base.specs.Text.{Content as TextContent}
use Rattle.nim_base.specs.declared.no_memory.NoMemory.{NoMemory}
use Rattle.port.specs.Reply.{LatestReply}
use Rattle.reply_lines.specs.Lines.{no_reply_line}
use Rattle.statement.specs.Statement.{statement_bytes}
use Rattle.view_ledger.specs.Receipts.{Accepts}
use Rattle.view_ledger.specs.Views.{newest_tail}
use Rattle.client_pass.specs.ClientPass.{ClientPass}
use Rattle.coordinator.specs.State.{State}
use Rattle.client_acts.specs.ClientActs.{ClientActs}
use Rattle.endorser_cell.specs.CellBank.{CellBank}
use Rattle.script_operations.specs.Giving.{NoneReads}
use Rattle.script_operations.specs.Operations.{Operations, Begun, Progress, Closed, IsOpen, at_progress, with_begun}
use Rattle.script_operations.specs.Task.{Newest}
use Rattle.script_world.specs.Carried.{Forged, GivenReply, IsReading, NothingOffered, Offered, ReplyOffered}
use Rattle.script_world.specs.Running.{Running}
use Rattle.script_world.specs.Signed.{AreMarksBy, IsForged, IsOffered, all_signed, receipt_of}
use Rattle.script_world.proofs.Goes.{value}

pub stands_at : {X : Type 0} (xs : List X) (n : ℕ) → n < length xs → (x : X) × (slice_get xs n ≡ Some x)
stands_at [] n below = absurd omega (arith, below)
stands_at (x ∷ xs) zero below = (x, refl)
stands_at (x ∷ xs) (suc n) below = stands_at xs n (omega (arith, below))

-- an open read of a newest row has the name
abbrev pub Reading : Operations → List ℕ → ℕ → List ℕ → List ℕ → Type 0
Reading operations name client handle nonce =
    (place : ℕ) × (draw : ℕ) × (label : List ℕ) × (progress : Progress) × IsOpen operations name place (record { task = Newest client draw handle nonce; label = label; progress = progress })

module _ {S C : Type 0} (key : S → List ℕ) (left : S → ℕ) (accepts : C → Accepts) (checks : Accepts) (old new : Running (CellBank S C) C) (name : List ℕ) where
  is_reading : (client : ℕ) (handle nonce : List ℕ) → Reading old.operations name client handle nonce → IsReading key left accepts checks old new name client handle nonce
  is_reading client handle nonce (place, draw, label, progress, found) = record { place = place; draw = draw; label = label; progress = progress; found = found }

  -- what the call that gives the reply makes of it
  abbrev pub Told : LatestReply → Result (Option TextContent) NoMemory → Type 0
  Told reply result = IfOk result (λ line. MatchOption line (NoneReads old.operations name × (new ≡ old)) (λ line. GivenReply key left accepts checks old new name reply line.bytes))

  offered_now : (client : ℕ) (handle nonce ids : List ℕ) (reply : LatestReply) (result : Result (Option TextContent) NoMemory)
      → Reading old.operations name client handle nonce → IsOffered old.state.store handle (all_signed handle nonce old.state.link.cells ids) reply → Told reply result
      → IfOk result (λ line. MatchOption line (NoneReads old.operations name × (new ≡ old)) (λ line. Offered key left accepts checks old new name ids line.bytes))
  offered_now client handle nonce ids reply (Err fault) reading made told = tt
  offered_now client handle nonce ids reply (Ok None) reading made told = told
  offered_now client handle nonce ids reply (Ok (Some line)) reading made told =
      let given : ReplyOffered key left accepts checks old new name handle nonce ids line.bytes = record { reply = reply; offered = made; given = told } in
      record { client = client; handle = handle; nonce = nonce; reading = is_reading client handle nonce reading; told = inr given }

  forged_now : (signs : S → List ℕ → List ℕ → S → Type 0) (count : ℕ) (signers : List (ℕ × S)) (client : ℕ) (handle nonce : List ℕ) (pass : ClientPass C) (reply : LatestReply) (result : Result (Option TextContent) NoMemory)
      → Reading old.operations name client handle nonce → slice_get old.clients client ≡ Some pass
      → IsForged old.state.store (newest_tail pass.chain.configs) handle nonce count reply
      → AreMarksBy left signs (statement_bytes reply.receipt.statement) signers reply.receipt.marks → Told reply result
      → IfOk result (λ line. MatchOption line (NoneReads old.operations name × (new ≡ old)) (λ line. Forged key left accepts checks old new name signs count signers line.bytes))
  forged_now signs count signers client handle nonce pass reply (Err fault) reading stood made marks told = tt
  forged_now signs count signers client handle nonce pass reply (Ok None) reading stood made marks told = told
  forged_now signs count signers client handle nonce pass reply (Ok (Some line)) reading stood made marks told = record {
    client = client;
    handle = handle;
    nonce = nonce;
    reading = is_reading client handle nonce reading;
    pass = pass;
    stood = stood;
    reply = reply;
    forged = made;
    marks = marks;
    given = told;
  }

module _ {S C : Type 0} (key : S → List ℕ) (left : S → ℕ) (accepts : C → Accepts) (checks : Accepts) (old new : Running (CellBank S C) C)
    (state : State LyingStore (CellBank S C) C) (acts : ClientActs C) (operations : Operations) (ledgers : List (List ℕ × List ℕ)) (draws : ℕ) (view : value state acts operations ledgers draws ≡ old) (name : List ℕ) where
  pub offered : (client : ℕ) (handle nonce ids : List ℕ) (made : Option LatestReply) (reply : LatestReply) (result : Result (Option TextContent) NoMemory)
      → Reading operations name client handle nonce → IfSome made (IsOffered state.store handle (all_signed handle nonce state.link.cells ids)) → made ≡ Some reply
      → Told key left accepts checks old new name reply result
      → IfOk result (λ line. MatchOption line (NoneReads old.operations name × (new ≡ old)) (λ line. Offered key left accepts checks old new name ids line.bytes))
  offered client handle nonce ids made reply result reading are is told =
      let one : IsOffered state.store handle (all_signed handle nonce state.link.cells ids) reply =
      subst (λ (made : Option LatestReply). IfSome made (IsOffered state.store handle (all_signed handle nonce state.link.cells ids))) is are in
      offered_now key left accepts checks old new name client handle nonce ids reply result
      (subst (λ (running : Running (CellBank S C) C). Reading running.operations name client handle nonce) view reading)
      (subst (λ (running : Running (CellBank S C) C). IsOffered running.state.store handle (all_signed handle nonce running.state.link.cells ids) reply) view one) told

  pub forged : (signs : S → List ℕ → List ℕ → S → Type 0) (count : ℕ) (signers : List (ℕ × S)) (client : ℕ) (store : LyingStore) (tail handle nonce : List ℕ) (pass : ClientPass C) (reply : LatestReply) (result : Result (Option TextContent) NoMemory)
      → Reading operations name client handle nonce → slice_get acts.clients client ≡ Some pass → store ≡ state.store → tail ≡ newest_tail pass.chain.configs
      → IsForged store tail handle nonce count reply
      → AreMarksBy left signs (statement_bytes reply.receipt.statement) signers reply.receipt.marks
      → Told key left accepts checks old new name reply result
      → IfOk result (λ line. MatchOption line (NoneReads old.operations name × (new ≡ old)) (λ line. Forged key left accepts checks old new name signs count signers line.bytes))
  forged signs count signers client store tail handle nonce pass reply result reading stood held newest made marks told =
      let by_view : IsForged state.store (newest_tail pass.chain.configs) handle nonce count reply =
      subst (λ (tail : List ℕ). IsForged state.store tail handle nonce count reply) newest (subst (λ (store : LyingStore). IsForged store tail handle nonce count reply) held made) in
      forged_now key left accepts checks old new name signs count signers client handle nonce pass reply result
      (subst (λ (running : Running (CellBank S C) C). Reading running.operations name client handle nonce) view reading)
      (subst (λ (running : Running (CellBank S C) C). slice_get running.clients client ≡ Some pass) view stood)
      (subst (λ (running : Running (CellBank S C) C). IsForged running.state.store (newest_tail pass.chain.configs) handle nonce count reply) view by_view) marks told

module _ {S C : Type 0} (key : S → List ℕ) (left : S → ℕ) (accepts : C → Accepts) (checks : Accepts) (old : Running (CellBank S C) C)
    (state : State LyingStore (CellBank S C) C) (acts : ClientActs C) (operations : Operations) (ledgers : List (List ℕ × List ℕ)) (draws : ℕ) (view : value state acts operations ledgers draws ≡ old) (name : List ℕ) where
  -- none of the endorsers signed
  pub nothing : (after : Operations) (client : ℕ) (handle nonce ids line : List ℕ) (made : Option LatestReply) → Reading operations name client handle nonce
      → IfNone made (receipt_of (all_signed handle nonce state.link.cells ids) ≡ None) → made ≡ None → line ≡ no_reply_line
      → ((place : ℕ) (begun : Begun) → IsOpen operations name place begun → after ≡ with_begun operations place (at_progress begun Closed))
      → Offered key left accepts checks old (value state acts after ledgers draws) name ids line
  nothing after client handle nonce ids line made reading are is printed closed =
      let none : receipt_of (all_signed handle nonce state.link.cells ids) ≡ None =
      subst (λ (made : Option LatestReply). IfNone made (receipt_of (all_signed handle nonce state.link.cells ids) ≡ None)) is are in
      let was : Running (CellBank S C) C = value state acts operations ledgers draws in
      let new : Running (CellBank S C) C = value state acts after ledgers draws in
      let told : NothingOffered key left accepts checks was new name handle nonce ids line = record { none = none; printed = printed; rest = refl; closed = closed } in
      let whole : Offered key left accepts checks was new name ids line =
      record { client = client; handle = handle; nonce = nonce; reading = is_reading key left accepts checks was new name client handle nonce reading; told = inl told } in
      subst (λ (old : Running (CellBank S C) C). Offered key left accepts checks old new name ids line) view whole
