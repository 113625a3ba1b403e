-- A client that was given a refusal: it does nothing.
use Rattle.std.proofs.Common.{◌≡◌, ℕ, List, Some, None, Result, Ok, Err, IfOk, refl, ap}
use Rattle.chain_block.specs.declared.entry.Entry.{Entry}
use Rattle.port.specs.Cause.{Cause, Conflict, Gap, NoQuorum, ViewMoved, StoreFault, BadRow, Contended, Full, TooFar, Reused, NoMemory}
use Rattle.port.specs.Reply.{Standing}
use Rattle.port.specs.Service.{Refused}
use Rattle.view_ledger.specs.Receipts.{Accepts}
use Rattle.client_pass.specs.ClientPass.{ClientPass}
use Rattle.coordinator.specs.State.{State}
use Rattle.reply_lines.specs.Causes.{refusal_line}
use Rattle.client_acts.specs.ClientActs.{ClientActs, Acts}
use Rattle.answer_lines.specs.Taken.{IsQuiet, Printed, Sides, TookOwn}
use Rattle.answer_lines.specs.Giving.{Gave, conflict_in}

pub is_conflict : (cause : Cause) (standing : Standing) → conflict_in cause ≡ Some standing → cause ≡ Conflict standing
is_conflict (Conflict stands) standing is =
    let same : stands ≡ standing = cc is in
    ap (λ (s : Standing). Conflict s) same
is_conflict (Gap handle missing) standing is = absurd cc is
is_conflict (NoQuorum need reasons) standing is = absurd cc is
is_conflict (ViewMoved from id statement sig) standing is = absurd cc is
is_conflict StoreFault standing is = absurd cc is
is_conflict (BadRow key bytes) standing is = absurd cc is
is_conflict (Contended member first later) standing is = absurd cc is
is_conflict (Full member) standing is = absurd cc is
is_conflict (TooFar needed) standing is = absurd cc is
is_conflict (Reused id) standing is = absurd cc is
is_conflict NoMemory standing is = absurd cc is

module _ {S L C : Type 0} (sides : Sides S L C) (label text : List ℕ) where
  pub printed : (cause : Cause) → IsQuiet sides → sides.to ≡ sides.from → (cause ≡ NoMemory → ⊥) → text ≡ refusal_line label cause → Printed sides label cause text
  printed (Conflict standing) quiet same some line = (quiet, line, same)
  printed (Gap handle missing) quiet same some line = (quiet, line, same)
  printed (NoQuorum need reasons) quiet same some line = (quiet, line, same)
  printed (ViewMoved from id statement sig) quiet same some line = (quiet, line, same)
  printed StoreFault quiet same some line = (quiet, line, same)
  printed (BadRow key bytes) quiet same some line = (quiet, line, same)
  printed (Contended member first later) quiet same some line = (quiet, line, same)
  printed (Full member) quiet same some line = (quiet, line, same)
  printed (TooFar needed) quiet same some line = (quiet, line, same)
  printed (Reused id) quiet same some line = (quiet, line, same)
  printed NoMemory quiet same some line = some refl

  -- at a conflict the client looks
  pub printed_own : (accepts : Accepts) (entry : Entry) (cause : Cause) → conflict_in cause ≡ None
      → Printed sides label cause text → TookOwn accepts sides label entry (Refused cause) text
  printed_own accepts entry (Conflict standing) other line = absurd cc other
  printed_own accepts entry (Gap handle missing) other line = line
  printed_own accepts entry (NoQuorum need reasons) other line = line
  printed_own accepts entry (ViewMoved from id statement sig) other line = line
  printed_own accepts entry StoreFault other line = line
  printed_own accepts entry (BadRow key bytes) other line = line
  printed_own accepts entry (Contended member first later) other line = line
  printed_own accepts entry (Full member) other line = line
  printed_own accepts entry (TooFar needed) other line = line
  printed_own accepts entry (Reused id) other line = line
  printed_own accepts entry NoMemory other line = line

module _ {S L C : Type 0} (acts : ClientActs C) (place : ℕ) (from : ClientPass C) (state : State S L C) (label : List ℕ) (cause : Cause) where
  pub gave_refusal : {T E : Type 0} (line : Result T E) (bytes : T → List ℕ) (P : Sides S L C → List ℕ → Type 0) → Acts acts acts place from from
      → ((sides : Sides S L C) (text : List ℕ) → Printed sides label cause text → P sides text)
      → IfOk line (λ l. bytes l ≡ refusal_line label cause) → IfOk line (λ l. cause ≡ NoMemory → ⊥)
      → IfOk line (λ l. Gave acts acts place state state (λ sides. P sides (bytes l)))
  gave_refusal (Err fault) bytes P idle says line some = tt
  gave_refusal (Ok l) bytes P idle says line some =
      let sides : Sides S L C = record { from = from; to = from; before = state; after = state } in
      (from, from, idle, says sides (bytes l) (printed sides label (bytes l) cause (refl, refl) refl some line))
