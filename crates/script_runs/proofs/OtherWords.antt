-- Lines that say something else than that a reply was refused.
use Rattle.std.proofs.Common.{◌≡◌, ◌≢◌, ℕ, Bool, true, false, ◌==◌, List, codes, get_or, true≢false, Some, None, Option, refl, sym, ap, ◌∙◌}
use Rattle.port.specs.Cause.{BadRow, Cause, Conflict, Contended, Full, Gap, NoMemory, NoQuorum, Reused, StoreFault, TooFar, ViewMoved}
use Rattle.port.specs.declared.key.Key.TheVariants as keys
use Rattle.port.specs.Row.{Content}
use Rattle.verifier.specs.declared.reply_fault.ReplyFault.{ReplyFault}
use Rattle.reply_lines.specs.Causes.{refusal_line}
use Rattle.reply_lines.specs.Lines.{bad_reply_line, line}
use Rattle.answer_lines.specs.Taken.{newest_line}

-- the first byte is b, and the fifth one is e
abbrev first_is_b : List ℕ → Bool
first_is_b bytes = get_or bytes 0 0 == 98

abbrev fifth_is_e : List ℕ → Bool
fifth_is_e bytes = get_or bytes 4 0 == 101

apart_by : (test : List ℕ → Bool) (one other : List ℕ) → test one ≡ false → test other ≡ true → one ≢ other
apart_by test one other fails passes is = true≢false (sym passes ∙ ap test (sym is) ∙ fails)

module _ (fault : ReplyFault) (words : List (List ℕ)) where
  pub other_ok : line (codes "ok") words ≢ bad_reply_line fault
  other_ok = apart_by first_is_b _ (bad_reply_line fault) refl refl

  pub other_conflict : line (codes "conflict") words ≢ bad_reply_line fault
  other_conflict = apart_by first_is_b _ (bad_reply_line fault) refl refl

  pub other_absent : line (codes "absent") words ≢ bad_reply_line fault
  other_absent = apart_by first_is_b _ (bad_reply_line fault) refl refl

  pub other_done : line (codes "done") words ≢ bad_reply_line fault
  other_done = apart_by first_is_b _ (bad_reply_line fault) refl refl

  pub other_view : line (codes "view") words ≢ bad_reply_line fault
  other_view = apart_by first_is_b _ (bad_reply_line fault) refl refl

  pub other_raw : line (codes "raw") words ≢ bad_reply_line fault
  other_raw = apart_by first_is_b _ (bad_reply_line fault) refl refl

pub other_newest : (fault : ReplyFault) (label : List ℕ) (row : Option Content) → newest_line label row ≢ bad_reply_line fault
other_newest fault label None = apart_by first_is_b _ (bad_reply_line fault) refl refl
other_newest fault label (Some row) = apart_by first_is_b _ (bad_reply_line fault) refl refl

-- a refusal is printed otherwise
pub other_refusal : (fault : ReplyFault) (label : List ℕ) (cause : Cause) → refusal_line label cause ≢ bad_reply_line fault
other_refusal fault label (Conflict standing) = apart_by first_is_b _ (bad_reply_line fault) refl refl
other_refusal fault label (Gap handle missing) = apart_by first_is_b _ (bad_reply_line fault) refl refl
other_refusal fault label (NoQuorum need reasons) = apart_by first_is_b _ (bad_reply_line fault) refl refl
other_refusal fault label (ViewMoved from id statement sig) = apart_by first_is_b _ (bad_reply_line fault) refl refl
other_refusal fault label StoreFault = apart_by first_is_b _ (bad_reply_line fault) refl refl
other_refusal fault label (BadRow (keys.Row handle height) bytes) = apart_by fifth_is_e _ (bad_reply_line fault) refl refl
other_refusal fault label (BadRow (keys.View number) bytes) = apart_by fifth_is_e _ (bad_reply_line fault) refl refl
other_refusal fault label (BadRow (keys.Finals number) bytes) = apart_by fifth_is_e _ (bad_reply_line fault) refl refl
other_refusal fault label (Contended member first later) = apart_by first_is_b _ (bad_reply_line fault) refl refl
other_refusal fault label (Full member) = apart_by first_is_b _ (bad_reply_line fault) refl refl
other_refusal fault label (TooFar needed) = apart_by first_is_b _ (bad_reply_line fault) refl refl
other_refusal fault label (Reused id) = apart_by first_is_b _ (bad_reply_line fault) refl refl
other_refusal fault label NoMemory = apart_by first_is_b _ (bad_reply_line fault) refl refl
