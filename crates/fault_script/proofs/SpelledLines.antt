-- A line that was read is written as it stood.
use Rattle.std.proofs.Common.{◌≡◌, refl, sym, ap, ◌∙◌, Bool, cond, ℕ, ◌+◌, List, [], ◌∷◌, length, Option, Some, None, Ok, Err, eqb}
use Rattle.std.specs.Option.{ok_or}
use Rattle.std.specs.List.{list_all}
use Rattle.std.proofs.lemmas.Bool.{eqb-true}
use Rattle.std.proofs.lemmas.List.Splits.{join_with_byte-slice_split}
use Rattle.fault_script.specs.declared.bad_cause.BadCause.{BadCause}
use Rattle.fault_script.specs.declared.bad_cause.BadCause.TheVariants as causes
use Rattle.fault_script.specs.declared.form.ActForm.{ActForm}
use Rattle.fault_script.specs.declared.form.ActForm.TheVariants as acts
use Rattle.fault_script.specs.declared.form.Form.{Form}
use Rattle.fault_script.specs.declared.form.Form.TheVariants as forms
use Rattle.fault_script.specs.Command.{Command, Genesis, Plain, Restart, Begin, End}
use Rattle.fault_script.specs.Words.{words, word_at, name_in, ids_in}
use Rattle.fault_script.specs.Reading.{request_in, command_in}
use Rattle.fault_script.specs.Form.{act_word_count, word_count, form_of}
use Rattle.fault_script.specs.Line.{is_text_byte, is_out_of_order, command_of_words, command_of_line, command_after, has_ended, fault_after, unless}
use Rattle.fault_script.specs.Spelling.{act_word, act_values, line_text}
use Rattle.fault_script.proofs.Arity.{one, two, three, four, five, six, seven}
use Rattle.fault_script.proofs.Heads.{Begins, form_begins}
use Rattle.fault_script.proofs.Spelled.{name_spelled, ids_spelled}
use Rattle.fault_script.proofs.SpelledActs.{behind, act_spelled}
use Rattle.fault_script.proofs.SpelledForms.{IsWritten, after_one, made}
use Rattle.fault_script.proofs.SpelledOps.{op_written}
use Rattle.fault_script.proofs.SpelledLosses.{loss_written}
use Rattle.fault_script.proofs.SpelledStores.{store_written}
use Rattle.fault_script.proofs.SpelledRaws.{raw_written}
use Rattle.fault_script.proofs.Steps.{bind_ok, if_ok, if_not_ok, ok_or_some}

plain_words : (act : ActForm) (words : List (List ℕ)) → length words ≡ act_word_count act → words ≡ word_at words 0 ∷ behind act words 0
plain_words acts.New words size = four words size
plain_words acts.Append words size = five words size
plain_words acts.Latest words size = three words size
plain_words acts.At words size = four words size
plain_words acts.Reconfigure words size = two words size

begun_words : (act : ActForm) (words : List (List ℕ)) → length words ≡ 2 + act_word_count act → words ≡ word_at words 0 ∷ word_at words 1 ∷ word_at words 2 ∷ behind act words 2
begun_words acts.New words size = six words size
begun_words acts.Append words size = seven words size
begun_words acts.Latest words size = five words size
begun_words acts.At words size = six words size
begun_words acts.Reconfigure words size = four words size

form_written : (form : Form) (words : List (List ℕ)) (command : Command) → length words ≡ word_count form → Begins words form → command_in form words ≡ Ok command → IsWritten words command
unfolding command_in
form_written forms.Genesis words command size first h =
    let ids = bind_ok (ids_in (word_at words 1)) _ command h in
    let e = ids_spelled (word_at words 1) ids.0 ids.1 in
    made words (Genesis ids.0) command ids.2 (after_one (Genesis ids.0) words (word_at words 0) (word_at words 1 ∷ []) (two words size) (sym first) cc)
form_written (forms.Plain act) words command size first h =
    let request = bind_ok (request_in act words 0) _ command h in
    let e = act_spelled act words 0 request.0 request.1 in
    made words (Plain request.0) command request.2 (after_one (Plain request.0) words (word_at words 0) (behind act words 0) (plain_words act words size) (e.0 ∙ sym first) e.1)
form_written forms.Restart words command size first h =
    made words Restart command h (after_one Restart words (word_at words 0) [] (one words size) (sym first) refl)
form_written (forms.Begin act) words command size first h =
    let op = bind_ok (name_in (word_at words 1)) _ command h in
    let request = bind_ok (request_in act words 2) _ command op.2 in
    let n = name_spelled (word_at words 1) op.0 op.1 in
    let e = act_spelled act words 2 request.0 request.1 in
    let kind : act_word request.0 ≡ word_at words 2 = e.0 ∙ sym first.1 in
    let rest : act_values request.0 ≡ behind act words 2 = e.1 in
    made words (Begin op.0 request.0) command request.2
    (after_one (Begin op.0 request.0) words (word_at words 0) (word_at words 1 ∷ word_at words 2 ∷ behind act words 2) (begun_words act words size) (sym first.0) cc)
form_written (forms.Op op) words command size first h = op_written op words command size first h
form_written (forms.Lose loss) words command size first h = loss_written loss words command size first.0 first.1 h
form_written (forms.Store store) words command size first h = store_written store words command size first.0 first.1 h
form_written (forms.Raw raw) words command size first h = raw_written raw words command size first.0 first.1 h
form_written forms.End words command size first h =
    made words End command h (after_one End words (word_at words 0) [] (one words size) (sym first) refl)

words_written : (words : List (List ℕ)) (command : Command) → command_of_words words ≡ Ok command → IsWritten words command
unfolding command_of_words
words_written words command h =
    let form = bind_ok (ok_or (form_of words) causes.Word) _ command h in
    let read = if_ok (eqb (length words) (word_count form.0)) (command_in form.0 words) causes.Count command form.2 in
    form_written form.0 words command (eqb-true (length words) (word_count form.0) read.0) (form_begins words form.0 (ok_or_some (form_of words) causes.Word form.0 form.1)) read.1

alone_written : (first ended : Bool) (line : List ℕ) (command : Command) → command_of_line first ended line ≡ Ok command → line_text command ≡ line
unfolding command_of_line
alone_written first ended line command h =
    let text = if_ok (list_all is_text_byte line) (cond (is_out_of_order first ended (word_at (words line) 0)) (Err causes.Order) (command_of_words (words line))) causes.Char command h in
    let ordered = if_not_ok (is_out_of_order first ended (word_at (words line) 0)) (command_of_words (words line)) causes.Order command text.1 in
    words_written (words line) command ordered ∙ join_with_byte-slice_split 32 line

pub kept : (fault : Option BadCause) (one command : Command) → unless fault one ≡ Ok command → one ≡ command
kept None one command h = cc
kept (Some cause) one command h = cc

-- a line that is read after others is written as it stood
pub line_written : (earlier : List Command) (line : List ℕ) (command : Command) → command_after earlier line ≡ Ok command → line_text command ≡ line
unfolding command_after
line_written earlier line command h =
    let read = bind_ok (command_of_line (eqb (length earlier) 0) (has_ended earlier) line) _ command h in
    ap line_text (sym (kept (fault_after earlier read.0) read.0 command read.2)) ∙ alone_written (eqb (length earlier) 0) (has_ended earlier) line read.0 read.1
