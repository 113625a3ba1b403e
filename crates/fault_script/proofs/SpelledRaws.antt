-- A line that was read is written with its own words: to an endorser.
use Rattle.std.proofs.Common.{◌≡◌, ℕ, List, [], ◌∷◌, length, Ok, lit<}
use Rattle.std.specs.Prelude.{codes}
use Rattle.fault_script.specs.declared.form.RawForm.{RawForm}
use Rattle.fault_script.specs.declared.form.RawForm.TheVariants as raws
use Rattle.fault_script.specs.Command.{Command, RawAppend, RawLatest, RawShow, RawFinalize}
use Rattle.fault_script.specs.Words.{word_at, name_in, payload_in, ids_in}
use Rattle.fault_script.specs.Reading.{raw_command_in, id_in, later_height_in, nonce_in}
use Rattle.fault_script.specs.Form.{raw_word_count}
use Rattle.fault_script.proofs.Arity.{four, five, seven}
use Rattle.fault_script.proofs.Heads.{raw_name}
use Rattle.fault_script.proofs.Spelled.{name_spelled, payload_spelled, ids_spelled, number_spelled}
use Rattle.fault_script.proofs.SpelledForms.{IsWritten, after_two, two_words, made}
use Rattle.fault_script.proofs.Steps.{bind_ok}

pub raw_written : (form : RawForm) (words : List (List ℕ)) (command : Command) → length words ≡ raw_word_count form → word_at words 0 ≡ codes "raw" → word_at words 1 ≡ raw_name form → raw_command_in form words ≡ Ok command → IsWritten words command
unfolding raw_command_in
raw_written raws.Append words command size first second h =
    let id = bind_ok (id_in (word_at words 2)) _ command h in
    let label = bind_ok (name_in (word_at words 3)) _ command id.2 in
    let height = bind_ok (later_height_in (word_at words 4)) _ command label.2 in
    let payload = bind_ok (payload_in (word_at words 5)) _ command height.2 in
    let nonce = bind_ok (nonce_in (word_at words 6)) _ command payload.2 in
    let e0 = number_spelled 1 64 (word_at words 2) id.0 (lit< tt) id.1 in
    let e1 = name_spelled (word_at words 3) label.0 label.1 in
    let e2 = number_spelled 1 4294967295 (word_at words 4) height.0 (lit< tt) height.1 in
    let e3 = payload_spelled (word_at words 5) payload.0 payload.1 in
    let e4 = number_spelled 0 4294967295 (word_at words 6) nonce.0 (lit< tt) nonce.1 in
    made words (RawAppend id.0 label.0 height.0 payload.0 nonce.0) command nonce.2 (after_two (RawAppend id.0 label.0 height.0 payload.0 nonce.0) words (word_at words 0) (word_at words 1) (word_at words 2 ∷ word_at words 3 ∷ word_at words 4 ∷ word_at words 5 ∷ word_at words 6 ∷ []) (seven words size) (two_words words (codes "raw") (codes "append") first second) cc)
raw_written raws.Latest words command size first second h =
    let id = bind_ok (id_in (word_at words 2)) _ command h in
    let label = bind_ok (name_in (word_at words 3)) _ command id.2 in
    let nonce = bind_ok (nonce_in (word_at words 4)) _ command label.2 in
    let e0 = number_spelled 1 64 (word_at words 2) id.0 (lit< tt) id.1 in
    let e1 = name_spelled (word_at words 3) label.0 label.1 in
    let e2 = number_spelled 0 4294967295 (word_at words 4) nonce.0 (lit< tt) nonce.1 in
    made words (RawLatest id.0 label.0 nonce.0) command nonce.2 (after_two (RawLatest id.0 label.0 nonce.0) words (word_at words 0) (word_at words 1) (word_at words 2 ∷ word_at words 3 ∷ word_at words 4 ∷ []) (five words size) (two_words words (codes "raw") (codes "latest") first second) cc)
raw_written raws.Show words command size first second h =
    let id = bind_ok (id_in (word_at words 2)) _ command h in
    let label = bind_ok (name_in (word_at words 3)) _ command id.2 in
    let e0 = number_spelled 1 64 (word_at words 2) id.0 (lit< tt) id.1 in
    let e1 = name_spelled (word_at words 3) label.0 label.1 in
    made words (RawShow id.0 label.0) command label.2 (after_two (RawShow id.0 label.0) words (word_at words 0) (word_at words 1) (word_at words 2 ∷ word_at words 3 ∷ []) (four words size) (two_words words (codes "raw") (codes "show") first second) cc)
raw_written raws.Finalize words command size first second h =
    let id = bind_ok (id_in (word_at words 2)) _ command h in
    let ids = bind_ok (ids_in (word_at words 3)) _ command id.2 in
    let e0 = number_spelled 1 64 (word_at words 2) id.0 (lit< tt) id.1 in
    let e1 = ids_spelled (word_at words 3) ids.0 ids.1 in
    made words (RawFinalize id.0 ids.0) command ids.2 (after_two (RawFinalize id.0 ids.0) words (word_at words 0) (word_at words 1) (word_at words 2 ∷ word_at words 3 ∷ []) (four words size) (two_words words (codes "raw") (codes "finalize") first second) cc)
