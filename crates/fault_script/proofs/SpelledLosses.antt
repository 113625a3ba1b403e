-- A line that was read is written with its own words: of losses.
use Rattle.std.proofs.Common.{◌≡◌, ℕ, List, [], ◌∷◌, length, Ok, lit<}
use Rattle.std.specs.Prelude.{codes}
use Rattle.fault_script.specs.declared.form.LossForm.{LossForm}
use Rattle.fault_script.specs.declared.form.LossForm.TheVariants as losses
use Rattle.fault_script.specs.Command.{Command, LoseRequest, LoseReply}
use Rattle.fault_script.specs.Words.{word_at}
use Rattle.fault_script.specs.Reading.{loss_command_in, id_in, times_in}
use Rattle.fault_script.proofs.Arity.{four}
use Rattle.fault_script.proofs.Heads.{loss_name}
use Rattle.fault_script.proofs.Spelled.{number_spelled}
use Rattle.fault_script.proofs.SpelledForms.{IsWritten, after_two, two_words, made}
use Rattle.fault_script.proofs.Steps.{bind_ok}

pub loss_written : (form : LossForm) (words : List (List ℕ)) (command : Command) → length words ≡ 4 → word_at words 0 ≡ codes "lose" → word_at words 1 ≡ loss_name form → loss_command_in form words ≡ Ok command → IsWritten words command
unfolding loss_command_in
loss_written losses.Request words command size first second h =
    let id = bind_ok (id_in (word_at words 2)) _ command h in
    let n = bind_ok (times_in (word_at words 3)) _ command id.2 in
    let e0 = number_spelled 1 64 (word_at words 2) id.0 (lit< tt) id.1 in
    let e1 = number_spelled 1 1000 (word_at words 3) n.0 (lit< tt) n.1 in
    made words (LoseRequest id.0 n.0) command n.2 (after_two (LoseRequest id.0 n.0) words (word_at words 0) (word_at words 1) (word_at words 2 ∷ word_at words 3 ∷ []) (four words size) (two_words words (codes "lose") (codes "request") first second) cc)
loss_written losses.Reply words command size first second h =
    let id = bind_ok (id_in (word_at words 2)) _ command h in
    let n = bind_ok (times_in (word_at words 3)) _ command id.2 in
    let e0 = number_spelled 1 64 (word_at words 2) id.0 (lit< tt) id.1 in
    let e1 = number_spelled 1 1000 (word_at words 3) n.0 (lit< tt) n.1 in
    made words (LoseReply id.0 n.0) command n.2 (after_two (LoseReply id.0 n.0) words (word_at words 0) (word_at words 1) (word_at words 2 ∷ word_at words 3 ∷ []) (four words size) (two_words words (codes "lose") (codes "reply") first second) cc)
