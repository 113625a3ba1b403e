-- A line that was read is written with its own words: of the store.
use Rattle.std.proofs.Common.{◌≡◌, refl, ℕ, List, [], ◌∷◌, length, Ok, lit<}
use Rattle.std.specs.Prelude.{codes}
use Rattle.fault_script.specs.declared.form.StoreForm.{StoreForm}
use Rattle.fault_script.specs.declared.form.StoreForm.TheVariants as stores
use Rattle.fault_script.specs.Command.{Command, StoreFail, StoreHide, StoreStale, StoreFork, StoreHonest}
use Rattle.fault_script.specs.Words.{word_at, name_in}
use Rattle.fault_script.specs.Reading.{store_command_in, times_in, height_in}
use Rattle.fault_script.specs.Form.{store_word_count}
use Rattle.fault_script.proofs.Arity.{two, three, four, five}
use Rattle.fault_script.proofs.Heads.{store_name}
use Rattle.fault_script.proofs.Spelled.{name_spelled, number_spelled}
use Rattle.fault_script.proofs.SpelledForms.{IsWritten, after_two, two_words, made}
use Rattle.fault_script.proofs.Steps.{bind_ok}

pub store_written : (form : StoreForm) (words : List (List ℕ)) (command : Command) → length words ≡ store_word_count form → word_at words 0 ≡ codes "store" → word_at words 1 ≡ store_name form → store_command_in form words ≡ Ok command → IsWritten words command
unfolding store_command_in
store_written stores.Fail words command size first second h =
    let n = bind_ok (times_in (word_at words 2)) _ command h in
    let e0 = number_spelled 1 1000 (word_at words 2) n.0 (lit< tt) n.1 in
    made words (StoreFail n.0) command n.2 (after_two (StoreFail n.0) words (word_at words 0) (word_at words 1) (word_at words 2 ∷ []) (three words size) (two_words words (codes "store") (codes "fail") first second) cc)
store_written stores.Hide words command size first second h =
    let label = bind_ok (name_in (word_at words 2)) _ command h in
    let height = bind_ok (height_in (word_at words 3)) _ command label.2 in
    let e0 = name_spelled (word_at words 2) label.0 label.1 in
    let e1 = number_spelled 0 4294967295 (word_at words 3) height.0 (lit< tt) height.1 in
    made words (StoreHide label.0 height.0) command height.2 (after_two (StoreHide label.0 height.0) words (word_at words 0) (word_at words 1) (word_at words 2 ∷ word_at words 3 ∷ []) (four words size) (two_words words (codes "store") (codes "hide") first second) cc)
store_written stores.Stale words command size first second h =
    let label = bind_ok (name_in (word_at words 2)) _ command h in
    let height = bind_ok (height_in (word_at words 3)) _ command label.2 in
    let from = bind_ok (height_in (word_at words 4)) _ command height.2 in
    let e0 = name_spelled (word_at words 2) label.0 label.1 in
    let e1 = number_spelled 0 4294967295 (word_at words 3) height.0 (lit< tt) height.1 in
    let e2 = number_spelled 0 4294967295 (word_at words 4) from.0 (lit< tt) from.1 in
    made words (StoreStale label.0 height.0 from.0) command from.2 (after_two (StoreStale label.0 height.0 from.0) words (word_at words 0) (word_at words 1) (word_at words 2 ∷ word_at words 3 ∷ word_at words 4 ∷ []) (five words size) (two_words words (codes "store") (codes "stale") first second) cc)
store_written stores.Fork words command size first second h =
    let label = bind_ok (name_in (word_at words 2)) _ command h in
    let height = bind_ok (height_in (word_at words 3)) _ command label.2 in
    let e0 = name_spelled (word_at words 2) label.0 label.1 in
    let e1 = number_spelled 0 4294967295 (word_at words 3) height.0 (lit< tt) height.1 in
    made words (StoreFork label.0 height.0) command height.2 (after_two (StoreFork label.0 height.0) words (word_at words 0) (word_at words 1) (word_at words 2 ∷ word_at words 3 ∷ []) (four words size) (two_words words (codes "store") (codes "fork") first second) cc)
store_written stores.Honest words command size first second h =
    made words StoreHonest command h (after_two StoreHonest words (word_at words 0) (word_at words 1) ([]) (two words size) (two_words words (codes "store") (codes "honest") first second) refl)
