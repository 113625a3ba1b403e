-- A line that was read is written with its own words: of an operation.
use Rattle.std.proofs.Common.{◌≡◌, sym, ℕ, List, [], ◌∷◌, length, Ok, lit<}
use Rattle.fault_script.specs.declared.form.OpForm.{OpForm}
use Rattle.fault_script.specs.declared.form.OpForm.TheVariants as ops
use Rattle.fault_script.specs.Command.{Command, Step, Finish, Retry, Offer, Forge}
use Rattle.fault_script.specs.Words.{word_at, name_in, ids_in}
use Rattle.fault_script.specs.Reading.{op_command_in, times_in, count_in}
use Rattle.fault_script.specs.Form.{op_word_count}
use Rattle.fault_script.proofs.Arity.{two, three, four}
use Rattle.fault_script.proofs.Heads.{op_name}
use Rattle.fault_script.proofs.Spelled.{name_spelled, ids_spelled, number_spelled}
use Rattle.fault_script.proofs.SpelledForms.{IsWritten, after_one, made}
use Rattle.fault_script.proofs.Steps.{bind_ok}

pub op_written : (form : OpForm) (words : List (List ℕ)) (command : Command) → length words ≡ op_word_count form → word_at words 0 ≡ op_name form → op_command_in form words ≡ Ok command → IsWritten words command
unfolding op_command_in
op_written ops.Step words command size first h =
    let op = bind_ok (name_in (word_at words 1)) _ command h in
    let n = bind_ok (times_in (word_at words 2)) _ command op.2 in
    let e0 = name_spelled (word_at words 1) op.0 op.1 in
    let e1 = number_spelled 1 1000 (word_at words 2) n.0 (lit< tt) n.1 in
    made words (Step op.0 n.0) command n.2 (after_one (Step op.0 n.0) words (word_at words 0) (word_at words 1 ∷ word_at words 2 ∷ []) (three words size) (sym first) cc)
op_written ops.Finish words command size first h =
    let op = bind_ok (name_in (word_at words 1)) _ command h in
    let e0 = name_spelled (word_at words 1) op.0 op.1 in
    made words (Finish op.0) command op.2 (after_one (Finish op.0) words (word_at words 0) (word_at words 1 ∷ []) (two words size) (sym first) cc)
op_written ops.Retry words command size first h =
    let op = bind_ok (name_in (word_at words 1)) _ command h in
    let e0 = name_spelled (word_at words 1) op.0 op.1 in
    made words (Retry op.0) command op.2 (after_one (Retry op.0) words (word_at words 0) (word_at words 1 ∷ []) (two words size) (sym first) cc)
op_written ops.Offer words command size first h =
    let op = bind_ok (name_in (word_at words 1)) _ command h in
    let ids = bind_ok (ids_in (word_at words 2)) _ command op.2 in
    let e0 = name_spelled (word_at words 1) op.0 op.1 in
    let e1 = ids_spelled (word_at words 2) ids.0 ids.1 in
    made words (Offer op.0 ids.0) command ids.2 (after_one (Offer op.0 ids.0) words (word_at words 0) (word_at words 1 ∷ word_at words 2 ∷ []) (three words size) (sym first) cc)
op_written ops.Forge words command size first h =
    let op = bind_ok (name_in (word_at words 1)) _ command h in
    let count = bind_ok (count_in (word_at words 2)) _ command op.2 in
    let ids = bind_ok (ids_in (word_at words 3)) _ command count.2 in
    let e0 = name_spelled (word_at words 1) op.0 op.1 in
    let e1 = number_spelled 0 4294967296 (word_at words 2) count.0 (lit< tt) count.1 in
    let e2 = ids_spelled (word_at words 3) ids.0 ids.1 in
    made words (Forge op.0 count.0 ids.0) command ids.2 (after_one (Forge op.0 count.0 ids.0) words (word_at words 0) (word_at words 1 ∷ word_at words 2 ∷ word_at words 3 ∷ []) (four words size) (sym first) cc)
