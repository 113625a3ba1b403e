-- A command that was read keeps its limits.
use Rattle.std.proofs.Common.{◌≡◌, subst, Bool, cond, ℕ, ◌+◌, List, length, Result, Ok, Err, eqb, refl, sym, ap, ◌∙◌, true, false, not, ◌||◌, Option, Some, None}
use Rattle.std.specs.Prelude.{codes}
use Rattle.std.specs.Str.{bytes_eq}
use Rattle.std.specs.Option.{ok_or}
use Rattle.std.specs.List.{list_all}
use Rattle.fault_script.specs.declared.bad_cause.BadCause.{BadCause}
use Rattle.fault_script.specs.declared.bad_cause.BadCause.TheVariants as causes
use Rattle.fault_script.specs.declared.form.ActForm.{ActForm}
use Rattle.fault_script.specs.declared.form.ActForm.TheVariants as acts
use Rattle.fault_script.specs.declared.form.OpForm.{OpForm}
use Rattle.fault_script.specs.declared.form.OpForm.TheVariants as ops
use Rattle.fault_script.specs.declared.form.LossForm.{LossForm}
use Rattle.fault_script.specs.declared.form.LossForm.TheVariants as losses
use Rattle.fault_script.specs.declared.form.StoreForm.{StoreForm}
use Rattle.fault_script.specs.declared.form.StoreForm.TheVariants as stores
use Rattle.fault_script.specs.declared.form.RawForm.{RawForm}
use Rattle.fault_script.specs.declared.form.RawForm.TheVariants as raws
use Rattle.fault_script.specs.declared.form.Form.{Form}
use Rattle.fault_script.specs.declared.form.Form.TheVariants as forms
use Rattle.fault_script.specs.Command.{Request, New, Append, Latest, At, Reconfigure, Command, Genesis, Plain, Restart, Begin, Step, Finish, Retry, LoseRequest, LoseReply, StoreFail, StoreHide, StoreStale, StoreFork, StoreHonest, RawAppend, RawLatest, RawShow, RawFinalize, Offer, Forge, End}
use Rattle.fault_script.specs.Words.{words, word_at, name_in, ids_in, payload_in}
use Rattle.fault_script.specs.Form.{form_of, word_count}
use Rattle.fault_script.specs.Reading.{id_in, times_in, height_in, later_height_in, nonce_in, count_in, request_in, op_command_in, loss_command_in, store_command_in, raw_command_in, command_in}
use Rattle.fault_script.specs.Line.{is_text_byte, is_out_of_order, has_ended, command_of_words, command_of_line, command_after, fault_after, unless}
use Rattle.fault_script.specs.Labels.{is_used, makes_used_label}
use Rattle.fault_script.specs.Limits.{counts_of, is_served, is_too_many}
use Rattle.fault_script.specs.Operations.{misuses, standing}
use Rattle.fault_script.specs.Within.{IsRequestWithin, IsWithin, is_genesis, Fits}
use Rattle.fault_script.proofs.Heads.{act_name, op_name, Begins, form_begins}
use Rattle.fault_script.proofs.Served.{serves_act, serves, form_served}
use Rattle.fault_script.proofs.SpelledLines.{kept}
use Rattle.fault_script.proofs.Steps.{bind_ok, if_ok, if_not_ok, ok_or_some}
use Rattle.fault_script.proofs.WordLimits.{number_limits, payload_limits, ids_limits}

-- a request within its limits, of this form
abbrev IsAsked : ActForm → Request → Type 0
IsAsked form request = IsRequestWithin request × (is_served (Plain request) ≡ serves_act form)

asked : (form : ActForm) (one request : Request) → ◌≡◌ {A = Result Request BadCause} (Ok one) (Ok request) → IsAsked form one → IsAsked form request
asked form one request h within = let same : one ≡ request = cc in subst (IsAsked form) same within

abbrev begins_genesis : Form → Bool
begins_genesis forms.Genesis = true
begins_genesis (forms.Plain act) = false
begins_genesis forms.Restart = false
begins_genesis (forms.Begin act) = false
begins_genesis (forms.Op op) = false
begins_genesis (forms.Lose loss) = false
begins_genesis (forms.Store store) = false
begins_genesis (forms.Raw raw) = false
begins_genesis forms.End = false

-- a command within its limits, of this form
abbrev IsSaid : Form → Command → Type 0
IsSaid form command = IsWithin command × (is_genesis command ≡ begins_genesis form) × (is_served command ≡ serves form)

said : (form : Form) (one command : Command) → ◌≡◌ {A = Result Command BadCause} (Ok one) (Ok command) → IsSaid form one → IsSaid form command
said form one command h within = let same : one ≡ command = cc in subst (IsSaid form) same within

act_within : (form : ActForm) (words : List (List ℕ)) (at : ℕ) (request : Request) → request_in form words at ≡ Ok request → IsAsked form request
unfolding request_in
act_within acts.New words at request h =
    let client = bind_ok (name_in (word_at words (at + 1))) _ request h in
    let label = bind_ok (name_in (word_at words (at + 2))) _ request client.2 in
    let payload = bind_ok (payload_in (word_at words (at + 3))) _ request label.2 in
    asked acts.New (New client.0 label.0 payload.0) request payload.2 (payload_limits (word_at words (at + 3)) payload.0 payload.1, refl)
act_within acts.Append words at request h =
    let client = bind_ok (name_in (word_at words (at + 1))) _ request h in
    let label = bind_ok (name_in (word_at words (at + 2))) _ request client.2 in
    let height = bind_ok (later_height_in (word_at words (at + 3))) _ request label.2 in
    let payload = bind_ok (payload_in (word_at words (at + 4))) _ request height.2 in
    asked acts.Append (Append client.0 label.0 height.0 payload.0) request payload.2 ((number_limits 1 4294967295 (word_at words (at + 3)) height.0 height.1, payload_limits (word_at words (at + 4)) payload.0 payload.1), refl)
act_within acts.Latest words at request h =
    let client = bind_ok (name_in (word_at words (at + 1))) _ request h in
    let label = bind_ok (name_in (word_at words (at + 2))) _ request client.2 in
    asked acts.Latest (Latest client.0 label.0) request label.2 (tt, refl)
act_within acts.At words at request h =
    let client = bind_ok (name_in (word_at words (at + 1))) _ request h in
    let label = bind_ok (name_in (word_at words (at + 2))) _ request client.2 in
    let height = bind_ok (height_in (word_at words (at + 3))) _ request label.2 in
    asked acts.At (At client.0 label.0 height.0) request height.2 ((number_limits 0 4294967295 (word_at words (at + 3)) height.0 height.1).1, refl)
act_within acts.Reconfigure words at request h =
    let ids = bind_ok (ids_in (word_at words (at + 1))) _ request h in
    asked acts.Reconfigure (Reconfigure ids.0) request ids.2 (ids_limits (word_at words (at + 1)) ids.0 ids.1, refl)

op_within : (form : OpForm) (words : List (List ℕ)) (command : Command) → op_command_in form words ≡ Ok command → IsSaid (forms.Op form) command
unfolding op_command_in
op_within ops.Step words command h =
    let op = bind_ok (name_in (word_at words 1)) _ command h in
    let n = bind_ok (times_in (word_at words 2)) _ command op.2 in
    said (forms.Op ops.Step) (Step op.0 n.0) command n.2 ((number_limits 1 1000 (word_at words 2) n.0 n.1), refl, refl)
op_within ops.Finish words command h =
    let op = bind_ok (name_in (word_at words 1)) _ command h in
    said (forms.Op ops.Finish) (Finish op.0) command op.2 (tt, refl, refl)
op_within ops.Retry words command h =
    let op = bind_ok (name_in (word_at words 1)) _ command h in
    said (forms.Op ops.Retry) (Retry op.0) command op.2 (tt, refl, refl)
op_within ops.Offer words command h =
    let op = bind_ok (name_in (word_at words 1)) _ command h in
    let ids = bind_ok (ids_in (word_at words 2)) _ command op.2 in
    said (forms.Op ops.Offer) (Offer op.0 ids.0) command ids.2 ((ids_limits (word_at words 2) ids.0 ids.1), refl, refl)
op_within ops.Forge words command h =
    let op = bind_ok (name_in (word_at words 1)) _ command h in
    let count = bind_ok (count_in (word_at words 2)) _ command op.2 in
    let ids = bind_ok (ids_in (word_at words 3)) _ command count.2 in
    said (forms.Op ops.Forge) (Forge op.0 count.0 ids.0) command ids.2 (((number_limits 0 4294967296 (word_at words 2) count.0 count.1).1, ids_limits (word_at words 3) ids.0 ids.1), refl, refl)

loss_within : (form : LossForm) (words : List (List ℕ)) (command : Command) → loss_command_in form words ≡ Ok command → IsSaid (forms.Lose form) command
unfolding loss_command_in
loss_within losses.Request words command h =
    let id = bind_ok (id_in (word_at words 2)) _ command h in
    let n = bind_ok (times_in (word_at words 3)) _ command id.2 in
    said (forms.Lose losses.Request) (LoseRequest id.0 n.0) command n.2 ((number_limits 1 64 (word_at words 2) id.0 id.1, number_limits 1 1000 (word_at words 3) n.0 n.1), refl, refl)
loss_within losses.Reply words command h =
    let id = bind_ok (id_in (word_at words 2)) _ command h in
    let n = bind_ok (times_in (word_at words 3)) _ command id.2 in
    said (forms.Lose losses.Reply) (LoseReply id.0 n.0) command n.2 ((number_limits 1 64 (word_at words 2) id.0 id.1, number_limits 1 1000 (word_at words 3) n.0 n.1), refl, refl)

store_within : (form : StoreForm) (words : List (List ℕ)) (command : Command) → store_command_in form words ≡ Ok command → IsSaid (forms.Store form) command
unfolding store_command_in
store_within stores.Fail words command h =
    let n = bind_ok (times_in (word_at words 2)) _ command h in
    said (forms.Store stores.Fail) (StoreFail n.0) command n.2 ((number_limits 1 1000 (word_at words 2) n.0 n.1), refl, refl)
store_within stores.Hide words command h =
    let label = bind_ok (name_in (word_at words 2)) _ command h in
    let height = bind_ok (height_in (word_at words 3)) _ command label.2 in
    said (forms.Store stores.Hide) (StoreHide label.0 height.0) command height.2 ((number_limits 0 4294967295 (word_at words 3) height.0 height.1).1, refl, refl)
store_within stores.Stale words command h =
    let label = bind_ok (name_in (word_at words 2)) _ command h in
    let height = bind_ok (height_in (word_at words 3)) _ command label.2 in
    let from = bind_ok (height_in (word_at words 4)) _ command height.2 in
    said (forms.Store stores.Stale) (StoreStale label.0 height.0 from.0) command from.2 (((number_limits 0 4294967295 (word_at words 3) height.0 height.1).1, (number_limits 0 4294967295 (word_at words 4) from.0 from.1).1), refl, refl)
store_within stores.Fork words command h =
    let label = bind_ok (name_in (word_at words 2)) _ command h in
    let height = bind_ok (height_in (word_at words 3)) _ command label.2 in
    said (forms.Store stores.Fork) (StoreFork label.0 height.0) command height.2 ((number_limits 0 4294967295 (word_at words 3) height.0 height.1).1, refl, refl)
store_within stores.Honest words command h =
    said (forms.Store stores.Honest) StoreHonest command h (tt, refl, refl)

raw_within : (form : RawForm) (words : List (List ℕ)) (command : Command) → raw_command_in form words ≡ Ok command → IsSaid (forms.Raw form) command
unfolding raw_command_in
raw_within raws.Append words command h =
    let id = bind_ok (id_in (word_at words 2)) _ command h in
    let label = bind_ok (name_in (word_at words 3)) _ command id.2 in
    let height = bind_ok (later_height_in (word_at words 4)) _ command label.2 in
    let payload = bind_ok (payload_in (word_at words 5)) _ command height.2 in
    let nonce = bind_ok (nonce_in (word_at words 6)) _ command payload.2 in
    said (forms.Raw raws.Append) (RawAppend id.0 label.0 height.0 payload.0 nonce.0) command nonce.2 ((number_limits 1 64 (word_at words 2) id.0 id.1, number_limits 1 4294967295 (word_at words 4) height.0 height.1, payload_limits (word_at words 5) payload.0 payload.1, (number_limits 0 4294967295 (word_at words 6) nonce.0 nonce.1).1), refl, refl)
raw_within raws.Latest words command h =
    let id = bind_ok (id_in (word_at words 2)) _ command h in
    let label = bind_ok (name_in (word_at words 3)) _ command id.2 in
    let nonce = bind_ok (nonce_in (word_at words 4)) _ command label.2 in
    said (forms.Raw raws.Latest) (RawLatest id.0 label.0 nonce.0) command nonce.2 ((number_limits 1 64 (word_at words 2) id.0 id.1, (number_limits 0 4294967295 (word_at words 4) nonce.0 nonce.1).1), refl, refl)
raw_within raws.Show words command h =
    let id = bind_ok (id_in (word_at words 2)) _ command h in
    let label = bind_ok (name_in (word_at words 3)) _ command id.2 in
    said (forms.Raw raws.Show) (RawShow id.0 label.0) command label.2 ((number_limits 1 64 (word_at words 2) id.0 id.1), refl, refl)
raw_within raws.Finalize words command h =
    let id = bind_ok (id_in (word_at words 2)) _ command h in
    let ids = bind_ok (ids_in (word_at words 3)) _ command id.2 in
    said (forms.Raw raws.Finalize) (RawFinalize id.0 ids.0) command ids.2 ((number_limits 1 64 (word_at words 2) id.0 id.1, ids_limits (word_at words 3) ids.0 ids.1), refl, refl)

form_within : (form : Form) (words : List (List ℕ)) (command : Command) → command_in form words ≡ Ok command → IsSaid form command
unfolding command_in
form_within forms.Genesis words command h =
    let ids = bind_ok (ids_in (word_at words 1)) _ command h in
    said forms.Genesis (Genesis ids.0) command ids.2 ((ids_limits (word_at words 1) ids.0 ids.1), refl, refl)
form_within (forms.Plain act) words command h =
    let request = bind_ok (request_in act words 0) _ command h in
    said (forms.Plain act) (Plain request.0) command request.2 (let asked = act_within act words 0 request.0 request.1 in (asked.0, refl, asked.1))
form_within forms.Restart words command h = said forms.Restart Restart command h (tt, refl, refl)
form_within (forms.Begin act) words command h =
    let op = bind_ok (name_in (word_at words 1)) _ command h in
    let request = bind_ok (request_in act words 2) _ command op.2 in
    said (forms.Begin act) (Begin op.0 request.0) command request.2 (let asked = act_within act words 2 request.0 request.1 in (asked.0, refl, asked.1))
form_within (forms.Op op) words command h = op_within op words command h
form_within (forms.Lose loss) words command h = loss_within loss words command h
form_within (forms.Store store) words command h = store_within store words command h
form_within (forms.Raw raw) words command h = raw_within raw words command h
form_within forms.End words command h = said forms.End End command h (tt, refl, refl)

act_is_none : (act : ActForm) → bytes_eq (act_name act) (codes "genesis") ≡ false
act_is_none acts.New = refl
act_is_none acts.Append = refl
act_is_none acts.Latest = refl
act_is_none acts.At = refl
act_is_none acts.Reconfigure = refl

op_is_none : (op : OpForm) → bytes_eq (op_name op) (codes "genesis") ≡ false
op_is_none ops.Step = refl
op_is_none ops.Finish = refl
op_is_none ops.Retry = refl
op_is_none ops.Offer = refl
op_is_none ops.Forge = refl

abbrev tests_genesis : List ℕ → Bool
tests_genesis word = bytes_eq word (codes "genesis")

-- the first word is `genesis` just where the form is
first_word : (form : Form) (words : List (List ℕ)) → Begins words form → tests_genesis (word_at words 0) ≡ begins_genesis form
first_word forms.Genesis words first = ap tests_genesis first
first_word (forms.Plain act) words first = ap tests_genesis first ∙ act_is_none act
first_word forms.Restart words first = ap tests_genesis first
first_word (forms.Begin act) words first = ap tests_genesis first.0
first_word (forms.Op op) words first = ap tests_genesis first ∙ op_is_none op
first_word (forms.Lose loss) words first = ap tests_genesis first.0
first_word (forms.Store store) words first = ap tests_genesis first.0
first_word (forms.Raw raw) words first = ap tests_genesis first.0
first_word forms.End words first = ap tests_genesis first

-- a command within its limits that lines may say, and is `genesis` or not
abbrev IsTold : Bool → Command → Type 0
IsTold genesis command = IsWithin command × (is_genesis command ≡ genesis) × (is_served command ≡ true)

words_within : (words : List (List ℕ)) (command : Command) → command_of_words words ≡ Ok command → IsTold (tests_genesis (word_at words 0)) command
unfolding command_of_words
words_within words command h =
    let form = bind_ok (ok_or (form_of words) causes.Word) _ command h in
    let read = if_ok (eqb (length words) (word_count form.0)) (command_in form.0 words) causes.Count command form.2 in
    let is_form = ok_or_some (form_of words) causes.Word form.0 form.1 in
    let begins = form_begins words form.0 is_form in
    let within = form_within form.0 words command read.1 in
    (within.0, within.1 ∙ sym (first_word form.0 words begins), within.2 ∙ form_served words form.0 is_form begins)

in_order : (b : Bool) (r : Result Command BadCause) (command : Command) → cond b (Err causes.Order) r ≡ Ok command → b ≡ false
in_order true r command h = cc
in_order false r command h = refl

-- a line in order is `genesis` just where it is the first, and stands before `end`
ordered : (first ended genesis : Bool) → (ended || cond first (not genesis) genesis) ≡ false → (genesis ≡ first) × (ended ≡ false)
ordered first true genesis h = cc
ordered true false true h = (refl, refl)
ordered true false false h = cc
ordered false false true h = cc
ordered false false false h = (refl, refl)

alone_within : (first ended : Bool) (line : List ℕ) (command : Command) → command_of_line first ended line ≡ Ok command → IsTold first command × (ended ≡ false)
unfolding command_of_line
alone_within first ended line command h =
    let word = word_at (words line) 0 in
    let text = if_ok (list_all is_text_byte line) (cond (is_out_of_order first ended word) (Err causes.Order) (command_of_words (words line))) causes.Char command h in
    let order = ordered first ended (tests_genesis word) (in_order (is_out_of_order first ended word) (command_of_words (words line)) command text.1) in
    let read = words_within (words line) command (if_not_ok (is_out_of_order first ended word) (command_of_words (words line)) causes.Order command text.1) in
    let P : Bool → Type 0 = λ genesis. IsTold genesis command in
    (subst P order.0 read, order.1)

good : (fault : Option BadCause) (one command : Command) → unless fault one ≡ Ok command → fault ≡ None
good None one command h = refl
good (Some cause) one command h = cc

passes : (used misused many : Bool) → ◌≡◌ {A = Option BadCause} (cond used (Some causes.Label) (cond misused (Some causes.Op) (cond many (Some causes.Many) None))) None
    → (used ≡ false) × (misused ≡ false) × (many ≡ false)
passes true misused many h = cc
passes false true many h = cc
passes false false true h = cc
passes false false false h = (refl, refl, refl)

-- a line that is read after others says a command that fits there
pub line_fits : (earlier : List Command) (line : List ℕ) (command : Command) → command_after earlier line ≡ Ok command → Fits earlier command
unfolding command_after
line_fits earlier line command h =
    let read = bind_ok (command_of_line (eqb (length earlier) 0) (has_ended earlier) line) _ command h in
    let alone = alone_within (eqb (length earlier) 0) (has_ended earlier) line read.0 read.1 in
    let none = good (fault_after earlier read.0) read.0 command read.2 in
    let faults = passes (makes_used_label (is_used earlier) read.0) (misuses (standing earlier) read.0) (is_too_many (counts_of earlier) read.0) none in
    let fits : Fits earlier read.0 = record { limits = alone.0.0; served = alone.0.2; first = alone.0.1; going = alone.1; apart = faults.0; stands = faults.1; few = faults.2; good = none } in
    subst (Fits earlier) (kept (fault_after earlier read.0) read.0 command read.2) fits
