-- A line of a known form, read word by word: the first word that is none of its kind is the cause.
use Rattle.std.specs.Prelude.{ℕ, List, ◌+◌, Result, Ok}
use Rattle.fault_script.specs.declared.bad_cause.BadCause.{BadCause}
use Rattle.fault_script.specs.declared.form.ActForm.{ActForm}
use Rattle.fault_script.specs.declared.form.ActForm.TheVariants as acts
use Rattle.fault_script.specs.declared.form.OpForm.{OpForm}
use Rattle.fault_script.specs.declared.form.OpForm.TheVariants as ops
use Rattle.fault_script.specs.declared.form.LossForm.{LossForm}
use Rattle.fault_script.specs.declared.form.LossForm.TheVariants as losses
use Rattle.fault_script.specs.declared.form.StoreForm.{StoreForm}
use Rattle.fault_script.specs.declared.form.StoreForm.TheVariants as stores
use Rattle.fault_script.specs.declared.form.RawForm.{RawForm}
use Rattle.fault_script.specs.declared.form.RawForm.TheVariants as raws
use Rattle.fault_script.specs.declared.form.Form.{Form}
use Rattle.fault_script.specs.declared.form.Form.TheVariants as forms
use Rattle.fault_script.specs.Command.{Request, New, Append, Latest, At, Reconfigure, Command, Genesis, Plain, Restart, Begin, Step, Finish, Retry, LoseRequest, LoseReply, StoreFail, StoreHide, StoreStale, StoreFork, StoreHonest, RawAppend, RawLatest, RawShow, RawFinalize, Offer, Forge, End}
use Rattle.fault_script.specs.Outcome.{◌>>=◌}
use Rattle.fault_script.specs.Words.{word_at, name_in, number_in, ids_in, payload_in}

-- the limits of the numbers
abbrev pub id_in : List ℕ → Result ℕ BadCause
id_in word = number_in 1 64 word

abbrev pub times_in : List ℕ → Result ℕ BadCause
times_in word = number_in 1 1000 word

abbrev pub height_in : List ℕ → Result ℕ BadCause
height_in word = number_in 0 4294967295 word

abbrev pub later_height_in : List ℕ → Result ℕ BadCause
later_height_in word = number_in 1 4294967295 word

abbrev pub nonce_in : List ℕ → Result ℕ BadCause
nonce_in word = number_in 0 4294967295 word

abbrev pub count_in : List ℕ → Result ℕ BadCause
count_in word = number_in 0 4294967296 word

-- an act whose first word stands at a place
unfoldable pub request_in : ActForm → List (List ℕ) → ℕ → Result Request BadCause
request_in acts.New words at = do
  client ← name_in (word_at words (at + 1))
  label ← name_in (word_at words (at + 2))
  payload ← payload_in (word_at words (at + 3))
  Ok (New client label payload)
request_in acts.Append words at = do
  client ← name_in (word_at words (at + 1))
  label ← name_in (word_at words (at + 2))
  height ← later_height_in (word_at words (at + 3))
  payload ← payload_in (word_at words (at + 4))
  Ok (Append client label height payload)
request_in acts.Latest words at = do
  client ← name_in (word_at words (at + 1))
  label ← name_in (word_at words (at + 2))
  Ok (Latest client label)
request_in acts.At words at = do
  client ← name_in (word_at words (at + 1))
  label ← name_in (word_at words (at + 2))
  height ← height_in (word_at words (at + 3))
  Ok (At client label height)
request_in acts.Reconfigure words at = do
  ids ← ids_in (word_at words (at + 1))
  Ok (Reconfigure ids)

-- a line about an operation that was begun
unfoldable pub op_command_in : OpForm → List (List ℕ) → Result Command BadCause
op_command_in ops.Step words = do
  op ← name_in (word_at words 1)
  n ← times_in (word_at words 2)
  Ok (Step op n)
op_command_in ops.Finish words = do
  op ← name_in (word_at words 1)
  Ok (Finish op)
op_command_in ops.Retry words = do
  op ← name_in (word_at words 1)
  Ok (Retry op)
op_command_in ops.Offer words = do
  op ← name_in (word_at words 1)
  ids ← ids_in (word_at words 2)
  Ok (Offer op ids)
op_command_in ops.Forge words = do
  op ← name_in (word_at words 1)
  count ← count_in (word_at words 2)
  ids ← ids_in (word_at words 3)
  Ok (Forge op count ids)

-- losses of calls
unfoldable pub loss_command_in : LossForm → List (List ℕ) → Result Command BadCause
loss_command_in losses.Request words = do
  id ← id_in (word_at words 2)
  n ← times_in (word_at words 3)
  Ok (LoseRequest id n)
loss_command_in losses.Reply words = do
  id ← id_in (word_at words 2)
  n ← times_in (word_at words 3)
  Ok (LoseReply id n)

-- failures and lies of the store
unfoldable pub store_command_in : StoreForm → List (List ℕ) → Result Command BadCause
store_command_in stores.Fail words = do
  n ← times_in (word_at words 2)
  Ok (StoreFail n)
store_command_in stores.Hide words = do
  label ← name_in (word_at words 2)
  height ← height_in (word_at words 3)
  Ok (StoreHide label height)
store_command_in stores.Stale words = do
  label ← name_in (word_at words 2)
  height ← height_in (word_at words 3)
  from ← height_in (word_at words 4)
  Ok (StoreStale label height from)
store_command_in stores.Fork words = do
  label ← name_in (word_at words 2)
  height ← height_in (word_at words 3)
  Ok (StoreFork label height)
store_command_in stores.Honest words = Ok StoreHonest

-- calls that go to an endorser directly
unfoldable pub raw_command_in : RawForm → List (List ℕ) → Result Command BadCause
raw_command_in raws.Append words = do
  id ← id_in (word_at words 2)
  label ← name_in (word_at words 3)
  height ← later_height_in (word_at words 4)
  payload ← payload_in (word_at words 5)
  nonce ← nonce_in (word_at words 6)
  Ok (RawAppend id label height payload nonce)
raw_command_in raws.Latest words = do
  id ← id_in (word_at words 2)
  label ← name_in (word_at words 3)
  nonce ← nonce_in (word_at words 4)
  Ok (RawLatest id label nonce)
raw_command_in raws.Show words = do
  id ← id_in (word_at words 2)
  label ← name_in (word_at words 3)
  Ok (RawShow id label)
raw_command_in raws.Finalize words = do
  id ← id_in (word_at words 2)
  ids ← ids_in (word_at words 3)
  Ok (RawFinalize id ids)

unfoldable pub command_in : Form → List (List ℕ) → Result Command BadCause
command_in forms.Genesis words = do
  ids ← ids_in (word_at words 1)
  Ok (Genesis ids)
command_in (forms.Plain act) words = do
  request ← request_in act words 0
  Ok (Plain request)
command_in forms.Restart words = Ok Restart
command_in (forms.Begin act) words = do
  op ← name_in (word_at words 1)
  request ← request_in act words 2
  Ok (Begin op request)
command_in (forms.Op op) words = op_command_in op words
command_in (forms.Lose loss) words = loss_command_in loss words
command_in (forms.Store store) words = store_command_in store words
command_in (forms.Raw raw) words = raw_command_in raw words
command_in forms.End words = Ok End
