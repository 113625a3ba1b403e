-- The forms of a line: which words it begins with, and how many words it has.
use Rattle.std.specs.Prelude.{ℕ, List, ◌+◌, Option, Some, None, if◌then◌else◌, codes}
use Rattle.std.specs.Option.{option_map, option_or}
use Rattle.std.specs.Str.{bytes_eq}
use Rattle.fault_script.specs.declared.form.ActForm.{ActForm}
use Rattle.fault_script.specs.declared.form.ActForm.TheVariants as acts
use Rattle.fault_script.specs.declared.form.OpForm.{OpForm}
use Rattle.fault_script.specs.declared.form.OpForm.TheVariants as ops
use Rattle.fault_script.specs.declared.form.LossForm.{LossForm}
use Rattle.fault_script.specs.declared.form.LossForm.TheVariants as losses
use Rattle.fault_script.specs.declared.form.StoreForm.{StoreForm}
use Rattle.fault_script.specs.declared.form.StoreForm.TheVariants as stores
use Rattle.fault_script.specs.declared.form.RawForm.{RawForm}
use Rattle.fault_script.specs.declared.form.RawForm.TheVariants as raws
use Rattle.fault_script.specs.declared.form.Form.{Form}
use Rattle.fault_script.specs.declared.form.Form.TheVariants as forms
use Rattle.fault_script.specs.Words.{word_at}

-- the word of an act
unfoldable pub act_form : List ℕ → Option ActForm
act_form word =
    if bytes_eq word (codes "new") then Some acts.New
    else (if bytes_eq word (codes "append") then Some acts.Append
    else (if bytes_eq word (codes "latest") then Some acts.Latest
    else (if bytes_eq word (codes "at") then Some acts.At
    else None)))

-- the word of a line about an operation that was begun
unfoldable pub op_form : List ℕ → Option OpForm
op_form word =
    if bytes_eq word (codes "step") then Some ops.Step
    else (if bytes_eq word (codes "finish") then Some ops.Finish
    else (if bytes_eq word (codes "retry") then Some ops.Retry
    else (if bytes_eq word (codes "offer") then Some ops.Offer
    else (if bytes_eq word (codes "forge") then Some ops.Forge
    else None))))

-- the word behind `lose`
unfoldable pub loss_form : List ℕ → Option LossForm
loss_form word =
    if bytes_eq word (codes "request") then Some losses.Request
    else (if bytes_eq word (codes "reply") then Some losses.Reply
    else None)

-- the word behind `store`
unfoldable pub store_form : List ℕ → Option StoreForm
store_form word =
    if bytes_eq word (codes "fail") then Some stores.Fail
    else (if bytes_eq word (codes "hide") then Some stores.Hide
    else (if bytes_eq word (codes "stale") then Some stores.Stale
    else (if bytes_eq word (codes "fork") then Some stores.Fork
    else (if bytes_eq word (codes "honest") then Some stores.Honest
    else None))))

-- the word behind `raw`
unfoldable pub raw_form : List ℕ → Option RawForm
raw_form word =
    if bytes_eq word (codes "append") then Some raws.Append
    else (if bytes_eq word (codes "latest") then Some raws.Latest
    else (if bytes_eq word (codes "show") then Some raws.Show
    else None))

-- the form of a line whose first word tells it
unfoldable pub lone_form : List ℕ → Option Form
lone_form word =
    if bytes_eq word (codes "genesis") then Some forms.Genesis
    else (if bytes_eq word (codes "restart") then Some forms.Restart
    else (if bytes_eq word (codes "end") then Some forms.End
    else None))

unfoldable pub form_of_first : List ℕ → Option Form
form_of_first word =
    option_or (lone_form word)
    (option_or (option_map (λ act. forms.Plain act) (act_form word))
    (option_map (λ op. forms.Op op) (op_form word)))

-- the form that the words begin, if there is one
unfoldable pub form_of : List (List ℕ) → Option Form
form_of words =
    let first = word_at words 0 in
    if bytes_eq first (codes "begin") then option_map (λ act. forms.Begin act) (act_form (word_at words 2))
    else (if bytes_eq first (codes "lose") then option_map (λ loss. forms.Lose loss) (loss_form (word_at words 1))
    else (if bytes_eq first (codes "store") then option_map (λ store. forms.Store store) (store_form (word_at words 1))
    else (if bytes_eq first (codes "raw") then option_map (λ raw. forms.Raw raw) (raw_form (word_at words 1))
    else form_of_first first)))

-- how many words a line has
abbrev pub act_word_count : ActForm → ℕ
act_word_count acts.New = 4
act_word_count acts.Append = 5
act_word_count acts.Latest = 3
act_word_count acts.At = 4
act_word_count acts.Reconfigure = 2

abbrev pub op_word_count : OpForm → ℕ
op_word_count ops.Step = 3
op_word_count ops.Finish = 2
op_word_count ops.Retry = 2
op_word_count ops.Offer = 3
op_word_count ops.Forge = 4

abbrev pub store_word_count : StoreForm → ℕ
store_word_count stores.Fail = 3
store_word_count stores.Hide = 4
store_word_count stores.Stale = 5
store_word_count stores.Fork = 4
store_word_count stores.Honest = 2

abbrev pub raw_word_count : RawForm → ℕ
raw_word_count raws.Append = 7
raw_word_count raws.Latest = 5
raw_word_count raws.Show = 4
raw_word_count raws.Finalize = 4

abbrev pub word_count : Form → ℕ
word_count forms.Genesis = 2
word_count (forms.Plain act) = act_word_count act
word_count forms.Restart = 1
word_count (forms.Begin act) = 2 + act_word_count act
word_count (forms.Op op) = op_word_count op
word_count (forms.Lose loss) = 4
word_count (forms.Store store) = store_word_count store
word_count (forms.Raw raw) = raw_word_count raw
word_count forms.End = 1
