-- The words that a line begins with, by its form.
use Rattle.std.proofs.Common.{◌≡◌, subst, List, ℕ, Some}
use Rattle.std.specs.Prelude.{codes}
use Rattle.std.specs.Option.{option_map, option_or}
use Rattle.fault_script.specs.declared.form.ActForm.{ActForm}
use Rattle.fault_script.specs.declared.form.ActForm.TheVariants as acts
use Rattle.fault_script.specs.declared.form.OpForm.{OpForm}
use Rattle.fault_script.specs.declared.form.OpForm.TheVariants as ops
use Rattle.fault_script.specs.declared.form.LossForm.{LossForm}
use Rattle.fault_script.specs.declared.form.LossForm.TheVariants as losses
use Rattle.fault_script.specs.declared.form.StoreForm.{StoreForm}
use Rattle.fault_script.specs.declared.form.StoreForm.TheVariants as stores
use Rattle.fault_script.specs.declared.form.RawForm.{RawForm}
use Rattle.fault_script.specs.declared.form.RawForm.TheVariants as raws
use Rattle.fault_script.specs.declared.form.Form.{Form}
use Rattle.fault_script.specs.declared.form.Form.TheVariants as forms
use Rattle.fault_script.specs.Form.{act_form, op_form, loss_form, store_form, raw_form, lone_form, form_of_first, form_of}
use Rattle.fault_script.specs.Words.{word_at}
use Rattle.fault_script.proofs.Steps.{map_some, or_some, pick, pick_behind}

abbrev pub act_name : ActForm → List ℕ
act_name acts.New = codes "new"
act_name acts.Append = codes "append"
act_name acts.Latest = codes "latest"
act_name acts.At = codes "at"
act_name acts.Reconfigure = codes "reconfigure"

abbrev pub op_name : OpForm → List ℕ
op_name ops.Step = codes "step"
op_name ops.Finish = codes "finish"
op_name ops.Retry = codes "retry"
op_name ops.Offer = codes "offer"
op_name ops.Forge = codes "forge"

abbrev pub loss_name : LossForm → List ℕ
loss_name losses.Request = codes "request"
loss_name losses.Reply = codes "reply"

abbrev pub store_name : StoreForm → List ℕ
store_name stores.Fail = codes "fail"
store_name stores.Hide = codes "hide"
store_name stores.Stale = codes "stale"
store_name stores.Fork = codes "fork"
store_name stores.Honest = codes "honest"

abbrev pub raw_name : RawForm → List ℕ
raw_name raws.Append = codes "append"
raw_name raws.Latest = codes "latest"
raw_name raws.Show = codes "show"
raw_name raws.Finalize = codes "finalize"

-- what the words are by which a line has a form
abbrev pub Begins : List (List ℕ) → Form → Type 0
Begins words forms.Genesis = word_at words 0 ≡ codes "genesis"
Begins words (forms.Plain act) = word_at words 0 ≡ act_name act
Begins words forms.Restart = word_at words 0 ≡ codes "restart"
Begins words (forms.Begin act) = (word_at words 0 ≡ codes "begin") × (word_at words 2 ≡ act_name act)
Begins words (forms.Op op) = word_at words 0 ≡ op_name op
Begins words (forms.Lose loss) = (word_at words 0 ≡ codes "lose") × (word_at words 1 ≡ loss_name loss)
Begins words (forms.Store store) = (word_at words 0 ≡ codes "store") × (word_at words 1 ≡ store_name store)
Begins words (forms.Raw raw) = (word_at words 0 ≡ codes "raw") × (word_at words 1 ≡ raw_name raw)
Begins words forms.End = word_at words 0 ≡ codes "end"

act_named : (word : List ℕ) (form : ActForm) → act_form word ≡ Some form → word ≡ act_name form
unfolding act_form
act_named word form h =
    let P : ActForm → Type 0 = λ f. word ≡ act_name f in
    pick word (codes "new") acts.New _ form P h (λ e. e)
    (λ h. pick word (codes "append") acts.Append _ form P h (λ e. e)
    (λ h. pick word (codes "latest") acts.Latest _ form P h (λ e. e)
    (λ h. pick word (codes "at") acts.At _ form P h (λ e. e) (λ h. cc))))

op_named : (word : List ℕ) (form : OpForm) → op_form word ≡ Some form → word ≡ op_name form
unfolding op_form
op_named word form h =
    let P : OpForm → Type 0 = λ f. word ≡ op_name f in
    pick word (codes "step") ops.Step _ form P h (λ e. e)
    (λ h. pick word (codes "finish") ops.Finish _ form P h (λ e. e)
    (λ h. pick word (codes "retry") ops.Retry _ form P h (λ e. e)
    (λ h. pick word (codes "offer") ops.Offer _ form P h (λ e. e)
    (λ h. pick word (codes "forge") ops.Forge _ form P h (λ e. e) (λ h. cc)))))

loss_named : (word : List ℕ) (form : LossForm) → loss_form word ≡ Some form → word ≡ loss_name form
unfolding loss_form
loss_named word form h =
    let P : LossForm → Type 0 = λ f. word ≡ loss_name f in
    pick word (codes "request") losses.Request _ form P h (λ e. e)
    (λ h. pick word (codes "reply") losses.Reply _ form P h (λ e. e) (λ h. cc))

store_named : (word : List ℕ) (form : StoreForm) → store_form word ≡ Some form → word ≡ store_name form
unfolding store_form
store_named word form h =
    let P : StoreForm → Type 0 = λ f. word ≡ store_name f in
    pick word (codes "fail") stores.Fail _ form P h (λ e. e)
    (λ h. pick word (codes "hide") stores.Hide _ form P h (λ e. e)
    (λ h. pick word (codes "stale") stores.Stale _ form P h (λ e. e)
    (λ h. pick word (codes "fork") stores.Fork _ form P h (λ e. e)
    (λ h. pick word (codes "honest") stores.Honest _ form P h (λ e. e) (λ h. cc)))))

raw_named : (word : List ℕ) (form : RawForm) → raw_form word ≡ Some form → word ≡ raw_name form
unfolding raw_form
raw_named word form h =
    let P : RawForm → Type 0 = λ f. word ≡ raw_name f in
    pick word (codes "append") raws.Append _ form P h (λ e. e)
    (λ h. pick word (codes "latest") raws.Latest _ form P h (λ e. e)
    (λ h. pick word (codes "show") raws.Show _ form P h (λ e. e) (λ h. cc)))

lone_begins : (words : List (List ℕ)) (form : Form) → lone_form (word_at words 0) ≡ Some form → Begins words form
unfolding lone_form
lone_begins words form h =
    let word = word_at words 0 in
    pick word (codes "genesis") forms.Genesis _ form (Begins words) h (λ e. e)
    (λ h. pick word (codes "restart") forms.Restart _ form (Begins words) h (λ e. e)
    (λ h. pick word (codes "end") forms.End _ form (Begins words) h (λ e. e) (λ h. cc)))

first_begins : (words : List (List ℕ)) (form : Form) → form_of_first (word_at words 0) ≡ Some form → Begins words form
unfolding form_of_first
first_begins words form h =
    let word = word_at words 0 in
    or_some (lone_form word) (option_or (option_map (λ act. forms.Plain act) (act_form word)) (option_map (λ op. forms.Op op) (op_form word))) form (Begins words form) h
    (lone_begins words form)
    (λ h. or_some (option_map (λ act. forms.Plain act) (act_form word)) (option_map (λ op. forms.Op op) (op_form word)) form (Begins words form) h
    (λ h. let act = map_some (λ act. forms.Plain act) (act_form word) form h in subst (Begins words) act.2 (act_named word act.0 act.1))
    (λ h. let op = map_some (λ op. forms.Op op) (op_form word) form h in subst (Begins words) op.2 (op_named word op.0 op.1)))

pub form_begins : (words : List (List ℕ)) (form : Form) → form_of words ≡ Some form → Begins words form
unfolding form_of
form_begins words form h =
    let word = word_at words 0 in
    pick_behind word (codes "begin") (option_map (λ act. forms.Begin act) (act_form (word_at words 2))) _ form (Begins words form) h
    (λ e h. let act = map_some (λ act. forms.Begin act) (act_form (word_at words 2)) form h in subst (Begins words) act.2 (e, act_named (word_at words 2) act.0 act.1))
    (λ h. pick_behind word (codes "lose") (option_map (λ loss. forms.Lose loss) (loss_form (word_at words 1))) _ form (Begins words form) h
    (λ e h. let loss = map_some (λ loss. forms.Lose loss) (loss_form (word_at words 1)) form h in subst (Begins words) loss.2 (e, loss_named (word_at words 1) loss.0 loss.1))
    (λ h. pick_behind word (codes "store") (option_map (λ store. forms.Store store) (store_form (word_at words 1))) _ form (Begins words form) h
    (λ e h. let store = map_some (λ store. forms.Store store) (store_form (word_at words 1)) form h in subst (Begins words) store.2 (e, store_named (word_at words 1) store.0 store.1))
    (λ h. pick_behind word (codes "raw") (option_map (λ raw. forms.Raw raw) (raw_form (word_at words 1))) (form_of_first word) form (Begins words form) h
    (λ e h. let raw = map_some (λ raw. forms.Raw raw) (raw_form (word_at words 1)) form h in subst (Begins words) raw.2 (e, raw_named (word_at words 1) raw.0 raw.1))
    (first_begins words form))))
