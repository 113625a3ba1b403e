-- No line has a form that isn't served yet.
use Rattle.std.proofs.Common.{◌≡◌, refl, ap, sym, ◌∙◌, Bool, true, false, cond, ℕ, List, Option, Some}
use Rattle.std.specs.Prelude.{codes}
use Rattle.std.specs.Str.{bytes_eq}
use Rattle.std.specs.Option.{option_map}
use Rattle.fault_script.specs.declared.form.ActForm.{ActForm}
use Rattle.fault_script.specs.declared.form.ActForm.TheVariants as acts
use Rattle.fault_script.specs.declared.form.RawForm.{RawForm}
use Rattle.fault_script.specs.declared.form.RawForm.TheVariants as raws
use Rattle.fault_script.specs.declared.form.Form.{Form}
use Rattle.fault_script.specs.declared.form.Form.TheVariants as forms
use Rattle.fault_script.specs.Words.{word_at}
use Rattle.fault_script.specs.Form.{act_form, op_form, loss_form, store_form, raw_form, lone_form, form_of_first, form_of}
use Rattle.fault_script.proofs.Heads.{Begins}

abbrev pub serves_act : ActForm → Bool
serves_act acts.New = true
serves_act acts.Append = true
serves_act acts.Latest = true
serves_act acts.At = true
serves_act acts.Reconfigure = false

abbrev pub serves_raw : RawForm → Bool
serves_raw raws.Append = true
serves_raw raws.Latest = true
serves_raw raws.Show = true
serves_raw raws.Finalize = false

abbrev pub serves : Form → Bool
serves forms.Genesis = true
serves (forms.Plain act) = serves_act act
serves forms.Restart = true
serves (forms.Begin act) = serves_act act
serves (forms.Op op) = true
serves (forms.Lose loss) = true
serves (forms.Store store) = true
serves (forms.Raw raw) = serves_raw raw
serves forms.End = true

-- the form that three words begin
abbrev form_by : List ℕ → List ℕ → List ℕ → Option Form
form_by first second third =
    cond (bytes_eq first (codes "begin")) (option_map (λ act. forms.Begin act) (act_form third))
    (cond (bytes_eq first (codes "lose")) (option_map (λ loss. forms.Lose loss) (loss_form second))
    (cond (bytes_eq first (codes "store")) (option_map (λ store. forms.Store store) (store_form second))
    (cond (bytes_eq first (codes "raw")) (option_map (λ raw. forms.Raw raw) (raw_form second))
    (form_of_first first))))

by_first : (first second third word : List ℕ) (form : Form) → first ≡ word → form_by first second third ≡ Some form → form_by word second third ≡ Some form
by_first first second third word form e h = ap (λ w. form_by w second third) (sym e) ∙ h

act_served : (act : ActForm) (words : List (List ℕ)) → form_of words ≡ Some (forms.Plain act) → Begins words (forms.Plain act) → serves_act act ≡ true
unfolding act_form op_form lone_form form_of_first form_of
act_served acts.New words h begins = refl
act_served acts.Append words h begins = refl
act_served acts.Latest words h begins = refl
act_served acts.At words h begins = refl
act_served acts.Reconfigure words h begins =
    let none = by_first (word_at words 0) (word_at words 1) (word_at words 2) (codes "reconfigure") (forms.Plain acts.Reconfigure) begins h in
    cc

begun_served : (act : ActForm) (words : List (List ℕ)) → form_of words ≡ Some (forms.Begin act) → Begins words (forms.Begin act) → serves_act act ≡ true
unfolding act_form form_of
begun_served acts.New words h begins = refl
begun_served acts.Append words h begins = refl
begun_served acts.Latest words h begins = refl
begun_served acts.At words h begins = refl
begun_served acts.Reconfigure words h begins =
    let begun = by_first (word_at words 0) (word_at words 1) (word_at words 2) (codes "begin") (forms.Begin acts.Reconfigure) begins.0 h in
    let none = ap (λ w. form_by (codes "begin") (word_at words 1) w) (sym begins.1) ∙ begun in
    cc

raw_served : (raw : RawForm) (words : List (List ℕ)) → form_of words ≡ Some (forms.Raw raw) → Begins words (forms.Raw raw) → serves_raw raw ≡ true
unfolding raw_form form_of
raw_served raws.Append words h begins = refl
raw_served raws.Latest words h begins = refl
raw_served raws.Show words h begins = refl
raw_served raws.Finalize words h begins =
    let to_one = by_first (word_at words 0) (word_at words 1) (word_at words 2) (codes "raw") (forms.Raw raws.Finalize) begins.0 h in
    let none = ap (λ w. form_by (codes "raw") w (word_at words 2)) (sym begins.1) ∙ to_one in
    cc

pub form_served : (words : List (List ℕ)) (form : Form) → form_of words ≡ Some form → Begins words form → serves form ≡ true
form_served words forms.Genesis h begins = refl
form_served words (forms.Plain act) h begins = act_served act words h begins
form_served words forms.Restart h begins = refl
form_served words (forms.Begin act) h begins = begun_served act words h begins
form_served words (forms.Op op) h begins = refl
form_served words (forms.Lose loss) h begins = refl
form_served words (forms.Store store) h begins = refl
form_served words (forms.Raw raw) h begins = raw_served raw words h begins
form_served words forms.End h begins = refl
