-- Steps of reading that went well.
use Rattle.std.proofs.Common.{◌≡◌, refl, subst, Bool, true, false, cond, ℕ, List, Option, Some, None, Result, Ok, Err}
use Rattle.std.specs.Option.{option_map, option_or, ok_or}
use Rattle.std.specs.Str.{bytes_eq}
use Rattle.std.proofs.lemmas.Slice.Eq.{bytes_eq-Decides}
use Rattle.fault_script.specs.declared.bad_cause.BadCause.{BadCause}
use Rattle.fault_script.specs.Outcome.{◌>>=◌}

pub bind_ok : {A B : Type 0} (r : Result A BadCause) (f : A → Result B BadCause) (y : B) → (r >>= f) ≡ Ok y → (x : A) × (r ≡ Ok x) × (f x ≡ Ok y)
bind_ok (Ok x) f y h = (x, refl, h)
bind_ok (Err cause) f y h = cc

pub if_ok : {A : Type 0} (b : Bool) (r : Result A BadCause) (cause : BadCause) (y : A) → cond b r (Err cause) ≡ Ok y → (b ≡ true) × (r ≡ Ok y)
if_ok true r cause y h = (refl, h)
if_ok false r cause y h = cc

pub if_not_ok : {A : Type 0} (b : Bool) (r : Result A BadCause) (cause : BadCause) (y : A) → cond b (Err cause) r ≡ Ok y → r ≡ Ok y
if_not_ok true r cause y h = cc
if_not_ok false r cause y h = h

pub ok_or_some : {A : Type 0} (o : Option A) (cause : BadCause) (y : A) → ok_or o cause ≡ Ok y → o ≡ Some y
ok_or_some None cause y h = cc
ok_or_some (Some x) cause y h = cc

pub if_some : {A : Type 0} (b : Bool) (o : Option A) (y : A) → cond b o None ≡ Some y → (b ≡ true) × (o ≡ Some y)
if_some true o y h = (refl, h)
if_some false o y h = cc

pub map_some : {A B : Type 0} (f : A → B) (o : Option A) (y : B) → option_map f o ≡ Some y → (x : A) × (o ≡ Some x) × (f x ≡ y)
map_some f None y h = cc
map_some f (Some x) y h = (x, refl, cc)

pub or_some : {A : Type 0} (x y : Option A) (z : A) (P : Type 0) → option_or x y ≡ Some z → (x ≡ Some z → P) → (y ≡ Some z → P) → P
or_some None y z P h one other = other h
or_some (Some x) y z P h one other = one h

chosen : {A : Type 0} (b : Bool) (a : A) (rest : Option A) (z : A) (P : A → Type 0) → cond b (Some a) rest ≡ Some z → (b ≡ true → P a) → (rest ≡ Some z → P z) → P z
chosen true a rest z P h one other = let e : a ≡ z = cc in subst P e (one refl)
chosen false a rest z P h one other = other h

-- a word that is looked for among texts
pub pick : {A : Type 0} (word text : List ℕ) (a : A) (rest : Option A) (z : A) (P : A → Type 0)
    → cond (bytes_eq word text) (Some a) rest ≡ Some z → (word ≡ text → P a) → (rest ≡ Some z → P z) → P z
pick word text a rest z P h one other = chosen (bytes_eq word text) a rest z P h (λ e. one ((bytes_eq-Decides word text).0 e)) other

branch : {A : Type 0} (b : Bool) (one rest : Option A) (z : A) (P : Type 0) → cond b one rest ≡ Some z → (b ≡ true → one ≡ Some z → P) → (rest ≡ Some z → P) → P
branch true one rest z P h f g = f refl h
branch false one rest z P h f g = g h

-- the same, where more is looked for behind the text
pub pick_behind : {A : Type 0} (word text : List ℕ) (one rest : Option A) (z : A) (P : Type 0)
    → cond (bytes_eq word text) one rest ≡ Some z → (word ≡ text → one ≡ Some z → P) → (rest ≡ Some z → P) → P
pick_behind word text one rest z P h f g = branch (bytes_eq word text) one rest z P h (λ e. f ((bytes_eq-Decides word text).0 e)) g
