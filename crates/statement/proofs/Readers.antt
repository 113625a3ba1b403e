-- Readers, and what is put together of them: each reads what the values write, and no more, and gives the fault
-- that shows first.
use Rattle.std.proofs.Common.{◌≡◌, ℕ, zero, suc, ◌+◌, ◌^◌, ◌<◌, ◌≤◌, ◌⊎◌, inl, inr, Bool, true, false, cond, ltb, List, [], ◌∷◌, ◌++◌, length, map, take, drop, Option, Some, None, Result, Ok, Err, refl, sym, ap, subst, ◌∙◌, append_assoc, arith}
use Rattle.std.specs.Prelude.{IsTrue}
use Rattle.std.specs.Int.{Width, byte_len, from_be_bytes, to_be_bytes}
use Rattle.std.specs.List.{flat_map, AllByRecursion}
use Rattle.std.proofs.lemmas.Bool.{lt-ltb, le-ltb, ltb-true, ltb-false}
use Rattle.std.proofs.lemmas.List.{length-append, length-take, length-drop, take-append-drop, take_at, drop_at}
use Rattle.std.proofs.lemmas.List.Concat.{flat_map-cons}
use Rattle.nim_base.specs.declared.form_fault.FormFault.{FormFault}
use Rattle.nim_base.specs.declared.form_fault.FormFault.TheVariants.{Short}
use Rattle.statement.specs.Ids.{is_above, RisesFrom, last_id}
use Rattle.statement.specs.FormFault.{IsCut, ShowsBehind, ShowsUnless, byte_form}
use Rattle.statement.specs.Reading.{◌>>=◌, byte_at, bytes_at, number_at, pair_at, each_at}
use Rattle.statement.proofs.Fields.{IsBytes, IsBytes-rest, IsBytes-take, IsWide, bytes_found}

-- ---- steps

pub bind_ok : {A B : Type 0} (r : Result A FormFault) (f : A → Result B FormFault) (y : B) → (r >>= f) ≡ Ok y → (x : A) × (r ≡ Ok x) × (f x ≡ Ok y)
bind_ok (Ok x) f y e = (x, refl, e)
bind_ok (Err d) f y e = absurd cc

pub bind_err : {A B : Type 0} (r : Result A FormFault) (f : A → Result B FormFault) (d : FormFault) → (r >>= f) ≡ Err d → (r ≡ Err d) ⊎ ((x : A) × (r ≡ Ok x) × (f x ≡ Err d))
bind_err (Ok x) f d e = inr (x, refl, e)
bind_err (Err c) f d e = inl cc

pub cond_ok : {A : Type 0} (b : Bool) (r : Result A FormFault) (d : FormFault) (y : A) → cond b r (Err d) ≡ Ok y → (b ≡ true) × (r ≡ Ok y)
cond_ok true r d y e = (refl, e)
cond_ok false r d y e = absurd cc

pub cond_err : {A : Type 0} (b : Bool) (r : Result A FormFault) (d f : FormFault) → cond b r (Err d) ≡ Err f → ((b ≡ false) × (f ≡ d)) ⊎ ((b ≡ true) × (r ≡ Err f))
cond_err true r d f e = inr (refl, e)
cond_err false r d f e = inl (refl, cc)

abbrev done : {A : Type 0} → A → Result A FormFault
done x = Ok x

pub ok_is : {A : Type 0} (x y : A) → done x ≡ done y → x ≡ y
ok_is x y e = cc

-- ---- what a reader does

pub record IsReader {A : Type 0} (p : List ℕ → Result (A × List ℕ) FormFault) (Good : A → Type 0) (form : A → List ℕ) (shows : List ℕ → FormFault → Type 0) : Type 0 where
  pub again : (a : A) (rest : List ℕ) → Good a → p (form a ++ rest) ≡ Ok (a, rest)
  pub found : (text : List ℕ) (a : A) (rest : List ℕ) → IsBytes text → p text ≡ Ok (a, rest) → Good a × (text ≡ form a ++ rest)
  pub shown_read : (text : List ℕ) (f : FormFault) → shows text f → p text ≡ Err f
  pub read_shown : (text : List ℕ) (f : FormFault) → IsBytes text → p text ≡ Err f → shows text f

byte_found : (text : List ℕ) (byte : ℕ) (rest : List ℕ) → IsBytes text → byte_at text ≡ Ok (byte, rest) → (byte < 2 ^ 8) × (text ≡ byte_form byte ++ rest)
byte_found [] byte rest fits e = absurd cc
byte_found (b ∷ text) byte rest fits e =
    let same = ok_is (b, text) (byte, rest) e in
    let b_is : b ≡ byte = ap (λ (x : ℕ × List ℕ). x.0) same in
    let rest_is : text ≡ rest = ap (λ (x : ℕ × List ℕ). x.1) same in
    (omega (arith, fits 0), rw (b_is, rest_is) refl)

byte_cut : (text : List ℕ) (f : FormFault) → IsCut 1 text f → byte_at text ≡ Err f
byte_cut [] f cut = ap (λ (f : FormFault). Err f) (sym cut.0)
byte_cut (b ∷ text) f cut = absurd (omega (arith, cut.1))

cut_byte : (text : List ℕ) (f : FormFault) → byte_at text ≡ Err f → IsCut 1 text f
cut_byte [] f e = (cc, omega arith)
cut_byte (b ∷ text) f e = absurd cc

pub byte_reader : IsReader byte_at (λ byte. byte < 2 ^ 8) byte_form (IsCut 1)
byte_reader = record {
  again = λ byte rest good. refl;
  found = byte_found;
  shown_read = byte_cut;
  read_shown = λ text f fits. cut_byte text f;
}

pub behind : {A B : Type 0} (p : List ℕ → Result (A × List ℕ) FormFault) (q : A → List ℕ → Result (B × List ℕ) FormFault)
    (Good : A → Type 0) (form : A → List ℕ) (shows : List ℕ → FormFault → Type 0)
    (Next : B → Type 0) (next_form : B → List ℕ) (next_shows : A → List ℕ → FormFault → Type 0) (of : B → A)
    → IsReader p Good form shows
    → ((a : A) → Good a → IsReader (q a) (λ b. (of b ≡ a) × Next b) next_form (next_shows a))
    → IsReader (λ text. p text >>= λ x. q x.0 x.1) (λ b. Good (of b) × Next b) (λ b. form (of b) ++ next_form b) (ShowsBehind Good form shows next_shows)
behind p q Good form shows Next next_form next_shows of first next = record {
  again = λ b rest good.
      let one = first.again (of b) (next_form b ++ rest) good.0 in
      let two = (next (of b) good.0).again b rest (refl, good.1) in
      ap (λ text. p text >>= λ x. q x.0 x.1) (append_assoc (form (of b)) (next_form b) rest) ∙ ap (λ r. r >>= λ x. q x.0 x.1) one ∙ two;
  found = λ text b rest fits e.
      let s = bind_ok (p text) (λ x. q x.0 x.1) (b, rest) e in
      let one = first.found text s.0.0 s.0.1 fits s.1 in
      let two = (next s.0.0 one.0).found s.0.1 b rest (IsBytes-rest text (form s.0.0) s.0.1 one.1 fits) s.2 in
      let is : s.0.0 ≡ of b = sym two.0.0 in (
        (subst Good is one.0, two.0.1),
        one.1 ∙ ap (λ bs. form s.0.0 ++ bs) two.1 ∙ ap (λ a. form a ++ (next_form b ++ rest)) is ∙ sym (append_assoc (form (of b)) (next_form b) rest),
      );
  shown_read = λ text f shown. elim shown [
    | inl here ↦ ap (λ r. r >>= λ x. q x.0 x.1) (first.shown_read text f here)
    | inr (a, rest, good, e, there) ↦
        ap (λ text. p text >>= λ x. q x.0 x.1) e ∙ ap (λ r. r >>= λ x. q x.0 x.1) (first.again a rest good) ∙ (next a good).shown_read rest f there
  ];
  read_shown = λ text f fits e. elim (bind_err (p text) (λ x. q x.0 x.1) f e) [
    | inl here ↦ inl (first.read_shown text f fits here)
    | inr (x, was, there) ↦
        let one = first.found text x.0 x.1 fits was in
        inr (x.0, x.1, one.0, one.1, (next x.0 one.0).read_shown x.1 f (IsBytes-rest text (form x.0) x.1 one.1 fits) there)
  ];
}

pub guarded : {A : Type 0} (b : Bool) (d : FormFault) (p : List ℕ → Result (A × List ℕ) FormFault) (Good : A → Type 0) (form : A → List ℕ) (shows : List ℕ → FormFault → Type 0)
    → IsReader p Good form shows → IsReader (λ text. cond b (p text) (Err d)) (λ a. IsTrue b × Good a) form (ShowsUnless b d shows)
guarded b d p Good form shows reader = record {
  again = λ a rest good. ap (λ c. cond c (p (form a ++ rest)) (Err d)) good.0 ∙ reader.again a rest good.1;
  found = λ text a rest fits e.
      let s = cond_ok b (p text) d (a, rest) e in
      let one = reader.found text a rest fits s.1 in ((s.0, one.0), one.1);
  shown_read = λ text f shown. elim shown [
    | inl (off, is) ↦ ap (λ c. cond c (p text) (Err d)) off ∙ ap (λ (f : FormFault). Err f) (sym is)
    | inr (on, there) ↦ ap (λ c. cond c (p text) (Err d)) on ∙ reader.shown_read text f there
  ];
  read_shown = λ text f fits e. elim (cond_err b (p text) d f e) [
    | inl off ↦ inl off
    | inr (on, there) ↦ inr (on, reader.read_shown text f fits there)
  ];
}

-- the same reader, its values said otherwise
pub said : {A : Type 0} (p : List ℕ → Result (A × List ℕ) FormFault) (Good Better : A → Type 0) (form : A → List ℕ) (shows : List ℕ → FormFault → Type 0)
    → ((a : A) → Good a → Better a) → ((a : A) → Better a → Good a) → IsReader p Good form shows → IsReader p Better form shows
said p Good Better form shows to from reader = record {
  again = λ a rest good. reader.again a rest (from a good);
  found = λ text a rest fits e. let one = reader.found text a rest fits e in (to a one.0, one.1);
  shown_read = reader.shown_read;
  read_shown = reader.read_shown;
}

-- the same reader, its values' bytes said otherwise
pub formed : {A : Type 0} (p : List ℕ → Result (A × List ℕ) FormFault) (Good : A → Type 0) (form other : A → List ℕ) (shows : List ℕ → FormFault → Type 0)
    → ((a : A) → other a ≡ form a) → IsReader p Good form shows → IsReader p Good other shows
formed p Good form other shows same reader = record {
  again = λ a rest good. ap (λ bs. p (bs ++ rest)) (same a) ∙ reader.again a rest good;
  found = λ text a rest fits e. let one = reader.found text a rest fits e in (one.0, one.1 ∙ ap (λ bs. bs ++ rest) (sym (same a)));
  shown_read = reader.shown_read;
  read_shown = reader.read_shown;
}

-- a value made of what was read
pub made : {A B : Type 0} (p : List ℕ → Result (A × List ℕ) FormFault) (Good : A → Type 0) (form : A → List ℕ) (shows : List ℕ → FormFault → Type 0) (f : A → B) (back : B → A) (Made : B → Type 0) (made_form : B → List ℕ)
    → ((a : A) → Good a → Made (f a) × (made_form (f a) ≡ form a))
    → ((b : B) → Made b → Good (back b) × (f (back b) ≡ b) × (made_form b ≡ form (back b)))
    → IsReader p Good form shows → IsReader (λ text. p text >>= λ x. Ok (f x.0, x.1)) Made made_form shows
made {A} {B} p Good form shows f back Made made_form to from reader = record {
  again = λ b rest good.
      let old = from b good in
      ap (λ bs. p (bs ++ rest) >>= λ x. Ok (f x.0, x.1)) old.2 ∙ ap (λ r. r >>= λ x. Ok (f x.0, x.1)) (reader.again (back b) rest old.0) ∙ ap (λ (b : B). Ok (b, rest)) old.1;
  found = λ text b rest fits e.
      let s = bind_ok (p text) (λ x. Ok (f x.0, x.1)) (b, rest) e in
      let one = reader.found text s.0.0 s.0.1 fits s.1 in
      let new = to s.0.0 one.0 in
      let same = ok_is (f s.0.0, s.0.1) (b, rest) s.2 in
      subst (λ (y : B × List ℕ). Made y.0 × (text ≡ made_form y.0 ++ y.1)) same (new.0, one.1 ∙ ap (λ bs. bs ++ s.0.1) (sym new.1));
  shown_read = λ text d shown. ap (λ r. r >>= λ x. Ok (f x.0, x.1)) (reader.shown_read text d shown);
  read_shown = λ text d fits e. elim (bind_err (p text) (λ x. Ok (f x.0, x.1)) d e) [
    | inl here ↦ reader.read_shown text d fits here
    | inr (x, was, there) ↦ absurd (let never : Ok (f x.0, x.1) ≡ Err d = there in cc)
  ];
}

-- one value and then another
pub paired : {A B : Type 0} (p : List ℕ → Result (A × List ℕ) FormFault) (q : List ℕ → Result (B × List ℕ) FormFault)
    (First : A → Type 0) (first_form : A → List ℕ) (first_shows : List ℕ → FormFault → Type 0) (Second : B → Type 0) (second_form : B → List ℕ) (second_shows : List ℕ → FormFault → Type 0)
    → IsReader p First first_form first_shows → IsReader q Second second_form second_shows
    → IsReader (pair_at p q) (λ x. First x.0 × Second x.1) (λ x. first_form x.0 ++ second_form x.1) (ShowsBehind First first_form first_shows (λ _. second_shows))
paired {A} {B} p q First first_form first_shows Second second_form second_shows first second =
    behind p (λ a text. q text >>= λ y. Ok ((a, y.0), y.1)) First first_form first_shows (λ (x : A × B). Second x.1) (λ (x : A × B). second_form x.1) (λ _. second_shows) (λ (x : A × B). x.0) first
    (λ a good. made q Second second_form second_shows (λ b. (a, b)) (λ (x : A × B). x.1) (λ (x : A × B). (x.0 ≡ a) × Second x.1) (λ (x : A × B). second_form x.1)
    (λ b second_good. ((refl, second_good), refl))
    (λ x second_good. (second_good.1, ap (λ (y : A). (y, x.1)) (sym second_good.0), refl))
    second)

-- ---- fields of fixed lengths

pub record IsFixed {A : Type 0} (k : ℕ) (p : List ℕ → Result (A × List ℕ) FormFault) (Good : A → Type 0) (form : A → List ℕ) : Type 0 where
  pub again : (a : A) (rest : List ℕ) → Good a → p (form a ++ rest) ≡ Ok (a, rest)
  pub found : (text : List ℕ) (a : A) (rest : List ℕ) → IsBytes text → p text ≡ Ok (a, rest) → Good a × (text ≡ form a ++ rest)
  pub size : (text : List ℕ) (a : A) (rest : List ℕ) → p text ≡ Ok (a, rest) → length text ≡ k + length rest
  pub short : (text : List ℕ) → length text < k → p text ≡ Err Short
  pub cut : (text : List ℕ) (f : FormFault) → p text ≡ Err f → IsCut k text f

pub fixed : {A : Type 0} (k : ℕ) (p : List ℕ → Result (A × List ℕ) FormFault) (Good : A → Type 0) (form : A → List ℕ) → IsFixed k p Good form → IsReader p Good form (IsCut k)
fixed k p Good form field = record {
  again = field.again;
  found = field.found;
  shown_read = λ text f cut. field.short text cut.1 ∙ ap (λ (f : FormFault). Err f) (sym cut.0);
  read_shown = λ text f fits. field.cut text f;
}

guard_ok : {A : Type 0} (b : Bool) (d : FormFault) (x y : A) → cond b (Err d) (Ok x) ≡ Ok y → (b ≡ false) × (x ≡ y)
guard_ok true d x y e = absurd cc
guard_ok false d x y e = (refl, cc)

guard_err : {A : Type 0} (b : Bool) (d f : FormFault) (x : A) → cond b (Err d) (Ok x) ≡ Err f → (b ≡ true) × (f ≡ d)
guard_err true d f x e = (refl, cc)
guard_err false d f x e = absurd cc

pub bytes_field : (n : ℕ) → IsFixed n (bytes_at n) (λ bytes. length bytes ≡ n) (λ bytes. bytes)
bytes_field n = record {
  again = λ bytes rest len. bytes_found n (bytes ++ rest) bytes rest bytes len refl refl;
  found = λ text bytes rest fits e.
      let g = guard_ok (ltb (length text) n) Short (take n text, drop n text) (bytes, rest) e in
      let long : n ≤ length text = ltb-false _ _ g.0 in
      let len : length (take n text) ≡ n = omega (arith, length-take n text) in
      subst (λ (y : List ℕ × List ℕ). (length y.0 ≡ n) × (text ≡ y.0 ++ y.1)) g.1 (len, sym (take-append-drop n text));
  size = λ text bytes rest e.
      let g = guard_ok (ltb (length text) n) Short (take n text, drop n text) (bytes, rest) e in
      let long : n ≤ length text = ltb-false _ _ g.0 in
      let rest_is : drop n text ≡ rest = ap (λ (y : List ℕ × List ℕ). y.1) g.1 in
      omega (arith, ap length rest_is, length-drop n text);
  short = λ text lt. rw (lt-ltb (length text) n lt) refl;
  cut = λ text f e. let g = guard_err (ltb (length text) n) Short f (take n text, drop n text) e in (g.1, ltb-true _ _ g.0);
}

pub number_field : (w : Width) (limit : ℕ) → IsWide w limit → IsFixed (byte_len w) (number_at w) (λ n. n < limit) (to_be_bytes w)
number_field w limit wide = record {
  again = λ n rest lt.
      let len = wide.len n in
      let long : ltb (length (to_be_bytes w n ++ rest)) (byte_len w) ≡ false = le-ltb _ _ (omega (arith, length-append (to_be_bytes w n) rest)) in
      rw (long, take_at (to_be_bytes w n) rest (byte_len w) len, drop_at (to_be_bytes w n) rest (byte_len w) len, wide.again n lt) refl;
  found = λ text n rest fits e.
      let g = guard_ok (ltb (length text) (byte_len w)) Short (from_be_bytes w (take (byte_len w) text), drop (byte_len w) text) (n, rest) e in
      let long : byte_len w ≤ length text = ltb-false _ _ g.0 in
      let front_fits = IsBytes-take (byte_len w) text fits in
      let front = wide.back (take (byte_len w) text) (omega (arith, length-take (byte_len w) text)) front_fits in
      subst (λ (y : ℕ × List ℕ). (y.0 < limit) × (text ≡ to_be_bytes w y.0 ++ y.1)) g.1
      (wide.below (take (byte_len w) text) front_fits, rw front (sym (take-append-drop (byte_len w) text)));
  size = λ text n rest e.
      let g = guard_ok (ltb (length text) (byte_len w)) Short (from_be_bytes w (take (byte_len w) text), drop (byte_len w) text) (n, rest) e in
      let long : byte_len w ≤ length text = ltb-false _ _ g.0 in
      let rest_is : drop (byte_len w) text ≡ rest = ap (λ (y : ℕ × List ℕ). y.1) g.1 in
      omega (arith, ap length rest_is, length-drop (byte_len w) text);
  short = λ text lt. rw (lt-ltb (length text) (byte_len w) lt) refl;
  cut = λ text f e. let g = guard_err (ltb (length text) (byte_len w)) Short f (from_be_bytes w (take (byte_len w) text), drop (byte_len w) text) e in (g.1, ltb-true _ _ g.0);
}

cases_read : {A : Type 0} (r : Result A FormFault) → ((x : A) × (r ≡ Ok x)) ⊎ ((f : FormFault) × (r ≡ Err f))
cases_read (Ok x) = inl (x, refl)
cases_read (Err f) = inr (f, refl)

module _ {A B : Type 0} (k l : ℕ) (p : List ℕ → Result (A × List ℕ) FormFault) (q : List ℕ → Result (B × List ℕ) FormFault) (First : A → Type 0) (first_form : A → List ℕ) (Second : B → Type 0) (second_form : B → List ℕ)
    (first : IsFixed k p First first_form) (second : IsFixed l q Second second_form) where
  abbrev step : (A × List ℕ) → Result ((A × B) × List ℕ) FormFault
  step x = q x.1 >>= λ y. Ok ((x.0, y.0), y.1)

  pub pair_field : IsFixed (k + l) (pair_at p q) (λ x. First x.0 × Second x.1) (λ x. first_form x.0 ++ second_form x.1)
  pair_field = record {
    again = λ x rest good.
        let one = first.again x.0 (second_form x.1 ++ rest) good.0 in
        let two = second.again x.1 rest good.1 in
        ap (pair_at p q) (append_assoc (first_form x.0) (second_form x.1) rest) ∙ ap (λ r. r >>= step) one ∙ ap (λ r. r >>= λ y. Ok ((x.0, y.0), y.1)) two;
    found = λ text x rest fits e.
        let s = bind_ok (p text) step (x, rest) e in
        let t = bind_ok (q s.0.1) (λ y. Ok ((s.0.0, y.0), y.1)) (x, rest) s.2 in
        let one = first.found text s.0.0 s.0.1 fits s.1 in
        let two = second.found s.0.1 t.0.0 t.0.1 (IsBytes-rest text (first_form s.0.0) s.0.1 one.1 fits) t.1 in
        let same = ok_is ((s.0.0, t.0.0), t.0.1) (x, rest) t.2 in
        subst (λ (y : (A × B) × List ℕ). (First y.0.0 × Second y.0.1) × (text ≡ (first_form y.0.0 ++ second_form y.0.1) ++ y.1)) same
        ((one.0, two.0), one.1 ∙ ap (λ bs. first_form s.0.0 ++ bs) two.1 ∙ sym (append_assoc (first_form s.0.0) (second_form t.0.0) t.0.1));
    size = λ text x rest e.
        let s = bind_ok (p text) step (x, rest) e in
        let t = bind_ok (q s.0.1) (λ y. Ok ((s.0.0, y.0), y.1)) (x, rest) s.2 in
        let same = ok_is ((s.0.0, t.0.0), t.0.1) (x, rest) t.2 in
        let rest_is : t.0.1 ≡ rest = ap (λ (y : (A × B) × List ℕ). y.1) same in
        omega (arith, first.size text s.0.0 s.0.1 s.1, second.size s.0.1 t.0.0 t.0.1 t.1, ap length rest_is);
    short = λ text lt. elim (cases_read (p text)) [
      | inl (x, e) ↦
          let after : length x.1 < l = omega (arith, first.size text x.0 x.1 e, lt) in
          ap (λ r. r >>= step) e ∙ ap (λ r. r >>= λ y. Ok ((x.0, y.0), y.1)) (second.short x.1 after)
      | inr (f, e) ↦ ap (λ r. r >>= step) e ∙ ap (λ (f : FormFault). Err f) (first.cut text f e).0
    ];
    cut = λ text f e. elim (bind_err (p text) step f e) [
      | inl here ↦ let c = first.cut text f here in (c.0, omega (arith, c.1))
      | inr (x, was, there) ↦ elim (bind_err (q x.1) (λ y. Ok ((x.0, y.0), y.1)) f there) [
        | inl here ↦ let c = second.cut x.1 f here in (c.0, omega (arith, c.1, first.size text x.0 x.1 was))
        | inr (y, was', never) ↦ absurd (let no : Ok ((x.0, y.0), y.1) ≡ Err f = never in cc)
      ]
    ];
  }

-- ---- items in rising ids

module _ {A : Type 0} (item : Option ℕ → List ℕ → Result (A × List ℕ) FormFault) (id : A → ℕ) (Good : A → Type 0) (form : A → List ℕ) (shows : Option ℕ → List ℕ → FormFault → Type 0)
    (reader : (before : Option ℕ) → IsReader (item before) (λ a. IsTrue (is_above before (id a)) × Good a) form (shows before)) where
  abbrev AmongFrom : Option ℕ → ℕ → List ℕ → FormFault → Type 0
  AmongFrom start number text fault =
      (before : List A) × (rest : List ℕ) × (text ≡ flat_map form before ++ rest) × RisesFrom start (map id before) × AllByRecursion Good before × (length before < number) × shows (last_id start (map id before)) rest fault

  abbrev go_on : ℕ → (A × List ℕ) → Result (List A × List ℕ) FormFault
  go_on n first = each_at item id n (Some (id first.0)) first.1 >>= λ others. Ok (first.0 ∷ others.0, others.1)

  each_again : (xs : List A) (start : Option ℕ) (rest : List ℕ) → RisesFrom start (map id xs) → AllByRecursion Good xs → each_at item id (length xs) start (flat_map form xs ++ rest) ≡ Ok (xs, rest)
  unfolding each_at
  each_again [] start rest up good = refl
  each_again (a ∷ xs) start rest up good =
      let regrouped : flat_map form (a ∷ xs) ++ rest ≡ form a ++ (flat_map form xs ++ rest) = ap (λ (x : List ℕ). x ++ rest) (flat_map-cons form a xs) ∙ append_assoc (form a) (flat_map form xs) rest in
      ap (each_at item id (suc (length xs)) start) regrouped
      ∙ ap (λ r. r >>= go_on (length xs)) ((reader start).again a (flat_map form xs ++ rest) (up.0, good.0))
      ∙ ap (λ r. r >>= λ others. Ok (a ∷ others.0, others.1)) (each_again xs (Some (id a)) rest up.1 good.1)

  each_found : (n : ℕ) (start : Option ℕ) (text : List ℕ) (xs : List A) (rest : List ℕ) → IsBytes text → each_at item id n start text ≡ Ok (xs, rest)
      → ((length xs ≡ n) × RisesFrom start (map id xs) × AllByRecursion Good xs) × (text ≡ flat_map form xs ++ rest)
  unfolding each_at
  each_found zero start text xs rest fits e =
      subst (λ (y : List A × List ℕ). ((length y.0 ≡ 0) × RisesFrom start (map id y.0) × AllByRecursion Good y.0) × (text ≡ flat_map form y.0 ++ y.1)) (ok_is ([], text) (xs, rest) e) ((refl, tt, tt), refl)
  each_found (suc n) start text xs rest fits e =
      let s = bind_ok (item start text) (go_on n) (xs, rest) e in
      let t = bind_ok (each_at item id n (Some (id s.0.0)) s.0.1) (λ others. Ok (s.0.0 ∷ others.0, others.1)) (xs, rest) s.2 in
      let one = (reader start).found text s.0.0 s.0.1 fits s.1 in
      let more = each_found n (Some (id s.0.0)) s.0.1 t.0.0 t.0.1 (IsBytes-rest text (form s.0.0) s.0.1 one.1 fits) t.1 in
      let regrouped : text ≡ flat_map form (s.0.0 ∷ t.0.0) ++ t.0.1 =
      one.1 ∙ ap (λ bs. form s.0.0 ++ bs) more.1 ∙ sym (append_assoc (form s.0.0) (flat_map form t.0.0) t.0.1) ∙ ap (λ (x : List ℕ). x ++ t.0.1) (sym (flat_map-cons form s.0.0 t.0.0)) in
      subst (λ (y : List A × List ℕ). ((length y.0 ≡ suc n) × RisesFrom start (map id y.0) × AllByRecursion Good y.0) × (text ≡ flat_map form y.0 ++ y.1)) (ok_is (s.0.0 ∷ t.0.0, t.0.1) (xs, rest) t.2)
      ((ap suc more.0.0, (one.0.0, more.0.1), (one.0.1, more.0.2)), regrouped)

  each_shown_read : (n : ℕ) (before : List A) (start : Option ℕ) (rest : List ℕ) (f : FormFault) → RisesFrom start (map id before) → AllByRecursion Good before → length before < n → shows (last_id start (map id before)) rest f
      → each_at item id n start (flat_map form before ++ rest) ≡ Err f
  unfolding each_at
  each_shown_read zero before start rest f up good lt shown = absurd (omega (arith, lt))
  each_shown_read (suc n) [] start rest f up good lt shown = ap (λ r. r >>= go_on n) ((reader start).shown_read rest f shown)
  each_shown_read (suc n) (a ∷ xs) start rest f up good lt shown =
      let regrouped : flat_map form (a ∷ xs) ++ rest ≡ form a ++ (flat_map form xs ++ rest) = ap (λ (x : List ℕ). x ++ rest) (flat_map-cons form a xs) ∙ append_assoc (form a) (flat_map form xs) rest in
      ap (each_at item id (suc n) start) regrouped
      ∙ ap (λ r. r >>= go_on n) ((reader start).again a (flat_map form xs ++ rest) (up.0, good.0))
      ∙ ap (λ r. r >>= λ others. Ok (a ∷ others.0, others.1)) (each_shown_read n xs (Some (id a)) rest f up.1 good.1 (omega (arith, lt)) shown)

  each_read_shown : (n : ℕ) (start : Option ℕ) (text : List ℕ) (f : FormFault) → IsBytes text → each_at item id n start text ≡ Err f → AmongFrom start n text f
  unfolding each_at
  each_read_shown zero start text f fits e = absurd cc
  each_read_shown (suc n) start text f fits e =
      elim (bind_err (item start text) (go_on n) f e) [
        | inl here ↦ ([], text, refl, tt, tt, omega arith, (reader start).read_shown text f fits here)
        | inr (x, was, there) ↦ elim (bind_err (each_at item id n (Some (id x.0)) x.1) (λ others. Ok (x.0 ∷ others.0, others.1)) f there) [
          | inl here ↦
              let one = (reader start).found text x.0 x.1 fits was in
              let (before, rest, parts, up, good, lt, shown) = each_read_shown n (Some (id x.0)) x.1 f (IsBytes-rest text (form x.0) x.1 one.1 fits) here in
              let regrouped : text ≡ flat_map form (x.0 ∷ before) ++ rest =
              one.1 ∙ ap (λ bs. form x.0 ++ bs) parts ∙ sym (append_assoc (form x.0) (flat_map form before) rest) ∙ ap (λ (bs : List ℕ). bs ++ rest) (sym (flat_map-cons form x.0 before)) in
              (x.0 ∷ before, rest, regrouped, (one.0.0, up), (one.0.1, good), omega (arith, lt), shown)
          | inr (y, was', never) ↦ absurd (let no : Ok (x.0 ∷ y.0, y.1) ≡ Err f = never in cc)
        ]
      ]

  pub items_reader : (n : ℕ) → IsReader (each_at item id n None) (λ xs. (length xs ≡ n) × RisesFrom None (map id xs) × AllByRecursion Good xs) (flat_map form) (AmongFrom None n)
  items_reader n = record {
    again = λ xs rest good. ap (λ k. each_at item id k None (flat_map form xs ++ rest)) (sym good.0) ∙ each_again xs None rest good.1 good.2;
    found = λ text xs rest fits e. each_found n None text xs rest fits e;
    shown_read = λ text f shown. let (before, rest, parts, up, good, lt, there) = shown in ap (each_at item id n None) parts ∙ each_shown_read n before None rest f up good lt there;
    read_shown = λ text f fits e. each_read_shown n None text f fits e;
  }
