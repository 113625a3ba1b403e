-- Forms: no two good values have the same bytes, a good value's bytes show no fault, and others show one at most.
use Rattle.std.proofs.Common.{◌≡◌, ℕ, suc, ◌+◌, ◌^◌, ◌<◌, ◌≤◌, ◌⊎◌, inl, inr, Bool, true, false, eqb, List, [], ◌∷◌, ◌++◌, length, map, take, drop, Result, Ok, Err, refl, sym, ap, subst, ◌∙◌, append_assoc, arith}
use Rattle.std.specs.Prelude.{IsTrue, IsFalse, IfOk, IfErr, ⊤}
use Rattle.std.specs.Int.{w16, w32, from_be_bytes, to_be_bytes}
use Rattle.std.proofs.lemmas.Bool.{eqb-true, eq-eqb}
use Rattle.std.proofs.lemmas.List.{append-nil, length-append, take_at, drop_at}
use Rattle.std.proofs.lemmas.Nat.{from_be_bytes-to_be_bytes_2, from_be_bytes-to_be_bytes_4}
use Rattle.nim_base.specs.declared.form_fault.FormFault.{FormFault}
use Rattle.nim_base.specs.declared.form_fault.FormFault.TheVariants.{Short, Kind, Value, Trailing, NoMemory}
use Rattle.statement.specs.FormFault.{IsCut, ShowsBehind, ShowsBehindByte, ShowsUnless, ShowsInWhole, Gives, byte_form}
use Rattle.statement.specs.Reading.{MayGive}
use Rattle.port.specs.Field.{IsBytesOf, FieldBegins, sized, SizedBegins, ShowsBehindKind}

-- anything may stand behind the value, or nothing
abbrev pub Any : List ℕ → Type 0
Any rest = ⊤

abbrev pub Ended : List ℕ → Type 0
Ended rest = rest ≡ []

-- in this text
pub record IsForm {A : Type 0} (Behind : List ℕ → Type 0) (Good : A → Type 0) (form : A → List ℕ) (shows : List ℕ → FormFault → Type 0) (text : List ℕ) : Type 0 where
  pub apart : (a b : A) (r s : List ℕ) → Good a → Good b → Behind r → Behind s → text ≡ form a ++ r → text ≡ form b ++ s → (a ≡ b) × (r ≡ s)
  pub clear : (a : A) (r : List ℕ) (f : FormFault) → Good a → Behind r → text ≡ form a ++ r → shows text f → ⊥
  pub one : (f g : FormFault) → shows text f → shows text g → f ≡ g

-- the values said otherwise
pub said : {A : Type 0} (Behind : List ℕ → Type 0) (Good Better : A → Type 0) (form : A → List ℕ) (shows : List ℕ → FormFault → Type 0) (text : List ℕ)
    → ((a : A) → Better a → Good a) → IsForm Behind Good form shows text → IsForm Behind Better form shows text
said Behind Good Better form shows text from is = record {
  apart = λ a b r s good_a good_b. is.apart a b r s (from a good_a) (from b good_b);
  clear = λ a r f good. is.clear a r f (from a good);
  one = is.one;
}

-- the same form of values that hold these
pub held : {A B : Type 0} (Behind : List ℕ → Type 0) (Good : A → Type 0) (form : A → List ℕ) (shows : List ℕ → FormFault → Type 0) (text : List ℕ) (Holds : B → Type 0) (of : B → A)
    → ((b : B) → Holds b → Good (of b)) → ((b c : B) → Holds b → Holds c → of b ≡ of c → b ≡ c) → IsForm Behind Good form shows text → IsForm Behind Holds (λ b. form (of b)) shows text
held Behind Good form shows text Holds of good own is = record {
  apart = λ a b r s holds_a holds_b ends_a ends_b at_a at_b.
      let same = is.apart (of a) (of b) r s (good a holds_a) (good b holds_b) ends_a ends_b at_a at_b in (own a b holds_a holds_b same.0, same.1);
  clear = λ a r f holds. is.clear (of a) r f (good a holds);
  one = is.one;
}

-- a field of one length
pub fixed : {A : Type 0} (k : ℕ) (Good : A → Type 0) (form : A → List ℕ) → ((a : A) → Good a → length (form a) ≡ k) → ((a b : A) → Good a → Good b → form a ≡ form b → a ≡ b)
    → (text : List ℕ) → IsForm Any Good form (IsCut k) text
fixed k Good form len own text = record {
  apart = λ a b r s good_a good_b any any' at_a at_b.
      let front = sym (ap (take k) at_a ∙ take_at (form a) r k (len a good_a)) ∙ ap (take k) at_b ∙ take_at (form b) s k (len b good_b) in
      let rest = sym (ap (drop k) at_a ∙ drop_at (form a) r k (len a good_a)) ∙ ap (drop k) at_b ∙ drop_at (form b) s k (len b good_b) in
      (own a b good_a good_b front, rest);
  clear = λ a r f good any at cut. omega (arith, ap length at, length-append (form a) r, len a good, cut.1);
  one = λ f g cut_f cut_g. cut_f.0 ∙ sym cut_g.0;
}

bytes_own : (a b : ℕ) → byte_form a ≡ byte_form b → a ≡ b
bytes_own a b e = cc

pub byte : (text : List ℕ) → IsForm Any (λ n. n < 2 ^ 8) byte_form (IsCut 1) text
byte = fixed 1 (λ n. n < 2 ^ 8) byte_form (λ n lt. refl) (λ a b lt lt' e. bytes_own a b e)

pub number16 : (text : List ℕ) → IsForm Any (λ n. n < 2 ^ 16) (to_be_bytes w16) (IsCut 2) text
number16 = fixed 2 (λ n. n < 2 ^ 16) (to_be_bytes w16) (λ n lt. refl) (λ a b lt lt' e. sym (from_be_bytes-to_be_bytes_2 a lt) ∙ ap (from_be_bytes w16) e ∙ from_be_bytes-to_be_bytes_2 b lt')

pub number32 : (text : List ℕ) → IsForm Any (λ n. n < 2 ^ 32) (to_be_bytes w32) (IsCut 4) text
number32 = fixed 4 (λ n. n < 2 ^ 32) (to_be_bytes w32) (λ n lt. refl) (λ a b lt lt' e. sym (from_be_bytes-to_be_bytes_4 a lt) ∙ ap (from_be_bytes w32) e ∙ from_be_bytes-to_be_bytes_4 b lt')

pub bytes : (k : ℕ) (text : List ℕ) → IsForm Any (λ bs. length bs ≡ k) (λ bs. bs) (IsCut k) text
bytes k = fixed k (λ bs. length bs ≡ k) (λ bs. bs) (λ bs len. len) (λ a b len len' e. e)

-- a value, and what its own form begins with
module _ {A B : Type 0} (Behind : List ℕ → Type 0) (First : A → Type 0) (first_form : A → List ℕ) (first : List ℕ → FormFault → Type 0)
    (Next : B → Type 0) (next_form : B → List ℕ) (next : A → List ℕ → FormFault → Type 0) (of : B → A) (text : List ℕ)
    (front : IsForm Any First first_form first text)
    (back : (a : A) (rest : List ℕ) → First a → text ≡ first_form a ++ rest → IsForm Behind (λ b. (of b ≡ a) × Next b) next_form (next a) rest) where
  regroup : (b : B) (r : List ℕ) → text ≡ (first_form (of b) ++ next_form b) ++ r → text ≡ first_form (of b) ++ (next_form b ++ r)
  regroup b r at = at ∙ append_assoc (first_form (of b)) (next_form b) r

  pub behind : IsForm Behind (λ b. First (of b) × Next b) (λ b. first_form (of b) ++ next_form b) (ShowsBehind First first_form first next) text
  behind = record {
    apart = λ a b r s good_a good_b ends_a ends_b at_a at_b.
        let here = front.apart (of a) (of b) (next_form a ++ r) (next_form b ++ s) good_a.0 good_b.0 tt tt (regroup a r at_a) (regroup b s at_b) in
        (back (of a) (next_form a ++ r) good_a.0 (regroup a r at_a)).apart a b r s (refl, good_a.1) (sym here.0, good_b.1) ends_a ends_b refl here.1;
    clear = λ b r f good ends at shown. elim shown [
      | inl there ↦ front.clear (of b) (next_form b ++ r) f good.0 tt (regroup b r at) there
      | inr (a, rest, good_a, at_a, there) ↦
          let here = front.apart (of b) a (next_form b ++ r) rest good.0 good_a tt tt (regroup b r at) at_a in
          (back a rest good_a at_a).clear b r f (here.0, good.1) ends (sym here.1) there
    ];
    one = λ f g shown_f shown_g. elim shown_f [
      | inl here_f ↦ elim shown_g [
        | inl here_g ↦ front.one f g here_f here_g
        | inr (a, rest, good, at, there) ↦ absurd (front.clear a rest f good tt at here_f)
      ]
      | inr (a, rest, good, at, there) ↦ elim shown_g [
        | inl here_g ↦ absurd (front.clear a rest g good tt at here_g)
        | inr (a', rest', good', at', there') ↦
            let same = front.apart a a' rest rest' good good' tt tt at at' in
            (back a rest good at).one f g there (subst (λ (r : List ℕ). next a r g) (sym same.1) (subst (λ (x : A). next x rest' g) (sym same.0) there'))
      ]
    ];
  }

never : (b : Bool) → b ≡ true → b ≡ false → ⊥
never b on off = let e : true ≡ false = sym on ∙ off in cc

pub guarded : {A : Type 0} (Behind : List ℕ → Type 0) (b : Bool) (d : FormFault) (Good : A → Type 0) (form : A → List ℕ) (shows : List ℕ → FormFault → Type 0) (text : List ℕ)
    → IsForm Behind Good form shows text → IsForm Behind (λ a. IsTrue b × Good a) form (ShowsUnless b d shows) text
guarded Behind b d Good form shows text is = record {
  apart = λ x y r s good_x good_y. is.apart x y r s good_x.1 good_y.1;
  clear = λ a r f good ends at shown. elim shown [ inl off ↦ never b good.0 off.0 | inr on ↦ is.clear a r f good.1 ends at on.1 ];
  one = λ f g shown_f shown_g. elim shown_f [
    | inl off ↦ elim shown_g [ inl off' ↦ off.1 ∙ sym off'.1 | inr on' ↦ absurd (never b on'.0 off.0) ]
    | inr on ↦ elim shown_g [ inl off' ↦ absurd (never b on.0 off'.0) | inr on' ↦ is.one f g on.1 on'.1 ]
  ];
}

-- a kind, and what follows it
pub kinded : {A : Type 0} (Behind : List ℕ → Type 0) (kind : ℕ) → kind < 2 ^ 8 → (Good : A → Type 0) (form : A → List ℕ) (shows : List ℕ → FormFault → Type 0) (text : List ℕ)
    → ((rest : List ℕ) → IsForm Behind Good form shows rest) → IsForm Behind Good (λ a. kind ∷ form a) (ShowsBehindKind kind shows) text
kinded {A} Behind kind lt Good form shows text rest_is =
    said Behind (λ a. (kind < 2 ^ 8) × Good a) Good (λ a. byte_form kind ++ form a) (ShowsBehindKind kind shows) text (λ a good. (lt, good))
    (behind Behind (λ n. n < 2 ^ 8) byte_form (IsCut 1) Good form (λ k. ShowsUnless (eqb k kind) Kind shows) (λ (a : A). kind) text (byte text)
    (λ k rest fits at. said Behind (λ a. IsTrue (eqb k kind) × Good a) (λ a. (kind ≡ k) × Good a) form (ShowsUnless (eqb k kind) Kind shows) rest
    (λ a good. (eq-eqb k kind (sym good.0), good.1))
    (guarded Behind (eqb k kind) Kind Good form shows rest (rest_is rest))))

-- a field that holds a value, and one with its size before it
module _ {A : Type 0} (Good : A → Type 0) (form : A → List ℕ) (own : (a b : A) → Good a → Good b → form a ≡ form b → a ≡ b) where
  pub field : (size : ℕ) (text : List ℕ) → IsForm Any (λ a. (length (form a) ≡ size) × Good a) form (FieldBegins Good form size) text
  field size text = record {
    apart = λ a b r s good_a good_b any any' at_a at_b.
        let same = (bytes size text).apart (form a) (form b) r s good_a.0 good_b.0 tt tt at_a at_b in (own a b good_a.1 good_b.1 same.0, same.1);
    clear = λ a r f good any at shown. elim shown [
      | inl cut ↦ (bytes size text).clear (form a) r f good.0 tt at cut
      | inr (bs, rest, len, at', (other, is)) ↦
          let same = (bytes size text).apart (form a) bs r rest good.0 len tt tt at at' in
          other (a, good.1, sym same.0)
    ];
    one = λ f g shown_f shown_g. elim shown_f [
      | inl cut ↦ elim shown_g [ inl cut' ↦ cut.0 ∙ sym cut'.0 | inr (bs, rest, len, at, there) ↦ absurd ((bytes size text).clear bs rest f len tt at cut) ]
      | inr (bs, rest, len, at, (other, is)) ↦ elim shown_g [ inl cut' ↦ absurd ((bytes size text).clear bs rest g len tt at cut') | inr (bs', rest', len', at', (other', is')) ↦ is ∙ sym is' ]
    ];
  }

  pub sized_field : ((a : A) → Good a → length (form a) < 2 ^ 32) → (text : List ℕ) → IsForm Any Good (sized form) (SizedBegins Good form) text
  sized_field small text =
      said Any (λ a. (length (form a) < 2 ^ 32) × Good a) Good (sized form) (SizedBegins Good form) text (λ a good. (small a good, good))
      (behind Any (λ n. n < 2 ^ 32) (to_be_bytes w32) (IsCut 4) Good form (FieldBegins Good form) (λ a. length (form a)) text (number32 text) (λ size rest lt at. field size rest))

-- all of the bytes
pub whole : {A : Type 0} (Good : A → Type 0) (form : A → List ℕ) (shows : List ℕ → FormFault → Type 0) (text : List ℕ) → IsForm Any Good form shows text → IsForm Ended Good form (ShowsInWhole Good form shows) text
whole Good form shows text is = record {
  apart = λ a b r s good_a good_b ends_a ends_b. is.apart a b r s good_a good_b tt tt;
  clear = λ a r f good ends at shown. elim shown [
    | inl here ↦ is.clear a r f good tt at here
    | inr (b, rest, good', at', (trailing, some)) ↦
        let same = is.apart a b r rest good good' tt tt at at' in
        omega (arith, some, ap length (sym same.1 ∙ ends))
  ];
  one = λ f g shown_f shown_g. elim shown_f [
    | inl here_f ↦ elim shown_g [ inl here_g ↦ is.one f g here_f here_g | inr (b, rest, good, at, there) ↦ absurd (is.clear b rest f good tt at here_f) ]
    | inr (b, rest, good, at, (trailing, some)) ↦ elim shown_g [ inl here_g ↦ absurd (is.clear b rest g good tt at here_g) | inr (b', rest', good', at', (trailing', some')) ↦ trailing ∙ sym trailing' ]
  ];
}

-- what follows for all of the bytes
module _ {A : Type 0} (Good : A → Type 0) (form : A → List ℕ) (shows : List ℕ → FormFault → Type 0) (is : (text : List ℕ) → IsForm Ended Good form shows text) where
  at_end : (a : A) (text : List ℕ) → text ≡ form a → text ≡ form a ++ []
  at_end a text e = e ∙ sym (append-nil (form a))

  pub own_bytes : (a b : A) → Good a → Good b → form a ≡ form b → a ≡ b
  own_bytes a b good_a good_b e = ((is (form a)).apart a b [] [] good_a good_b refl refl (at_end a (form a) refl) (at_end b (form a) e)).0

  pub only : {B : Type 0} (view : B → A) (text : List ℕ) (r : Result B FormFault) → IfOk r (λ b. Good (view b) × (text ≡ form (view b))) → IfErr r (λ f. (f ≡ NoMemory) ⊎ shows text f)
      → (a : A) → Good a → text ≡ form a → MayGive view r (Ok a)
  only view text (Ok b) found fault a good at = ap (λ (x : A). Ok x) (own_bytes a (view b) good found.0 (sym at ∙ found.1))
  only view text (Err f) found (inl none) a good at = inl none
  only view text (Err f) found (inr shown) a good at = absurd ((is text).clear a [] f good refl (at_end a text at) shown)

  pub first : {B : Type 0} (view : B → A) (text : List ℕ) (r : Result B FormFault) → IfOk r (λ b. Good (view b) × (text ≡ form (view b))) → IfErr r (λ f. (f ≡ NoMemory) ⊎ shows text f)
      → (f : FormFault) → shows text f → MayGive view r (Err f)
  first view text (Ok b) found fault f shown = absurd ((is text).clear (view b) [] f found.0 refl (at_end (view b) text found.1) shown)
  first view text (Err g) found (inl none) f shown = inl none
  first view text (Err g) found (inr shown') f shown = inr (ap (λ (f : FormFault). Err f) ((is text).one f g shown shown'))

-- said of the answer itself
pub gives : {A : Type 0} (r answer : Result A FormFault) → MayGive (λ a. a) r answer → Gives r answer
gives (Ok a) answer given = inl (sym given)
gives (Err f) answer (inl none) = inr (ap (λ (f : FormFault). Err f) none)
gives (Err f) answer (inr given) = inl (sym given)
