-- Readers of lists, of what stands behind a kind, and of all the bytes.
use Rattle.std.proofs.Common.{◌≡◌, ℕ, ◌^◌, ◌<◌, ◌≤◌, ◌⊎◌, inl, inr, Bool, true, false, cond, ltb, eqb, List, [], ◌∷◌, ◌++◌, length, map, Option, None, Result, Ok, Err, refl, sym, ap, subst, ◌∙◌, arith}
use Rattle.std.specs.Prelude.{IsTrue, ◌↔◌, IfOk, IfErr}
use Rattle.std.specs.List.{flat_map, AllByRecursion}
use Rattle.std.proofs.lemmas.Bool.{eqb-true, eq-eqb, and_parts, leb-true, ltb-true, lt-ltb, ltb-false}
use Rattle.std.proofs.lemmas.List.{append-nil, nil_from_length}
use Rattle.nim_base.specs.declared.form_fault.FormFault.{FormFault}
use Rattle.nim_base.specs.declared.form_fault.FormFault.TheVariants.{Kind, Value, Trailing, NoMemory}
use Rattle.statement.specs.Ids.{is_above, IsRising}
use Rattle.statement.specs.FormFault.{ShowsBehindByte, ShowsUnless, ShowsInList, ShowsInWhole, Gives, is_number}
use Rattle.statement.specs.Reading.{◌>>=◌, byte_at, each_at, list_at, whole, GivesJust, MayGive}
use Rattle.statement.proofs.Fields.{IsBytes}
use Rattle.statement.proofs.Readers.{IsReader, behind, guarded, said, byte_reader, items_reader, bind_ok, bind_err, ok_is}

pub few : (n : ℕ) → is_number n ≡ true → (1 ≤ n) × (n ≤ 15)
few n e = let p = and_parts _ _ e in (leb-true 1 n p.0, leb-true n 15 p.1)

-- a list of 1 to 15 items, its length first
module _ {A : Type 0} (item : Option ℕ → List ℕ → Result (A × List ℕ) FormFault) (id : A → ℕ) (Good : A → Type 0) (form : A → List ℕ) (shows : Option ℕ → List ℕ → FormFault → Type 0)
    (reader : (before : Option ℕ) → IsReader (item before) (λ a. IsTrue (is_above before (id a)) × Good a) form (shows before)) where
  abbrev pub IsList : List A → Type 0
  IsList xs = IsTrue (is_number (length xs)) × IsRising (map id xs) × AllByRecursion Good xs

  pub list_reader : IsReader (list_at item id) IsList (λ xs. length xs ∷ flat_map form xs) (ShowsInList Good form id shows)
  unfolding list_at
  list_reader =
      let Next : List A → Type 0 = IsList in
      let next : (n : ℕ) → n < 2 ^ 8 → IsReader (λ text. cond (is_number n) (each_at item id n None text) (Err Value)) (λ xs. (length xs ≡ n) × IsList xs) (flat_map form) _ =
      λ n lt. said _ (λ xs. IsTrue (is_number n) × ((length xs ≡ n) × IsRising (map id xs) × AllByRecursion Good xs)) (λ xs. (length xs ≡ n) × IsList xs) _ _
      (λ xs good. (good.1.0, (subst (λ (k : ℕ). IsTrue (is_number k)) (sym good.1.0) good.0, good.1.1, good.1.2)))
      (λ xs good. (subst (λ (k : ℕ). IsTrue (is_number k)) good.0 good.1.0, (good.0, good.1.1, good.1.2)))
      (guarded (is_number n) Value (each_at item id n None) _ _ _ (items_reader item id Good form shows reader n)) in
      said _ (λ xs. (length xs < 2 ^ 8) × IsList xs) IsList _ _ (λ xs good. good.1) (λ xs good. (omega (arith, (few (length xs) good.0).1), good))
      (behind byte_at (λ n text. cond (is_number n) (each_at item id n None text) (Err Value)) _ _ _ IsList (flat_map form) _ (λ xs. length xs) byte_reader next)

-- a kind, and what follows it
pub kinded : {A : Type 0} (kind : ℕ) → kind < 2 ^ 8 → (p : List ℕ → Result (A × List ℕ) FormFault) (Good : A → Type 0) (form : A → List ℕ) (shows : List ℕ → FormFault → Type 0) → IsReader p Good form shows
    → IsReader (λ text. byte_at text >>= λ k. cond (eqb k.0 kind) (p k.1) (Err Kind)) Good (λ a. kind ∷ form a) (ShowsBehindByte (λ k. ShowsUnless (eqb k kind) Kind shows))
kinded kind lt p Good form shows reader =
    said _ (λ a. (kind < 2 ^ 8) × Good a) Good _ _ (λ a good. good.1) (λ a good. (lt, good))
    (behind byte_at (λ k text. cond (eqb k kind) (p text) (Err Kind)) _ _ _ Good form _ (λ _. kind) byte_reader
    (λ k fits. said _ (λ a. IsTrue (eqb k kind) × Good a) (λ a. (kind ≡ k) × Good a) _ _ (λ a good. (sym (eqb-true k kind good.0), good.1)) (λ a good. (eq-eqb k kind (sym good.0), good.1)) (guarded (eqb k kind) Kind p Good form shows reader)))

-- ---- all of the bytes

module _ {A : Type 0} (p : List ℕ → Result (A × List ℕ) FormFault) (Good : A → Type 0) (form : A → List ℕ) (shows : List ℕ → FormFault → Type 0) (reader : IsReader p Good form shows) where
  abbrev failed : FormFault → Result A FormFault
  failed f = Err f

  abbrev last : (A × List ℕ) → Result A FormFault
  last x = cond (ltb 0 (length x.1)) (Err Trailing) (Ok x.0)

  pub whole_again : (a : A) → Good a → whole (p (form a)) ≡ Ok a
  whole_again a good =
      let one : p (form a) ≡ Ok (a, []) = ap p (sym (append-nil (form a))) ∙ reader.again a [] good in
      ap (λ r. r >>= last) one

  ended : (b : Bool) (x y : A) → cond b (Err Trailing) (Ok x) ≡ Ok y → (b ≡ false) × (x ≡ y)
  ended true x y e = absurd cc
  ended false x y e = (refl, cc)

  trailed : (b : Bool) (x : A) (f : FormFault) → cond b (Err Trailing) (Ok x) ≡ Err f → (b ≡ true) × (f ≡ Trailing)
  trailed true x f e = (refl, cc)
  trailed false x f e = absurd cc

  pub whole_found : (bytes : List ℕ) (a : A) → IsBytes bytes → whole (p bytes) ≡ Ok a → Good a × (bytes ≡ form a)
  whole_found bytes a fits e =
      let s = bind_ok (p bytes) last a e in
      let t = ended (ltb 0 (length s.0.1)) s.0.0 a s.2 in
      let one = reader.found bytes s.0.0 s.0.1 fits s.1 in
      let none : s.0.1 ≡ [] = nil_from_length s.0.1 (omega (arith, ltb-false 0 (length s.0.1) t.0)) in
      subst (λ (y : A). Good y × (bytes ≡ form y)) t.1 (one.0, one.1 ∙ ap (λ bs. form s.0.0 ++ bs) none ∙ append-nil (form s.0.0))

  pub shown_whole : (bytes : List ℕ) (f : FormFault) → ShowsInWhole Good form shows bytes f → whole (p bytes) ≡ Err f
  shown_whole bytes f (inl here) = ap (λ r. r >>= last) (reader.shown_read bytes f here)
  shown_whole bytes f (inr (a, rest, good, e, (is, some))) =
      ap (λ r. r >>= last) (ap p e ∙ reader.again a rest good) ∙ ap (λ b. cond b (Err Trailing) (Ok a)) (lt-ltb 0 (length rest) some) ∙ ap (λ (f : FormFault). Err f) (sym is)

  pub whole_shown : (bytes : List ℕ) (f : FormFault) → IsBytes bytes → whole (p bytes) ≡ Err f → ShowsInWhole Good form shows bytes f
  whole_shown bytes f fits e =
      elim (bind_err (p bytes) last f e) [
        | inl here ↦ inl (reader.read_shown bytes f fits here)
        | inr (x, was, there) ↦
            let one = reader.found bytes x.0 x.1 fits was in
            let t = trailed (ltb 0 (length x.1)) x.0 f there in
            inr (x.0, x.1, one.0, one.1, (t.1, ltb-true 0 (length x.1) t.0))
      ]

  pub one_form : (a b : A) → Good a → Good b → form a ≡ form b → a ≡ b
  one_form a b good_a good_b e = ok_is a b (sym (whole_again a good_a) ∙ ap (λ bs. whole (p bs)) e ∙ whole_again b good_b)

  err_is : (f g : FormFault) → failed f ≡ failed g → f ≡ g
  err_is f g e = cc

  pub one_fault : (bytes : List ℕ) (f g : FormFault) → ShowsInWhole Good form shows bytes f → ShowsInWhole Good form shows bytes g → f ≡ g
  one_fault bytes f g shown_f shown_g = err_is f g (sym (shown_whole bytes f shown_f) ∙ shown_whole bytes g shown_g)

  pub no_fault : (a : A) (f : FormFault) → Good a → ¬ ShowsInWhole Good form shows (form a) f
  no_fault a f good shown = let never : Ok a ≡ Err f = sym (whole_again a good) ∙ shown_whole (form a) f shown in cc

  -- from what a function answered to what its contract says

  pub just_found : (bytes : List ℕ) (r : Result A FormFault) → IsBytes bytes → GivesJust r (whole (p bytes)) → IfOk r (λ a. Good a × (bytes ≡ form a))
  just_found bytes (Ok a) fits given = whole_found bytes a fits given
  just_found bytes (Err f) fits given = tt

  pub just_only : (bytes : List ℕ) (r : Result A FormFault) → GivesJust r (whole (p bytes)) → (a : A) → Good a → bytes ≡ form a → r ≡ Ok a
  just_only bytes (Ok b) given a good e = sym given ∙ ap (λ bs. whole (p bs)) e ∙ whole_again a good
  just_only bytes (Err f) given a good e = sym given ∙ ap (λ bs. whole (p bs)) e ∙ whole_again a good

  pub just_fault : (bytes : List ℕ) (r : Result A FormFault) → IsBytes bytes → GivesJust r (whole (p bytes)) → (f : FormFault) → (r ≡ Err f) ↔ ShowsInWhole Good form shows bytes f
  just_fault bytes (Ok a) fits given f = (λ e. absurd cc, λ shown. sym given ∙ shown_whole bytes f shown)
  just_fault bytes (Err g) fits given f = (λ e. whole_shown bytes f fits (given ∙ e), λ shown. sym given ∙ shown_whole bytes f shown)

  pub may_found : (bytes : List ℕ) (r : Result A FormFault) → IsBytes bytes → MayGive (λ a. a) r (whole (p bytes)) → IfOk r (λ a. Good a × (bytes ≡ form a))
  may_found bytes (Ok a) fits given = whole_found bytes a fits given
  may_found bytes (Err f) fits given = tt

  pub may_only : (bytes : List ℕ) (r : Result A FormFault) → MayGive (λ a. a) r (whole (p bytes)) → (a : A) → Good a → bytes ≡ form a → Gives r (Ok a)
  may_only bytes (Ok b) given a good e = inl (sym given ∙ ap (λ bs. whole (p bs)) e ∙ whole_again a good)
  may_only bytes (Err f) (inl none) a good e = inr (ap (λ (f : FormFault). Err f) none)
  may_only bytes (Err f) (inr given) a good e = inl (sym given ∙ ap (λ bs. whole (p bs)) e ∙ whole_again a good)

  pub may_fault : (bytes : List ℕ) (r : Result A FormFault) → IsBytes bytes → MayGive (λ a. a) r (whole (p bytes)) → IfErr r (λ f. (f ≡ NoMemory) ⊎ ShowsInWhole Good form shows bytes f)
  may_fault bytes (Ok a) fits given = tt
  may_fault bytes (Err f) fits (inl none) = inl none
  may_fault bytes (Err f) fits (inr given) = inr (whole_shown bytes f fits given)

  pub may_first : (bytes : List ℕ) (r : Result A FormFault) → MayGive (λ a. a) r (whole (p bytes)) → (f : FormFault) → ShowsInWhole Good form shows bytes f → Gives r (Err f)
  may_first bytes (Ok a) given f shown = inl (sym given ∙ shown_whole bytes f shown)
  may_first bytes (Err g) (inl none) f shown = inr (ap (λ (f : FormFault). Err f) none)
  may_first bytes (Err g) (inr given) f shown = inl (sym given ∙ shown_whole bytes f shown)
