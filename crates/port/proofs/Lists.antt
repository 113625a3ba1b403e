-- Forms of lists: from 1 to 15 items in rising ids, with their number before them.
use Rattle.std.proofs.Common.{◌≡◌, ℕ, suc, ◌^◌, ◌<◌, ◌≤◌, ◌⊎◌, inl, inr, List, [], ◌∷◌, ◌++◌, length, map, Option, Some, None, refl, sym, ap, subst, ◌∙◌, append_assoc, arith}
use Rattle.std.specs.Prelude.{IsTrue}
use Rattle.std.specs.List.{flat_map, AllByRecursion}
use Rattle.std.proofs.lemmas.Bool.{and_parts, leb-true}
use Rattle.std.proofs.lemmas.List.Concat.{flat_map-cons}
use Rattle.nim_base.specs.declared.form_fault.FormFault.{FormFault}
use Rattle.nim_base.specs.declared.form_fault.FormFault.TheVariants.{Value}
use Rattle.statement.specs.Ids.{is_above, RisesFrom, last_id, IsRising}
use Rattle.statement.specs.FormFault.{IsCut, ShowsUnless, ShowsAmong, ShowsInList, byte_form, is_number}
use Rattle.port.specs.Finding.{AreItems}
use Rattle.port.proofs.Forms.{Any, IsForm, said, byte, behind, guarded}

module _ {A : Type 0} (id : A → ℕ) (Good : A → Type 0) (form : A → List ℕ) (shows : Option ℕ → List ℕ → FormFault → Type 0)
    (each : (before : Option ℕ) (text : List ℕ) → IsForm Any (λ a. IsTrue (is_above before (id a)) × Good a) form (shows before) text) where
  regroup : (a : A) (xs : List A) (rest text : List ℕ) → text ≡ flat_map form (a ∷ xs) ++ rest → text ≡ form a ++ (flat_map form xs ++ rest)
  regroup a xs rest text at = at ∙ ap (λ (bs : List ℕ). bs ++ rest) (flat_map-cons form a xs) ∙ append_assoc (form a) (flat_map form xs) rest

  from_same : (a b : A) (ids : List ℕ) → a ≡ b → RisesFrom (Some (id b)) ids → RisesFrom (Some (id a)) ids
  from_same a b ids same = subst (λ (x : A). RisesFrom (Some (id x)) ids) (sym same)

  items_apart : (start : Option ℕ) (xs ys : List A) (r s text : List ℕ) → length xs ≡ length ys → RisesFrom start (map id xs) → RisesFrom start (map id ys) → AllByRecursion Good xs → AllByRecursion Good ys
      → text ≡ flat_map form xs ++ r → text ≡ flat_map form ys ++ s → (xs ≡ ys) × (r ≡ s)
  items_apart start [] [] r s text len up up' all all' at at' = (refl, sym at ∙ at')
  items_apart start [] (y ∷ ys) r s text len up up' all all' at at' = absurd (omega (arith, len))
  items_apart start (x ∷ xs) [] r s text len up up' all all' at at' = absurd (omega (arith, len))
  items_apart start (x ∷ xs) (y ∷ ys) r s text len up up' all all' at at' =
      let here = (each start text).apart x y (flat_map form xs ++ r) (flat_map form ys ++ s) (up.0, all.0) (up'.0, all'.0) tt tt (regroup x xs r text at) (regroup y ys s text at') in
      let more = items_apart (Some (id x)) xs ys r s (flat_map form xs ++ r) (omega (arith, len)) up.1 (from_same x y (map id ys) here.0 up'.1) all.1 all'.1 refl here.1 in
      (ap (λ (z : A). z ∷ xs) here.0 ∙ ap (λ (zs : List A). y ∷ zs) more.0, more.1)

  -- one of more items shows it, though these are all good
  items_clear : (start : Option ℕ) (xs before : List A) (r rest text : List ℕ) (f : FormFault) → length before < length xs → RisesFrom start (map id xs) → RisesFrom start (map id before) → AllByRecursion Good xs → AllByRecursion Good before
      → text ≡ flat_map form xs ++ r → text ≡ flat_map form before ++ rest → shows (last_id start (map id before)) rest f → ⊥
  items_clear start [] before r rest text f lt up up' all all' at at' shown = omega (arith, lt)
  items_clear start (x ∷ xs) [] r rest text f lt up up' all all' at at' shown =
      (each start rest).clear x (flat_map form xs ++ r) f (up.0, all.0) tt (sym at' ∙ regroup x xs r text at) shown
  items_clear start (x ∷ xs) (b ∷ before) r rest text f lt up up' all all' at at' shown =
      let here = (each start text).apart b x (flat_map form before ++ rest) (flat_map form xs ++ r) (up'.0, all'.0) (up.0, all.0) tt tt (regroup b before rest text at') (regroup x xs r text at) in
      items_clear (Some (id b)) xs before r rest (flat_map form xs ++ r) f (omega (arith, lt)) (from_same b x (map id xs) here.0 up.1) up'.1 all.1 all'.1 refl (sym here.1) shown

  items_one : (start : Option ℕ) (before before' : List A) (rest rest' text : List ℕ) (f g : FormFault) → RisesFrom start (map id before) → RisesFrom start (map id before') → AllByRecursion Good before → AllByRecursion Good before'
      → text ≡ flat_map form before ++ rest → text ≡ flat_map form before' ++ rest' → shows (last_id start (map id before)) rest f → shows (last_id start (map id before')) rest' g → f ≡ g
  items_one start [] [] rest rest' text f g up up' all all' at at' shown shown' =
      (each start rest).one f g shown (subst (λ (bs : List ℕ). shows start bs g) (sym at' ∙ at) shown')
  items_one start [] (b ∷ before) rest rest' text f g up up' all all' at at' shown shown' =
      absurd ((each start rest).clear b (flat_map form before ++ rest') f (up'.0, all'.0) tt (sym at ∙ regroup b before rest' text at') shown)
  items_one start (b ∷ before) [] rest rest' text f g up up' all all' at at' shown shown' =
      absurd ((each start rest').clear b (flat_map form before ++ rest) g (up.0, all.0) tt (sym at' ∙ regroup b before rest text at) shown')
  items_one start (b ∷ before) (b' ∷ before') rest rest' text f g up up' all all' at at' shown shown' =
      let here = (each start text).apart b b' (flat_map form before ++ rest) (flat_map form before' ++ rest') (up.0, all.0) (up'.0, all'.0) tt tt (regroup b before rest text at) (regroup b' before' rest' text at') in
      let there : shows (last_id (Some (id b)) (map id before')) rest' g = subst (λ (x : A). shows (last_id (Some (id x)) (map id before')) rest' g) (sym here.0) shown' in
      items_one (Some (id b)) before before' rest rest' (flat_map form before ++ rest) f g up.1 (from_same b b' (map id before') here.0 up'.1) all.1 all'.1 refl here.1 shown there

  items : (n : ℕ) (text : List ℕ) → IsForm Any (AreItems id Good n) (flat_map form) (ShowsAmong Good form id shows n) text
  items n text = record {
    apart = λ a b r s good_a good_b any any' at_a at_b. items_apart None a b r s text (good_a.0 ∙ sym good_b.0) good_a.1 good_b.1 good_a.2 good_b.2 at_a at_b;
    clear = λ a r f good any at shown.
        let (before, rest, at', up, all, lt, there) = shown in
        items_clear None a before r rest text f (omega (arith, lt, good.0)) good.1 up good.2 all at at' there;
    one = λ f g shown_f shown_g.
        let (before, rest, at, up, all, lt, there) = shown_f in
        let (before', rest', at', up', all', lt', there') = shown_g in
        items_one None before before' rest rest' text f g up up' all all' at at' there there';
  }

  abbrev pub IsList : List A → Type 0
  IsList xs = IsTrue (is_number (length xs)) × IsRising (map id xs) × AllByRecursion Good xs

  few : (n : ℕ) → IsTrue (is_number n) → n < 2 ^ 8
  few n e = omega (arith, leb-true n 15 (and_parts _ _ e).1)

  pub list : (text : List ℕ) → IsForm Any IsList (λ xs. length xs ∷ flat_map form xs) (ShowsInList Good form id shows) text
  list text =
      said Any (λ xs. (length xs < 2 ^ 8) × IsList xs) IsList (λ xs. length xs ∷ flat_map form xs) (ShowsInList Good form id shows) text (λ xs good. (few (length xs) good.0, good))
      (behind Any (λ n. n < 2 ^ 8) byte_form (IsCut 1) IsList (flat_map form) (λ n. ShowsUnless (is_number n) Value (ShowsAmong Good form id shows n)) (λ xs. length xs) text (byte text)
      (λ n rest lt at. said Any (λ xs. IsTrue (is_number n) × AreItems id Good n xs) (λ xs. (length xs ≡ n) × IsList xs) (flat_map form) (ShowsUnless (is_number n) Value (ShowsAmong Good form id shows n)) rest
      (λ xs good. (subst (λ (k : ℕ). IsTrue (is_number k)) good.0 good.1.0, (good.0, good.1.1, good.1.2)))
      (guarded Any (is_number n) Value (AreItems id Good n) (flat_map form) (ShowsAmong Good form id shows n) rest (items n rest))))
