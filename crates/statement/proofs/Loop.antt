-- Reading items one after the other, as a loop does.
use Rattle.std.proofs.Common.{◌≡◌, ℕ, suc, ◌-◌, ◌+◌, ◌≤◌, ◌<◌, List, [], ◌∷◌, ◌++◌, Option, Some, Result, Ok, Err, refl, sym, ap, ◌∙◌, append_assoc, arith}
use Rattle.std.proofs.lemmas.List.{append-nil}
use Rattle.nim_base.specs.declared.form_fault.FormFault.{FormFault}
use Rattle.statement.specs.Reading.{◌>>=◌, each_at}

-- what was read before, and what is still read
abbrev pub with_front : {A : Type 0} → List A → Result (List A × List ℕ) FormFault → Result (List A × List ℕ) FormFault
with_front front read = read >>= λ x. Ok (front ++ x.0, x.1)

regroup : {A : Type 0} (front : List A) (n : A) (read : Result (List A × List ℕ) FormFault) → with_front front (read >>= λ x. Ok (n ∷ x.0, x.1)) ≡ with_front (front ++ n ∷ []) read
regroup {A} front n (Ok x) = ap (λ (ns : List A). Ok (ns, x.1)) (simp append_assoc)
regroup front n (Err f) = refl

module _ {A : Type 0} (item : Option ℕ → List ℕ → Result (A × List ℕ) FormFault) (id : A → ℕ) (front : List A) (count i : ℕ) (before : Option ℕ) (text : List ℕ) (total : Result (List A × List ℕ) FormFault) where
  pub goes_on : (n : A) (after : List ℕ) → i < count → item before text ≡ Ok (n, after)
      → with_front front (each_at item id (count - i) before text) ≡ total → with_front (front ++ n ∷ []) (each_at item id (count - (i + 1)) (Some (id n)) after) ≡ total
  unfolding each_at
  goes_on n after lt h so_far =
      let k : count - i ≡ suc (count - (i + 1)) = omega arith in
      let one : with_front front (each_at item id (count - i) before text) ≡ with_front (front ++ n ∷ []) (each_at item id (count - (i + 1)) (Some (id n)) after) = rw (k, h) (regroup front n (each_at item id (count - (i + 1)) (Some (id n)) after)) in
      sym one ∙ so_far

  pub ends : (f : FormFault) → i < count → item before text ≡ Err f → with_front front (each_at item id (count - i) before text) ≡ total → total ≡ Err f
  unfolding each_at
  ends f lt h so_far =
      let k : count - i ≡ suc (count - (i + 1)) = omega arith in
      let one : with_front front (each_at item id (count - i) before text) ≡ Err f = rw (k, h) refl in
      sym so_far ∙ one

  pub is_done : count ≤ i → with_front front (each_at item id (count - i) before text) ≡ total → total ≡ Ok (front, text)
  unfolding each_at
  is_done le so_far =
      let k : count - i ≡ 0 = omega arith in
      let one : with_front front (each_at item id (count - i) before text) ≡ Ok (front, text) = rw k (ap (λ (ns : List A). Ok (ns, text)) (append-nil front)) in
      sym so_far ∙ one
