-- Cells by the ids of their endorsers.
use Rattle.std.proofs.Common.{◌≡◌, ◌≢◌, ℕ, zero, suc, ◌+◌, ◌<◌, Bool, true, false, eqb, cond, List, [], ◌∷◌, length, get_or, Option, Some, None, inl, inr, refl, sym, ap, subst, ◌∙◌, arith}
use Rattle.std.specs.List.{list_all}
use Rattle.std.proofs.lemmas.Bool.{eq-eqb, eqb-true, and_parts}
use Rattle.std.proofs.lemmas.Bool.Decides.{eqb_tells}
use Rattle.endorser_cell.specs.EndorserCell.{EndorserCell}
use Rattle.endorser_cell.specs.Cells.{cell_of, put_cell, IsPlaceOf}
use Rattle.endorser_cell.specs.CellBank.{has_no_line}

module _ {S C : Type 0} where
  -- none of the first cells has the id
  abbrev pub NotBefore : List (EndorserCell S C) → ℕ → ℕ → Type 0
  NotBefore [] n id = Unit {0}
  NotBefore (cell ∷ cells) zero id = Unit {0}
  NotBefore (cell ∷ cells) (suc n) id = (cell.endorser.id ≢ id) × NotBefore cells n id

  pub none_yet : (cells : List (EndorserCell S C)) (id : ℕ) → NotBefore cells 0 id
  none_yet [] id = tt
  none_yet (cell ∷ cells) id = tt

  pub not_more : (cells : List (EndorserCell S C)) (n id : ℕ) (other : EndorserCell S C) → NotBefore cells n id → (get_or cells n other).endorser.id ≢ id → NotBefore cells (suc n) id
  not_more [] n id other before here = tt
  not_more (cell ∷ []) zero id other before here = (here, tt)
  not_more (cell ∷ next ∷ cells) zero id other before here = (here, tt)
  not_more (cell ∷ cells) (suc n) id other before here = (before.0, not_more cells n id other before.1 here)

  pub one_more : (cells : List (EndorserCell S C)) (n id : ℕ) (other : EndorserCell S C) → NotBefore cells n id → (get_or cells n other).endorser.id ≢ id → NotBefore cells (n + 1) id
  one_more cells n id other before here = subst (λ (k : ℕ). NotBefore cells k id) (omega arith) (not_more cells n id other before here)

  pub nowhere : (cells : List (EndorserCell S C)) (id : ℕ) → NotBefore cells (length cells) id → cell_of cells id ≡ None
  nowhere [] id before = refl
  nowhere (cell ∷ cells) id before =
      elim (eqb_tells cell.endorser.id id) [
        | inl same ↦ absurd (before.0 same.1)
        | inr differs ↦ ap (λ (b : Bool). cond b (Some cell) (cell_of cells id)) differs.0 ∙ nowhere cells id before.1
      ]

  pub place_at : (cells : List (EndorserCell S C)) (n id : ℕ) (one : EndorserCell S C) → n < length cells → (get_or cells n one).endorser.id ≡ id → NotBefore cells n id → IsPlaceOf cells id n
  place_at [] n id one below here before = absurd (omega (arith, below))
  place_at (cell ∷ cells) zero id one below here before =
      let e : eqb cell.endorser.id id ≡ true = eq-eqb cell.endorser.id id here in
      record {
        in_range = below;
        found = λ other. ap (λ (b : Bool). cond b (Some cell) (cell_of cells id)) e;
        set = λ next. sym (ap (λ (b : Bool). cond b (next ∷ cells) (cell ∷ put_cell cells id next)) e);
      }
  place_at (cell ∷ cells) (suc n) id one below here before =
      let rest : IsPlaceOf cells id n = place_at cells n id one (omega (arith, below)) here before.1 in
      elim (eqb_tells cell.endorser.id id) [
        | inl same ↦ absurd (before.0 same.1)
        | inr differs ↦ record {
          in_range = below;
          found = λ other. ap (λ (b : Bool). cond b (Some cell) (cell_of cells id)) differs.0 ∙ rest.found other;
          set = λ next. ap (λ (l : List (EndorserCell S C)). cell ∷ l) (rest.set next) ∙ sym (ap (λ (b : Bool). cond b (next ∷ cells) (cell ∷ put_cell cells id next)) differs.0);
        }
      ]

  pub found_id : (cells : List (EndorserCell S C)) (id : ℕ) (cell : EndorserCell S C) → cell_of cells id ≡ Some cell → cell.endorser.id ≡ id
  found_id [] id cell e = absurd cc
  found_id (first ∷ cells) id cell e =
      elim (eqb_tells first.endorser.id id) [
        | inl same ↦
            let is : first ≡ cell = cc (sym (ap (λ (b : Bool). cond b (Some first) (cell_of cells id)) same.0) ∙ e) in
            subst (λ (c : EndorserCell S C). c.endorser.id ≡ id) is same.1
        | inr differs ↦ found_id cells id cell (sym (ap (λ (b : Bool). cond b (Some first) (cell_of cells id)) differs.0) ∙ e)
      ]

  -- the cells after one was put, by id
  pub cell_of_put : (cells : List (EndorserCell S C)) (id : ℕ) (cell next : EndorserCell S C) → cell_of cells id ≡ Some cell → next.endorser.id ≡ id → (other : ℕ)
      → cell_of (put_cell cells id next) other ≡ cond (eqb other id) (Some next) (cell_of cells other)
  cell_of_put [] id cell next e same other = absurd cc
  cell_of_put (first ∷ cells) id cell next e same other =
      elim (eqb_tells first.endorser.id id) [
        | inl here ↦
            ap (λ (l : List (EndorserCell S C)). cell_of l other) (ap (λ (b : Bool). cond b (next ∷ cells) (first ∷ put_cell cells id next)) here.0)
            ∙ elim (eqb_tells other id) [
              | inl is ↦
                  ap (λ (b : Bool). cond b (Some next) (cell_of cells other)) (eq-eqb next.endorser.id other (same ∙ sym is.1))
                  ∙ sym (ap (λ (b : Bool). cond b (Some next) (cell_of (first ∷ cells) other)) is.0)
              | inr not ↦
                  let apart : (i : ℕ) → i ≡ id → eqb i other ≡ false = λ i at. elim (eqb_tells i other) [ inl x ↦ absurd (not.1 (sym x.1 ∙ at)) | inr x ↦ x.0 ] in
                  ap (λ (b : Bool). cond b (Some next) (cell_of cells other)) (apart next.endorser.id same)
                  ∙ sym (ap (λ (b : Bool). cond b (Some first) (cell_of cells other)) (apart first.endorser.id here.1))
                  ∙ sym (ap (λ (b : Bool). cond b (Some next) (cell_of (first ∷ cells) other)) not.0)
            ]
        | inr differs ↦
            let rest = cell_of_put cells id cell next (sym (ap (λ (b : Bool). cond b (Some first) (cell_of cells id)) differs.0) ∙ e) same other in
            ap (λ (l : List (EndorserCell S C)). cell_of l other) (ap (λ (b : Bool). cond b (next ∷ cells) (first ∷ put_cell cells id next)) differs.0)
            ∙ ap (λ (o : Option (EndorserCell S C)). cond (eqb first.endorser.id other) (Some first) o) rest
            ∙ elim (eqb_tells first.endorser.id other) [
              | inl is ↦
                  let not : eqb other id ≡ false = elim (eqb_tells other id) [ inl x ↦ absurd (differs.1 (is.1 ∙ x.1)) | inr x ↦ x.0 ] in
                  ap (λ (b : Bool). cond b (Some first) (cond (eqb other id) (Some next) (cell_of cells other))) is.0
                  ∙ sym (ap (λ (b : Bool). cond b (Some first) (cell_of cells other)) is.0)
                  ∙ sym (ap (λ (b : Bool). cond b (Some next) (cell_of (first ∷ cells) other)) not)
              | inr not ↦
                  ap (λ (b : Bool). cond b (Some first) (cond (eqb other id) (Some next) (cell_of cells other))) not.0
                  ∙ ap (λ (o : Option (EndorserCell S C)). cond (eqb other id) (Some next) o) (sym (ap (λ (b : Bool). cond b (Some first) (cell_of cells other)) not.0))
            ]
      ]

  -- a test that can't tell the cell from the next one tells the lists apart neither
  pub no_line : (cells : List (EndorserCell S C)) (id : ℕ) (cell : EndorserCell S C) → list_all has_no_line cells ≡ true → cell_of cells id ≡ Some cell → cell.lines ≡ []
  no_line [] id cell all e = absurd cc
  no_line (first ∷ cells) id cell all e =
      let parts = and_parts (has_no_line first) (list_all has_no_line cells) all in
      elim (eqb_tells first.endorser.id id) [
        | inl same ↦
            let is : first ≡ cell = cc (sym (ap (λ (b : Bool). cond b (Some first) (cell_of cells id)) same.0) ∙ e) in
            subst (λ (c : EndorserCell S C). c.lines ≡ []) is (empty first.lines (eqb-true (length first.lines) 0 parts.0))
        | inr differs ↦ no_line cells id cell parts.1 (sym (ap (λ (b : Bool). cond b (Some first) (cell_of cells id)) differs.0) ∙ e)
      ] where
        empty : {A : Type 0} (l : List A) → length l ≡ 0 → l ≡ []
        empty [] e = refl
        empty (x ∷ l) e = absurd (omega (arith, e))
