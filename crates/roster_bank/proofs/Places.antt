-- Places of ids that rise.
use Rattle.std.proofs.Common.{◌≡◌, ◌≢◌, ℕ, zero, suc, ◌+◌, ◌<◌, ◌≤◌, Bool, false, eqb, cond, List, [], ◌∷◌, length, get_or, Option, Some, None, inl, inr, refl, sym, ap, subst, ◌∙◌, arith}
use Rattle.std.specs.Prelude.{option_map, IfSome}
use Rattle.std.proofs.lemmas.Bool.{eq-eqb, ltb-true}
use Rattle.std.proofs.lemmas.Bool.Decides.{eqb_tells}
use Rattle.statement.specs.declared.member.Member.{Member}
use Rattle.statement.specs.Ids.{RisesFrom, IsRising}
use Rattle.statement.specs.Config.{ids as ids_of}
use Rattle.endorser_cell.specs.EndorserCell.{EndorserCell}
use Rattle.endorser_cell.specs.Cells.{cell_of, IsPlaceOf}
use Rattle.roster_bank.specs.Roster.{members_of}
use Rattle.roster_bank.specs.Places.{place_in}

-- how often this place stands in what may be a place
abbrev pub is_at : ℕ → Option ℕ → ℕ
is_at place None = 0
is_at place (Some p) = cond (eqb p place) 1 0

apart : (a b : ℕ) → a ≢ b → eqb a b ≡ false
apart a b not = elim (eqb_tells a b) [ inl same ↦ absurd (not same.1) | inr differs ↦ differs.0 ]

here : (p place : ℕ) → p ≡ place → is_at place (Some p) ≡ 1
here p place e = ap (λ (b : Bool). cond b 1 0) (eq-eqb p place e)

elsewhere : (p place : ℕ) → p ≢ place → is_at place (Some p) ≡ 0
elsewhere p place not = ap (λ (b : Bool). cond b 1 0) (apart p place not)

-- ids that rise above one are all above it
pub above : (before : ℕ) (ids : List ℕ) (place d : ℕ) → RisesFrom (Some before) ids → place < length ids → before < get_or ids place d
above before [] place d rises below = absurd (omega (arith, below))
above before (id ∷ ids) zero d rises below = ltb-true before id rises.0
above before (id ∷ ids) (suc place) d rises below =
    let one : before < id = ltb-true before id rises.0 in
    let more = above id ids place d rises.1 (omega (arith, below)) in
    omega (arith, one, more)

later : (place : ℕ) (found : Option ℕ) → is_at (suc place) (option_map (λ p. p + 1) found) ≡ is_at place found
later place None = refl
later place (Some p) =
    elim (eqb_tells p place) [
      | inl same ↦ here (p + 1) (suc place) (omega (arith, same.1)) ∙ sym (here p place same.1)
      | inr differs ↦ elsewhere (p + 1) (suc place) (λ e. differs.1 (omega (arith, e))) ∙ sym (elsewhere p place differs.1)
    ]

not_first : (found : Option ℕ) → is_at 0 (option_map (λ p. p + 1) found) ≡ 0
not_first None = refl
not_first (Some p) = elsewhere (p + 1) 0 (λ e. omega (arith, e))

-- the id of a place is found there, and no other
pub found_at : (before : Option ℕ) (ids : List ℕ) (place d other : ℕ) → RisesFrom before ids → place < length ids
    → is_at place (place_in ids other) ≡ cond (eqb other (get_or ids place d)) 1 0
found_at before [] place d other rises below = absurd (omega (arith, below))
found_at before (id ∷ ids) zero d other rises below =
    elim (eqb_tells id other) [
      | inl same ↦
          ap (λ (b : Bool). is_at 0 (cond b (Some 0) (option_map (λ p. p + 1) (place_in ids other)))) same.0
          ∙ sym (ap (λ (b : Bool). cond b 1 0) (eq-eqb other id (sym same.1)))
      | inr differs ↦
          ap (λ (b : Bool). is_at 0 (cond b (Some 0) (option_map (λ p. p + 1) (place_in ids other)))) differs.0
          ∙ not_first (place_in ids other)
          ∙ sym (ap (λ (b : Bool). cond b 1 0) (apart other id (λ e. differs.1 (sym e))))
    ]
found_at before (id ∷ ids) (suc place) d other rises below =
    let one : id < get_or ids place d = above id ids place d rises.1 (omega (arith, below)) in
    elim (eqb_tells id other) [
      | inl same ↦
          ap (λ (b : Bool). is_at (suc place) (cond b (Some 0) (option_map (λ p. p + 1) (place_in ids other)))) same.0
          ∙ elsewhere 0 (suc place) (λ e. omega (arith, e))
          ∙ sym (ap (λ (b : Bool). cond b 1 0) (apart other (get_or ids place d) (λ e. absurd (omega (arith, one, same.1, e)))))
      | inr differs ↦
          ap (λ (b : Bool). is_at (suc place) (cond b (Some 0) (option_map (λ p. p + 1) (place_in ids other)))) differs.0
          ∙ later place (place_in ids other)
          ∙ found_at (Some id) ids place d other rises.1 (omega (arith, below))
    ]

-- nothing is found behind the last place
pub none_at : (ids : List ℕ) (place other : ℕ) → length ids ≤ place → is_at place (place_in ids other) ≡ 0
none_at [] place other past = refl
none_at (id ∷ ids) zero other past = absurd (omega (arith, past))
none_at (id ∷ ids) (suc place) other past =
    elim (eqb_tells id other) [
      | inl same ↦ ap (λ (b : Bool). is_at (suc place) (cond b (Some 0) (option_map (λ p. p + 1) (place_in ids other)))) same.0 ∙ elsewhere 0 (suc place) (λ e. omega (arith, e))
      | inr differs ↦
          ap (λ (b : Bool). is_at (suc place) (cond b (Some 0) (option_map (λ p. p + 1) (place_in ids other)))) differs.0
          ∙ later place (place_in ids other) ∙ none_at ids place other (omega (arith, past))
    ]

once : (place : ℕ) (found : Option ℕ) → is_at place found ≡ 1 → found ≡ Some place
once place None e = absurd (omega (arith, e))
once place (Some p) e =
    elim (eqb_tells p place) [
      | inl same ↦ ap (λ (n : ℕ). Some n) same.1
      | inr differs ↦ let none : is_at place (Some p) ≡ 0 = elsewhere p place differs.1 in let both : 0 ≡ 1 = sym none ∙ e in absurd (omega (arith, both))
    ]

module _ {S C : Type 0} (key : S → List ℕ) where
  pub id_at : (cells : List (EndorserCell S C)) (place n : ℕ) (d : EndorserCell S C) → place < length cells → get_or (ids_of (members_of key cells)) place n ≡ (get_or cells place d).endorser.id
  id_at [] place n d below = absurd (omega (arith, below))
  id_at (cell ∷ cells) zero n d below = refl
  id_at (cell ∷ cells) (suc place) n d below = id_at cells place n d (omega (arith, below))

  pub as_many : (cells : List (EndorserCell S C)) → length (ids_of (members_of key cells)) ≡ length cells
  as_many [] = refl
  as_many (cell ∷ cells) = ap suc (as_many cells)

  found_id : (cells : List (EndorserCell S C)) (id : ℕ) (cell : EndorserCell S C) → cell_of cells id ≡ Some cell → cell.endorser.id ≡ id
  found_id [] id cell e = absurd cc
  found_id (first ∷ cells) id cell e =
      elim (eqb_tells first.endorser.id id) [
        | inl same ↦
            let is : first ≡ cell = cc (sym (ap (λ (b : Bool). cond b (Some first) (cell_of cells id)) same.0) ∙ e) in
            subst (λ (c : EndorserCell S C). c.endorser.id ≡ id) is same.1
        | inr differs ↦ found_id cells id cell (sym (ap (λ (b : Bool). cond b (Some first) (cell_of cells id)) differs.0) ∙ e)
      ]

  -- the cell at a place is that of its id
  pub cell_at : (before : Option ℕ) (cells : List (EndorserCell S C)) (place : ℕ) (d : EndorserCell S C) → RisesFrom before (ids_of (members_of key cells)) → place < length cells
      → cell_of cells (get_or cells place d).endorser.id ≡ Some (get_or cells place d)
  cell_at before [] place d rises below = absurd (omega (arith, below))
  cell_at before (cell ∷ cells) zero d rises below = ap (λ (b : Bool). cond b (Some cell) (cell_of cells cell.endorser.id)) (eq-eqb cell.endorser.id cell.endorser.id refl)
  cell_at before (cell ∷ cells) (suc place) d rises below =
      let inside : place < length cells = omega (arith, below) in
      let one : cell.endorser.id < get_or (ids_of (members_of key cells)) place 0 = above cell.endorser.id (ids_of (members_of key cells)) place 0 rises.1 (omega (arith, inside, as_many cells)) in
      let same = id_at cells place 0 d inside in
      ap (λ (b : Bool). cond b (Some cell) (cell_of cells (get_or cells place d).endorser.id)) (apart cell.endorser.id (get_or cells place d).endorser.id (λ e. absurd (omega (arith, one, same, e))))
      ∙ cell_at (Some cell.endorser.id) cells place d rises.1 inside

  found_place : (cells : List (EndorserCell S C)) (id place : ℕ) → IsPlaceOf cells id place → get_or (ids_of (members_of key cells)) place 0 ≡ id
  found_place [] id place at = absurd (omega (arith, at.in_range))
  found_place (first ∷ cells) id place at = id_at (first ∷ cells) place 0 first at.in_range ∙ found_id (first ∷ cells) id (get_or (first ∷ cells) place first) (at.found first)

  -- where the cell of an id stands is its place in the roster
  pub placed : (members : List Member) (cells : List (EndorserCell S C)) (id place : ℕ) → members_of key cells ≡ members → IsRising (ids_of members) → IsPlaceOf cells id place
      → place_in (ids_of members) id ≡ Some place
  placed members cells id place e rising at =
      let own : IsRising (ids_of (members_of key cells)) = subst (λ (ms : List Member). IsRising (ids_of ms)) (sym e) rising in
      let is = found_place cells id place at in
      let one = found_at None (ids_of (members_of key cells)) place 0 id own (omega (arith, at.in_range, as_many cells)) in
      let here : is_at place (place_in (ids_of (members_of key cells)) id) ≡ 1 = one ∙ ap (λ (b : Bool). cond b 1 0) (eq-eqb id _ (sym is)) in
      ap (λ (ms : List Member). place_in (ids_of ms) id) (sym e) ∙ once place (place_in (ids_of (members_of key cells)) id) here

  nowhere : (cells : List (EndorserCell S C)) (id : ℕ) → cell_of cells id ≡ None → place_in (ids_of (members_of key cells)) id ≡ None
  nowhere [] id none = refl
  nowhere (cell ∷ cells) id none =
      elim (eqb_tells cell.endorser.id id) [
        | inl same ↦ absurd (cc (sym (ap (λ (b : Bool). cond b (Some cell) (cell_of cells id)) same.0) ∙ none))
        | inr differs ↦
            ap (λ (b : Bool). cond b (Some 0) (option_map (λ p. p + 1) (place_in (ids_of (members_of key cells)) id))) differs.0
            ∙ ap (λ (o : Option ℕ). option_map (λ p. p + 1) o) (nowhere cells id (sym (ap (λ (b : Bool). cond b (Some cell) (cell_of cells id)) differs.0) ∙ none))
      ]

  pub unplaced : (members : List Member) (cells : List (EndorserCell S C)) (id : ℕ) → members_of key cells ≡ members → cell_of cells id ≡ None → place_in (ids_of members) id ≡ None
  unplaced members cells id e none = ap (λ (ms : List Member). place_in (ids_of ms) id) (sym e) ∙ nowhere cells id none

  -- what a search for the cell of an id gives is the id's place in the roster
  pub place_is : (members : List Member) (cells : List (EndorserCell S C)) (id : ℕ) (found : Option ℕ) → members_of key cells ≡ members → IsRising (ids_of members)
      → IfSome found (IsPlaceOf cells id) → (found ≡ None → cell_of cells id ≡ None) → found ≡ place_in (ids_of members) id
  place_is members cells id None e rising at none = sym (unplaced members cells id e (none refl))
  place_is members cells id (Some place) e rising at none = sym (placed members cells id place e rising at)
