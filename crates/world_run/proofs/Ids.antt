-- The ids from 1 to 64.
use Rattle.std.proofs.Common.{◌≡◌, ℕ, suc, zero, ◌+◌, ◌-◌, ◌<◌, ◌≤◌, Bool, true, false, List, [], ◌∷◌, ◌++◌, length, get_or, Option, None, Some, refl, sym, ap, subst, ◌∙◌, arith}
use Rattle.std.specs.Prelude.{Contains, ◌==◌, if◌then◌else◌}
use Rattle.std.specs.Option.{option_map}
use Rattle.std.proofs.lemmas.Bool.{eq-eqb}
use Rattle.std.specs.List.{range_with_len}
use Rattle.std.proofs.lemmas.List.FromFn.{length-range_with_len, get_or-range_with_len}
use Rattle.roster_bank.specs.Places.{place_in}
use Rattle.script_runs.specs.Ids.{IsId, all_ids}

pub has_id : (id : ℕ) → 1 ≤ id → id ≤ 64 → Contains all_ids id
unfolding all_ids
has_id id low high = (id - 1, omega (arith, length-range_with_len 1 64, low, high), get_or-range_with_len 1 64 (id - 1) id (omega (arith, low, high)) ∙ omega (arith, low))

-- one number more
range_suc : (a n : ℕ) → range_with_len a (suc n) ≡ range_with_len a n ++ (a + n) ∷ []
range_suc a zero = ap (λ (k : ℕ). k ∷ []) (omega arith)
range_suc a (suc n) = ap (λ (l : List ℕ). a ∷ l) (range_suc (a + 1) n ∙ ap (λ (k : ℕ). range_with_len (a + 1) n ++ k ∷ []) (omega arith))

pub range_more : (n : ℕ) → range_with_len 1 n ++ (n + 1) ∷ [] ≡ range_with_len 1 (n + 1)
range_more n =
    let first : range_with_len 1 n ++ (n + 1) ∷ [] ≡ range_with_len 1 n ++ (1 + n) ∷ [] = ap (λ (k : ℕ). range_with_len 1 n ++ k ∷ []) (let e : n + 1 ≡ 1 + n = omega arith in e) in
    let last : range_with_len 1 (suc n) ≡ range_with_len 1 (n + 1) = ap (λ (k : ℕ). range_with_len 1 k) (let e : suc n ≡ n + 1 = omega arith in e) in
    first ∙ sym (range_suc 1 n) ∙ last

pub are_all : (ids : List ℕ) (n : ℕ) → ids ≡ range_with_len 1 n → n ≡ 64 → ids ≡ all_ids
unfolding all_ids
are_all ids n is end = is ∙ ap (λ (k : ℕ). range_with_len 1 k) end

-- an id that stands in a list has a place there
stands_in : (ids : List ℕ) (id i : ℕ) → i < length ids → get_or ids i id ≡ id → place_in ids id ≡ None → ⊥
stands_in [] id i below is none = absurd (omega (arith, below))
stands_in (first ∷ ids) id zero below is none = here (first == id) (option_map (λ place. place + 1) (place_in ids id)) (eq-eqb first id is) none where
  here : (b : Bool) (rest : Option ℕ) → b ≡ true → (if b then Some 0 else rest) ≡ None → ⊥
  here true rest e none = absurd cc
  here false rest e none = absurd cc
stands_in (first ∷ ids) id (suc i) below is none = later (first == id) (place_in ids id) none (stands_in ids id i (omega (arith, below)) is) where
  later : (b : Bool) (rest : Option ℕ) → (if b then Some 0 else option_map (λ place. place + 1) rest) ≡ None → (rest ≡ None → ⊥) → ⊥
  later true rest none there = absurd cc
  later false None none there = there refl
  later false (Some place) none there = absurd cc

-- each id of a run is one of its members
pub is_there : (ids : List ℕ) (id : ℕ) → ids ≡ all_ids → IsId id → place_in ids id ≡ None → ⊥
is_there ids id all is none =
    let at = has_id id is.0 is.1 in
    stands_in all_ids id at.0 at.1 at.2 (subst (λ (l : List ℕ). place_in l id ≡ None) all none)
