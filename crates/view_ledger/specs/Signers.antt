-- Members that signed, and when they are a quorum.
use Rattle.std.proofs.Common.{◌≡◌, ◌≢◌, ℕ, zero, suc, ◌<◌, ◌≤◌, List, [], ◌∷◌, length, get_or, map, true, false, eqb, Option, Some, None, inl, inr, refl, arith}
use Rattle.std.specs.Prelude.{AllPairs, IsSome}
use Rattle.std.specs.List.{AllByRecursion}
use Rattle.std.specs.Option.{option_map_or}
use Rattle.std.proofs.lemmas.Bool.{cases_Bool, ltb-true}
use Rattle.std.proofs.lemmas.List.Elements.{All-from_recursion}
use Rattle.statement.specs.declared.member.Member.{Member}
use Rattle.statement.specs.Ids.{RisesFrom, IsRising}
use Rattle.statement.specs.Config.{key_of, weight_of, weight_together, quorum, IsQuorum}
use Rattle.view_ledger.specs.Receipts.{Accepts, IsSigned, is_signed}

-- the test in words
pub signed : (accepts : Accepts) (config : List Member) (bytes : List ℕ) (id : ℕ) (sig : List ℕ) → is_signed accepts config bytes id sig ≡ true → IsSigned accepts config bytes id sig
signed accepts config bytes id sig e = by_key (key_of config id) refl e
  where
    by_key : (key : Option (List ℕ)) → key_of config id ≡ key → option_map_or (λ k. accepts k bytes sig) key false ≡ true → IsSigned accepts config bytes id sig
    by_key None is e = absurd cc
    by_key (Some key) is e = (key, is, e)

pub is_signed-true : (accepts : Accepts) (config : List Member) (bytes : List ℕ) (id : ℕ) (sig : List ℕ) → IsSigned accepts config bytes id sig → is_signed accepts config bytes id sig ≡ true
is_signed-true accepts config bytes id sig is = rw is.1 is.2

member_weighs : (config : List Member) (id : ℕ) (key : List ℕ) → key_of config id ≡ Some key → IsSome (weight_of config id)
member_weighs [] id key e = absurd cc
member_weighs (member ∷ members) id key e =
    elim (cases_Bool (eqb member.id id)) [
      | inl same ↦ rw same refl
      | inr other ↦ let rest : key_of members id ≡ Some key = rw other at e in rw other (member_weighs members id key rest)
    ]

-- ids that rise are apart
first_below : (id : ℕ) (ids : List ℕ) → RisesFrom (Some id) ids → (j d : ℕ) → j < length ids → id < get_or ids j d
first_below id [] rising j d below = absurd (omega arith)
first_below id (next ∷ ids) rising zero d below = ltb-true id next rising.0
first_below id (next ∷ ids) rising (suc j) d below = omega (arith, ltb-true id next rising.0, first_below next ids rising.1 j d (omega arith))

rise : (before : Option ℕ) (ids : List ℕ) → RisesFrom before ids → (i j d : ℕ) → i < j → j < length ids → get_or ids i d < get_or ids j d
rise before [] rising i j d lt below = absurd (omega arith)
rise before (id ∷ ids) rising i zero d lt below = absurd (omega arith)
rise before (id ∷ ids) rising zero (suc j) d lt below = first_below id ids rising.1 j d (omega arith)
rise before (id ∷ ids) rising (suc i) (suc j) d lt below = rise (Some id) ids rising.1 i j d (omega arith) (omega arith)

apart : (ids : List ℕ) → IsRising ids → AllPairs (λ one other. one ≢ other) ids
apart ids rising i j d lt below e = absurd (omega (arith, rise None ids rising i j d lt below, e))

module _ {X : Type 0} (accepts : Accepts) (config : List Member) (bytes sig : X → List ℕ) (id : X → ℕ) where
  weigh : (xs : List X) → AllByRecursion (λ x. IsSigned accepts config (bytes x) (id x) (sig x)) xs → AllByRecursion (λ i. IsSome (weight_of config i)) (map id xs)
  weigh [] all = tt
  weigh (x ∷ xs) all = (member_weighs config (id x) all.0.0 all.0.1, weigh xs all.1)

  -- rising ids of members who signed, that weigh enough
  pub are_quorum : (xs : List X) → IsRising (map id xs) → AllByRecursion (λ x. IsSigned accepts config (bytes x) (id x) (sig x)) xs → quorum config ≤ weight_together config (map id xs) → IsQuorum config (map id xs)
  are_quorum xs rising all enough = record {
    apart = apart (map id xs) rising;
    members_alone = All-from_recursion (λ i. IsSome (weight_of config i)) (map id xs) (weigh xs all);
    enough = enough;
  }
