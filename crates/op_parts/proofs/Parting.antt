-- Members of whom each counts or has a reason.
use Rattle.std.proofs.Common.{◌≡◌, ◌≢◌, inl, inr, ℕ, ◌<◌, ◌≤◌, List, [], ◌∷◌, Option, Some, None, refl, sym, subst, arith}
use Rattle.std.specs.Prelude.{AllPairs, IsSome}
use Rattle.std.specs.List.{AllByRecursion}
use Rattle.std.proofs.lemmas.Bool.{ltb-true}
use Rattle.std.proofs.lemmas.List.Elements.{All-from_recursion}
use Rattle.std.proofs.lemmas.List.Kept.{AllPairs-cons}
use Rattle.statement.specs.declared.member.Member.{Member}
use Rattle.statement.specs.Config.{ids, weight_of, weight_together, quorum, IsConfig, IsQuorum}
use Rattle.statement.specs.Ids.{RisesFrom}
use Rattle.op_parts.specs.RoundLaws.{AreParted}
use Rattle.op_parts.proofs.RoundShown.{all_more}
use Rattle.op_parts.proofs.RoundParted.{weights}
use Rattle.op_parts.proofs.RoundReceipt.{marked_rise}

all_above : (id : ℕ) (all : List ℕ) → RisesFrom (Some id) all → AllByRecursion (λ (next : ℕ). id < next) all
all_above id [] rises = tt
all_above id (next ∷ all) rises = (
  ltb-true id next rises.0,
  all_more (λ (other : ℕ). next < other) (λ (other : ℕ). id < other) (λ other above. omega (arith, above, ltb-true id next rises.0)) all (all_above next all rises.1),
)

-- ids that rise are apart
apart : (before : Option ℕ) (all : List ℕ) → RisesFrom before all → AllPairs (λ (one other : ℕ). one ≢ other) all
apart before [] rises = λ i j d less below. absurd (omega (arith, less, below))
apart before (id ∷ all) rises =
    AllPairs-cons (λ (one other : ℕ). one ≢ other) id all
    (All-from_recursion (λ (other : ℕ). id ≢ other) all
    (all_more (λ (other : ℕ). id < other) (λ (other : ℕ). id ≢ other) (λ other above same. absurd (omega (arith, above, same))) all (all_above id all rises.1)))
    (apart (Some id) all rises.1)

-- what holds of all holds of those that count
counted_are : (P : ℕ → Type 0) (all counted blamed : List ℕ) → AreParted all counted blamed → AllByRecursion P all → AllByRecursion P counted
counted_are P [] counted blamed parted holds = subst (AllByRecursion P) (sym parted.0) tt
counted_are P (id ∷ all) counted blamed (inl side) holds =
    subst (AllByRecursion P) (sym side.1) (holds.0, counted_are P all side.0 blamed side.2 holds.1)
counted_are P (id ∷ all) counted blamed (inr side) holds = counted_are P all counted side.0 side.2 holds.1

each_weighs : (members part : List Member) → AllByRecursion (λ (m : Member). weight_of members m.id ≡ Some 1) part
    → AllByRecursion (λ (id : ℕ). IsSome (weight_of members id)) (ids part)
each_weighs members [] weigh = tt
each_weighs members (first ∷ part) weigh = (subst (λ (w : Option ℕ). IsSome w) (sym weigh.0) refl, each_weighs members part weigh.1)

pub quorum_of : (members : List Member) (counted blamed : List ℕ) → IsConfig members → AreParted (ids members) counted blamed
    → quorum members ≤ weight_together members counted → IsQuorum members counted
quorum_of members counted blamed config parted enough = record {
  apart = apart None counted (marked_rise None (ids members) counted blamed parted config.rising);
  members_alone = All-from_recursion (λ (id : ℕ). IsSome (weight_of members id)) counted
      (counted_are (λ (id : ℕ). IsSome (weight_of members id)) (ids members) counted blamed parted (each_weighs members members (weights members)));
  enough = enough;
}
