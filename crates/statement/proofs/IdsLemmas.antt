-- Ids that rise, and what holds of each element of a list.
use Rattle.std.proofs.Common.{◌≡◌, ℕ, zero, suc, ◌+◌, ◌<◌, ◌≤◌, Bool, true, false, cond, List, [], ◌∷◌, length, get_or, take, drop, Option, Some, None, IfNone, refl, sym, subst, ◌∙◌, arith}
use Rattle.std.specs.List.{AllByRecursion}
use Rattle.std.proofs.lemmas.List.{at_drop_more}
use Rattle.statement.specs.declared.member.Member.{Member}
use Rattle.statement.specs.Config.{ids, IsMember, IsConfig}
use Rattle.statement.specs.Ids.{is_above, RisesFrom, first_fall}

-- one element more, as at a step of a loop
pub all_more : {X : Type 0} (P : X → Type 0) (xs : List X) (i : ℕ) (d : X) → i < length xs → AllByRecursion P (take i xs) → P (get_or xs i d) → AllByRecursion P (take (i + 1) xs)
all_more P [] i d below all one = absurd (omega arith)
all_more P (x ∷ xs) zero d below all one = (one, tt)
all_more P (x ∷ xs) (suc i) d below all one =
    let rest : AllByRecursion P (take (suc (i + 1)) (x ∷ xs)) = (all.0, all_more P xs i d (omega arith) all.1 one) in
    let count : suc (i + 1) ≡ suc i + 1 = omega arith in
    subst (λ (n : ℕ). AllByRecursion P (take n (x ∷ xs))) count rest

pub fall_more : (before : Option ℕ) (members : List Member) (i : ℕ) (d : Member) → i < length members → is_above before (get_or members i d).id ≡ true
    → first_fall before (ids (drop i members)) ≡ first_fall (Some (get_or members i d).id) (ids (drop (i + 1) members))
fall_more before members i d below over =
    let parts : drop i members ≡ get_or members i d ∷ drop (i + 1) members = at_drop_more (λ bs. bs) members i d below in
    rw (parts, over) refl

chosen : {A : Type 0} (b : Bool) (x : Option A) (a : A) → cond b x (Some a) ≡ None → (b ≡ true) × (x ≡ None)
chosen true x a e = (refl, e)
chosen false x a e = absurd cc

pub no_fall : (before : Option ℕ) (ids : List ℕ) → first_fall before ids ≡ None → RisesFrom before ids
no_fall before [] e = tt
no_fall before (id ∷ ids) e =
    let p = chosen (is_above before id) (first_fall (Some id) ids) id e in
    (p.0, no_fall (Some id) ids p.1)

pub fits : (members : List Member) (fall : Option ℕ) → 1 ≤ length members → length members ≤ 15 → fall ≡ None → fall ≡ first_fall None (ids members) → IfNone fall (AllByRecursion IsMember members) → IsConfig members
fits members fall some few e is each =
    let members_are : AllByRecursion IsMember members = subst (λ (f : Option ℕ). IfNone f (AllByRecursion IsMember members)) e each in
    record { rising = no_fall None (ids members) (sym is ∙ e); each = members_are; some = some; few = few }
