-- The members of a script's first line.
use Rattle.std.proofs.Common.{◌≡◌, ℕ, zero, suc, ◌+◌, ◌-◌, ◌<◌, ◌≤◌, Bool, cond, List, [], ◌∷◌, ◌++◌, map, length, get_or, drop, Option, Some, None, Ok, Err, refl, sym, ap, subst, ◌∙◌, arith}
use Rattle.std.specs.Prelude.{Contains}
use Rattle.std.specs.Option.{option_map_or}
use Rattle.std.proofs.lemmas.Bool.{lt-ltb}
use Rattle.std.proofs.Math.ListN.{get_or-map}
use Rattle.std.proofs.Math.Seq.{drop-cons}
use Rattle.std.proofs.lemmas.List.{length-map}
use Rattle.std.proofs.lemmas.List.FromFn.{length-range_with_len, get_or-range_with_len}
use Rattle.statement.specs.declared.member.Member.{Member}
use Rattle.statement.specs.Ids.{first_fall}
use Rattle.statement.specs.Config.{ids as ids_of}
use Rattle.fault_script.specs.Within.{AreIds, AreRising}
use Rattle.view_ledger.specs.declared.view_fault.ViewFault.{ViewFault}
use Rattle.view_ledger.specs.Extension.{AreGenuine, start_outcome, first_not_genuine}
use Rattle.view_ledger.specs.Views.{ViewChain}
use Rattle.script_runs.specs.Ids.{all_ids}
use Rattle.script_runs.specs.Roster.{all_members, member_by, members_by}
use Rattle.world_run.proofs.Ids.{has_id}

pub ids_of_members : (key_of : ℕ → List ℕ) (ids : List ℕ) → ids_of (members_by key_of ids) ≡ ids
ids_of_members key_of [] = refl
ids_of_members key_of (id ∷ ids) = ap (λ (rest : List ℕ). id ∷ rest) (ids_of_members key_of ids)

-- how many they are
pub as_many : (key_of : ℕ → List ℕ) (ids : List ℕ) → length (members_by key_of ids) ≡ length ids
as_many key_of [] = refl
as_many key_of (id ∷ ids) = ap suc (as_many key_of ids)

pub all_many : (key_of : ℕ → List ℕ) (members : List Member) → members ≡ all_members key_of → length members ≡ 64
unfolding all_ids
all_many key_of members is = ap (λ (all : List Member). length all) is ∙ as_many key_of all_ids ∙ length-range_with_len 1 64

-- an id among those that rise
pub within : (low : ℕ) (ids : List ℕ) (i d : ℕ) → AreRising low ids → i < length ids → (low < get_or ids i d) × (get_or ids i d ≤ 64)
within low [] i d rise below = absurd (omega (arith, below))
within low (id ∷ ids) zero d rise below = (rise.0, rise.1)
within low (id ∷ ids) (suc i) d rise below = let more = within id ids i d rise.2 (omega (arith, below)) in (omega (arith, rise.0, more.0), more.1)

-- the member at the place of an id
pub member_at : (key_of : ℕ → List ℕ) (id : ℕ) (d : Member) → 1 ≤ id → id ≤ 64 → get_or (all_members key_of) (id - 1) d ≡ member_by key_of id
unfolding all_ids
member_at key_of id d low high =
    let inside : id - 1 < length all_ids = omega (arith, low, high, length-range_with_len 1 64) in
    let there : get_or all_ids (id - 1) id ≡ id = get_or-range_with_len 1 64 (id - 1) id (omega (arith, low, high)) ∙ omega (arith, low) in
    at key_of all_ids (id - 1) d id inside ∙ ap (member_by key_of) there where
      at : (key_of : ℕ → List ℕ) (ids : List ℕ) (i : ℕ) (d : Member) (e : ℕ) → i < length ids → get_or (members_by key_of ids) i d ≡ member_by key_of (get_or ids i e)
      at key_of [] i d e below = absurd (omega (arith, below))
      at key_of (id ∷ ids) zero d e below = refl
      at key_of (id ∷ ids) (suc i) d e below = at key_of ids i d e (omega (arith, below))

again : (one other more : List Member) → (one ++ other) ++ more ≡ one ++ (other ++ more)
again [] other more = refl
again (x ∷ one) other more = ap (λ (rest : List Member). x ∷ rest) (again one other more)

-- one member more is picked
pub picked_step : (key_of : ℕ → List ℕ) (members : List Member) (ids : List ℕ) (i : ℕ) (picked more whole : List Member) (member : Member)
    → members ≡ all_members key_of → AreIds ids → i < length ids → member ≡ get_or members (get_or ids i 0 - 1) member → more ≡ picked ++ member ∷ []
    → picked ++ members_by key_of (drop i ids) ≡ whole → more ++ members_by key_of (drop (i + 1) ids) ≡ whole
picked_step key_of members ids i picked more whole member all is below there pushed done =
    let id = get_or ids i 0 in
    let at = within 0 ids i 0 is.2 below in
    let low : 1 ≤ id = (let above = at.0 in omega (arith, above)) in
    let own : member ≡ member_by key_of id = there ∙ ap (λ (all : List Member). get_or all (id - 1) member) all ∙ member_at key_of id member low at.1 in
    let next : suc i ≡ i + 1 = omega arith in
    ap (λ (all : List Member). all ++ members_by key_of (drop (i + 1) ids)) pushed
    ∙ again picked (member ∷ []) (members_by key_of (drop (i + 1) ids))
    ∙ ap (λ (one : Member). picked ++ (one ∷ members_by key_of (drop (i + 1) ids))) own
    ∙ ap (λ (n : ℕ). picked ++ (member_by key_of id ∷ members_by key_of (drop n ids))) (sym next)
    ∙ ap (λ (rest : List ℕ). picked ++ members_by key_of rest) (sym (drop-cons ids i 0 below))
    ∙ done

-- none of them is out of order
falls_not : (low : ℕ) (ids : List ℕ) → AreRising low ids → first_fall (Some low) ids ≡ None
falls_not low [] rise = refl
falls_not low (id ∷ ids) rise = ap (λ (b : Bool). cond b (first_fall (Some id) ids) (Some id)) (lt-ltb low id rise.0) ∙ falls_not id ids rise.2

pub no_fall : (ids : List ℕ) → AreIds ids → first_fall None ids ≡ None
no_fall [] is = refl
no_fall (id ∷ ids) is = falls_not id ids is.2.2

pub no_order : (key_of : ℕ → List ℕ) (ids : List ℕ) (members : List Member) (id : ℕ) → members ≡ members_by key_of ids → AreIds ids → first_fall None (ids_of members) ≡ Some id → ⊥
no_order key_of ids members id are is e =
    let none : first_fall None (ids_of members) ≡ None = ap (λ (all : List Member). first_fall None (ids_of all)) are ∙ ap (λ (all : List ℕ). first_fall None all) (ids_of_members key_of ids) ∙ no_fall ids is in
    absurd (cc (sym none ∙ e))

contains_map : {A B : Type 0} (f : A → B) (xs : List A) (x : A) → Contains xs x → Contains (map f xs) (f x)
contains_map f xs x c = (c.0, let inside = c.1 in omega (arith, inside, length-map xs f), get_or-map f xs c.0 x ∙ ap f c.2)

pub genuine : (key_of : ℕ → List ℕ) (low : ℕ) (ids : List ℕ) → AreRising low ids → AreGenuine (all_members key_of) (members_by key_of ids)
genuine key_of low [] rise = tt
genuine key_of low (id ∷ ids) rise =
    (contains_map (member_by key_of) all_ids id (has_id id (let above = rise.0 in omega (arith, above)) rise.1), genuine key_of id ids rise.2)

pub are_genuine : (key_of : ℕ → List ℕ) (ids : List ℕ) (members config : List Member) → members ≡ all_members key_of → config ≡ members_by key_of ids → AreIds ids → AreGenuine members config
are_genuine key_of ids members config all are is =
    subst (λ (roster : List Member). AreGenuine roster config) (sym all) (subst (λ (config : List Member). AreGenuine (all_members key_of) config) (sym are) (genuine key_of 0 ids is.2))

-- the chain that begins
pub began : (roster config : List Member) (chain : ViewChain) → start_outcome roster config ≡ Ok chain → chain ≡ record { roster = roster; configs = config ∷ [] }
began roster config chain e = by (first_not_genuine roster config) (record { roster = roster; configs = config ∷ [] }) chain e where
  by : (found : Option ℕ) (first chain : ViewChain) → option_map_or (λ id. Err (ViewFault.NotGenuine id)) found (Ok first) ≡ Ok chain → chain ≡ first
  by None first chain e = cc
  by (Some id) first chain e = absurd cc
