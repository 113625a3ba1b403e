-- Each member has a mark or a reason.
use Rattle.std.proofs.Common.{◌≡◌, inl, inr, ℕ, zero, suc, ◌+◌, ◌<◌, ◌==◌, Bool, true, false, if◌then◌else◌, List, [], ◌∷◌, ◌++◌, length, map, take, slice_get, Option, Some, refl, sym, ◌∙◌, subst, ap, arith, rules}
use Rattle.std.specs.Prelude.{unwrap_or}
use Rattle.std.specs.List.{AllByRecursion}
use Rattle.std.specs.Option.{option_map}
use Rattle.std.proofs.Math.Seq.{take-suc, take-length}
use Rattle.std.proofs.lemmas.List.{map-append, length-map}
use Rattle.std.proofs.lemmas.List.Sums.{sum_by-cons}
use Rattle.std.proofs.lemmas.Option.{slice_get_within, get_or_from_slice_get, slice_get-map}
use Rattle.statement.specs.declared.member.Member.{Member}
use Rattle.statement.specs.Config.{ids, id_of as member_id, weight_of, weight_together, quorum}
use Rattle.statement.specs.Mark.{Content as Mark, id_of}
use Rattle.port.specs.Cause.{MemberCause}
use Rattle.port.specs.Trace.{Event}
use Rattle.view_ledger.specs.Receipts.{Accepts}
use Rattle.op_parts.specs.RoundAsking.{Asking}
use Rattle.op_parts.specs.RoundState.{State}
use Rattle.op_parts.specs.RoundSound.{AreAsked, Sound}
use Rattle.op_parts.specs.RoundLaws.{AreParted}
use Rattle.op_parts.proofs.RoundShown.{all_more}

and_marked : (ids marked blamed : List ℕ) (id : ℕ) → AreParted ids marked blamed → AreParted (ids ++ id ∷ []) (marked ++ id ∷ []) blamed
and_marked [] marked blamed id parted = inl ([], ap (λ (l : List ℕ). l ++ id ∷ []) parted.0, (refl, parted.1))
and_marked (first ∷ ids) marked blamed id (inl side) =
    inl (side.0 ++ id ∷ [], ap (λ (l : List ℕ). l ++ id ∷ []) side.1, and_marked ids side.0 blamed id side.2)
and_marked (first ∷ ids) marked blamed id (inr side) = inr (side.0, side.1, and_marked ids marked side.0 id side.2)

and_blamed : (ids marked blamed : List ℕ) (id : ℕ) → AreParted ids marked blamed → AreParted (ids ++ id ∷ []) marked (blamed ++ id ∷ [])
and_blamed [] marked blamed id parted = inr ([], ap (λ (l : List ℕ). l ++ id ∷ []) parted.1, (parted.0, refl))
and_blamed (first ∷ ids) marked blamed id (inl side) = inl (side.0, side.1, and_blamed ids side.0 blamed id side.2)
and_blamed (first ∷ ids) marked blamed id (inr side) =
    inr (side.0 ++ id ∷ [], ap (λ (l : List ℕ). l ++ id ∷ []) side.1, and_blamed ids marked side.0 id side.2)

-- the first ids, and one more
take_next : (members : List Member) (n : ℕ) (member : Member) → slice_get members n ≡ Some member
    → take (suc n) (ids members) ≡ take n (ids members) ++ member.id ∷ []
take_next members n member is =
    let there : slice_get (ids members) n ≡ Some member.id = slice_get-map member_id members n ∙ ap (λ (o : Option Member). option_map member_id o) is in
    take-suc (ids members) n member.id (slice_get_within (ids members) n member.id there)
    ∙ ap (λ (id : ℕ). take n (ids members) ++ id ∷ []) (get_or_from_slice_get (ids members) n member.id member.id there)

abbrev pub reason_id : ℕ × MemberCause → ℕ
reason_id reason = reason.0

-- the weight of a member, which is 1
same : (n : ℕ) → (n == n) ≡ true
same n = search rules

weight_more : (first : Member) (members : List Member) (id : ℕ) → weight_of members id ≡ Some 1 → weight_of (first ∷ members) id ≡ Some 1
weight_more first members id is = by (first.id == id)
  where
    by : (b : Bool) → (if b then Some 1 else weight_of members id) ≡ Some 1
    by true = refl
    by false = is

-- each member of a config has the weight 1 there
pub weights : (members : List Member) → AllByRecursion (λ (m : Member). weight_of members m.id ≡ Some 1) members
weights [] = tt
weights (first ∷ members) = (
  ap (λ (b : Bool). if b then Some 1 else weight_of members first.id) (same first.id),
  all_more (λ (m : Member). weight_of members m.id ≡ Some 1) (λ (m : Member). weight_of (first ∷ members) m.id ≡ Some 1)
      (λ m is. weight_more first members m.id is) members (weights members),
)

-- members that have marks weigh as much as there are
together : (members part : List Member) (marked blamed : List ℕ) → AllByRecursion (λ (m : Member). weight_of members m.id ≡ Some 1) part
    → AreParted (ids part) marked blamed → weight_together members marked ≡ length marked
together members [] marked blamed all parted = subst (λ (l : List ℕ). weight_together members l ≡ length l) (sym parted.0) refl
together members (first ∷ part) marked blamed all (inl side) =
    subst (λ (l : List ℕ). weight_together members l ≡ length l) (sym side.1)
    (omega (arith, sum_by-cons (λ (id : ℕ). unwrap_or (weight_of members id) 0) first.id side.0, ap (λ (o : Option ℕ). unwrap_or o 0) all.0, together members part side.0 blamed all.1 side.2))
together members (first ∷ part) marked blamed all (inr side) = together members part marked side.0 all.1 side.2

module _ (accepts : Accepts) (ask : Asking) where
  -- the first members, so many, have a mark or a reason each
  pub parted : (n : ℕ) (marks : List Mark) (reasons : List (ℕ × MemberCause)) (past : List Event) → AreAsked accepts ask n marks reasons past
      → AreParted (take n (ids ask.members)) (map id_of marks) (map reason_id reasons)
  parted zero marks reasons past asked = (ap (map id_of) asked.0, ap (map reason_id) asked.1)
  parted (suc n) marks reasons past (member, calls, before, is, split, inl side) =
      subst (λ (all : List ℕ). AreParted all (map id_of marks) (map reason_id reasons)) (sym (take_next ask.members n member is))
      (subst (λ (m : List ℕ). AreParted (take n (ids ask.members) ++ member.id ∷ []) m (map reason_id reasons))
      (sym (ap (map id_of) side.2 ∙ map-append id_of side.1 (record { id = member.id; sig = side.0 } ∷ [])))
      (and_marked (take n (ids ask.members)) (map id_of side.1) (map reason_id reasons) member.id (parted n side.1 reasons before side.4)))
  parted (suc n) marks reasons past (member, calls, before, is, split, inr side) =
      subst (λ (all : List ℕ). AreParted all (map id_of marks) (map reason_id reasons)) (sym (take_next ask.members n member is))
      (subst (λ (r : List ℕ). AreParted (take n (ids ask.members) ++ member.id ∷ []) (map id_of marks) r)
      (sym (ap (map reason_id) side.2 ∙ map-append reason_id side.1 ((member.id, side.0) ∷ [])))
      (and_blamed (take n (ids ask.members)) (map id_of marks) (map reason_id side.1) member.id (parted n marks side.1 before side.4)))

-- so many ids are there in both lists
pub parted_count : (ids marked blamed : List ℕ) → AreParted ids marked blamed → length marked + length blamed ≡ length ids
parted_count [] marked blamed parted = omega (arith, ap length parted.0, ap length parted.1)
parted_count (first ∷ ids) marked blamed (inl side) = omega (arith, ap length side.1, parted_count ids side.0 blamed side.2)
parted_count (first ∷ ids) marked blamed (inr side) = omega (arith, ap length side.1, parted_count ids marked side.0 side.2)

-- where each has a mark or a reason and the marks are no quorum, the reasons are enough that the others can be none
pub few : (members : List Member) (marked blamed : List ℕ) → AreParted (ids members) marked blamed
    → weight_together members marked < quorum members → length members < length blamed + quorum members
few members marked blamed whole less =
    let weight : weight_together members marked ≡ length marked = together members members marked blamed (weights members) whole in
    let count : length marked + length blamed ≡ length (ids members) = parted_count (ids members) marked blamed whole in
    let all : length (ids members) ≡ length members = length-map members member_id in
    omega (arith, less, weight, count, all)

whole_of : (members : List Member) (marked blamed : List ℕ) → AreParted (take (length members) (ids members)) marked blamed → AreParted (ids members) marked blamed
whole_of members marked blamed parted =
    subst (λ (l : List ℕ). AreParted l marked blamed) (ap (λ (n : ℕ). take n (ids members)) (sym (length-map members member_id)) ∙ take-length (ids members)) parted

pub too_few : (accepts : Accepts) (ask : Asking) (state : State) (past : List Event) → Sound accepts ask state past
    → state.asked ≡ length ask.members → weight_together ask.members (map id_of state.marks) < quorum ask.members
    → length ask.members < length state.reasons + quorum ask.members
too_few accepts ask state past sound all less =
    subst (λ (n : ℕ). length ask.members < n + quorum ask.members) (length-map state.reasons reason_id)
    (few ask.members (map id_of state.marks) (map reason_id state.reasons)
    (whole_of ask.members (map id_of state.marks) (map reason_id state.reasons)
    (subst (λ (n : ℕ). AreParted (take n (ids ask.members)) (map id_of state.marks) (map reason_id state.reasons)) all
    (parted accepts ask state.asked state.marks state.reasons sound.before sound.asked))) less)
