-- Each member has a mark or a reason; what both come to.
use Rattle.std.proofs.Common.{◌≡◌, inl, inr, ℕ, ◌+◌, ◌<◌, ◌==◌, nat_lt, Bool, true, false, if◌then◌else◌, List, [], ◌∷◌, length, map, slice_get, Option, Some, None, refl, sym, ◌∙◌, subst, ap, arith, rules}
use Rattle.std.specs.Prelude.{IsTrue, unwrap_or}
use Rattle.std.specs.List.{AllByRecursion, cons_option}
use Rattle.std.proofs.lemmas.List.{length-map}
use Rattle.std.proofs.lemmas.List.Elements.{All-from_recursion}
use Rattle.std.proofs.lemmas.List.Sums.{sum_by-cons}
use Rattle.std.proofs.lemmas.Option.{slice_get_within, get_or_from_slice_get}
use Rattle.statement.specs.declared.member.Member.{Member}
use Rattle.statement.specs.Config.{ids, id_of as member_id, key_of, weight_of, weight_together, quorum}
use Rattle.statement.specs.Ids.{is_above, RisesFrom, IsRising}
use Rattle.statement.specs.Mark.{Content as Mark, id_of as mark_id}
use Rattle.port.specs.Cause.{MemberCause, OtherTail}
use Rattle.op_parts.specs.RoundLaws.{AreParted}
use Rattle.op_latest.specs.declared.latest_head.LatestHead.{LatestHead}
use Rattle.op_latest.specs.LatestVote.{Vote, Told, Ahead, Blamed, MemberVote, id_of, is_for, supporters, mark_of, marks_of, reason_of, with_id, reasons_of}
use Rattle.op_latest.proofs.LatestLists.{all_more}

abbrev pub reason_id : ℕ × MemberCause → ℕ
reason_id reason = reason.0

module _ (head : LatestHead) where
  abbrev Parts : List ℕ → List Mark → List (ℕ × MemberCause) → Type 0
  Parts all marks reasons = AreParted all (map mark_id marks) (map reason_id reasons)

  one_part : (id : ℕ) (vote : Vote) (all : List ℕ) (marks : List Mark) (reasons : List (ℕ × MemberCause)) → Parts all marks reasons
      → Parts (id ∷ all) (cons_option (mark_of head id vote) marks) (cons_option (with_id id (reason_of head vote)) reasons)
  one_part id (Told tail count sig) all marks reasons parted = by (is_for head (Told tail count sig))
    where
      by : (b : Bool) → Parts (id ∷ all) (cons_option (if b then Some (record { id = id; sig = sig }) else None) marks)
          (cons_option (with_id id (if b then None else Some (OtherTail count tail))) reasons)
      by true = inl (map mark_id marks, refl, parted)
      by false = inr (map reason_id reasons, refl, parted)
  one_part id (Ahead count tail) all marks reasons parted = inr (map reason_id reasons, refl, parted)
  one_part id (Blamed cause) all marks reasons parted = inr (map reason_id reasons, refl, parted)

  -- each vote is a mark or a reason
  pub parted : (votes : List MemberVote) → Parts (map id_of votes) (marks_of head votes) (reasons_of head votes)
  parted [] = (refl, refl)
  parted (one ∷ votes) = one_part one.id one.vote (map id_of votes) (marks_of head votes) (reasons_of head votes) (parted votes)

  one_supports : (id : ℕ) (vote : Vote) (others : List ℕ) (marks : List Mark) → others ≡ map mark_id marks
      → (if is_for head vote then id ∷ others else others) ≡ map mark_id (cons_option (mark_of head id vote) marks)
  one_supports id (Told tail count sig) others marks is = by (is_for head (Told tail count sig))
    where
      by : (b : Bool) → (if b then id ∷ others else others) ≡ map mark_id (cons_option (if b then Some (record { id = id; sig = sig }) else None) marks)
      by true = ap (λ (l : List ℕ). id ∷ l) is
      by false = is
  one_supports id (Ahead count tail) others marks is = is
  one_supports id (Blamed cause) others marks is = is

  -- those that told the head have the marks
  pub supported : (votes : List MemberVote) → supporters head votes ≡ map mark_id (marks_of head votes)
  supported [] = refl
  supported (one ∷ votes) = one_supports one.id one.vote (supporters head votes) (marks_of head votes) (supported votes)

-- the weight of a member, which is 1
same : (n : ℕ) → (n == n) ≡ true
same n = search rules

weight_more : (first : Member) (members : List Member) (id : ℕ) → weight_of members id ≡ Some 1 → weight_of (first ∷ members) id ≡ Some 1
weight_more first members id is = by (first.id == id)
  where
    by : (b : Bool) → (if b then Some 1 else weight_of members id) ≡ Some 1
    by true = refl
    by false = is

weights : (members : List Member) → AllByRecursion (λ (m : Member). weight_of members m.id ≡ Some 1) members
weights [] = tt
weights (first ∷ members) = (
  ap (λ (b : Bool). if b then Some 1 else weight_of members first.id) (same first.id),
  all_more (λ (m : Member). weight_of members m.id ≡ Some 1) (λ (m : Member). weight_of (first ∷ members) m.id ≡ Some 1)
      (λ m is. weight_more first members m.id is) members (weights members),
)

together : (members part : List Member) (marked blamed : List ℕ) → AllByRecursion (λ (m : Member). weight_of members m.id ≡ Some 1) part
    → AreParted (ids part) marked blamed → weight_together members marked ≡ length marked
together members [] marked blamed all parted = subst (λ (l : List ℕ). weight_together members l ≡ length l) (sym parted.0) refl
together members (first ∷ part) marked blamed all (inl side) =
    subst (λ (l : List ℕ). weight_together members l ≡ length l) (sym side.1)
    (omega (arith, sum_by-cons (λ (id : ℕ). unwrap_or (weight_of members id) 0) first.id side.0, ap (λ (o : Option ℕ). unwrap_or o 0) all.0, together members part side.0 blamed all.1 side.2))
together members (first ∷ part) marked blamed all (inr side) = together members part marked side.0 all.1 side.2

parted_count : (ids marked blamed : List ℕ) → AreParted ids marked blamed → length marked + length blamed ≡ length ids
parted_count [] marked blamed parted = omega (arith, ap length parted.0, ap length parted.1)
parted_count (first ∷ ids) marked blamed (inl side) = omega (arith, ap length side.1, parted_count ids side.0 blamed side.2)
parted_count (first ∷ ids) marked blamed (inr side) = omega (arith, ap length side.1, parted_count ids marked side.0 side.2)

-- where the marks are no quorum, the reasons are enough that the others can be none
pub few : (members : List Member) (marked blamed : List ℕ) → AreParted (ids members) marked blamed
    → weight_together members marked < quorum members → length members < length blamed + quorum members
few members marked blamed parted less =
    let weight : weight_together members marked ≡ length marked = together members members marked blamed (weights members) parted in
    let count : length marked + length blamed ≡ length (ids members) = parted_count (ids members) marked blamed parted in
    let all : length (ids members) ≡ length members = length-map members member_id in
    omega (arith, less, weight, count, all)

-- marks rise as the members do
above_on : (before : Option ℕ) (id next : ℕ) → IsTrue (is_above before id) → IsTrue (nat_lt id next) → IsTrue (is_above before next)
above_on None id next a b = refl
above_on (Some first) id next a b = grind (arith, a, b)

rises_on : (before : Option ℕ) (id : ℕ) (all : List ℕ) → IsTrue (is_above before id) → RisesFrom (Some id) all → RisesFrom before all
rises_on before id [] above rises = rises
rises_on before id (next ∷ all) above rises = (above_on before id next above rises.0, rises.1)

pub marked_rise : (before : Option ℕ) (all marked blamed : List ℕ) → AreParted all marked blamed → RisesFrom before all → RisesFrom before marked
marked_rise before [] marked blamed are rises = subst (RisesFrom before) (sym are.0) rises
marked_rise before (id ∷ all) marked blamed (inl side) rises =
    subst (RisesFrom before) (sym side.1) (rises.0, marked_rise (Some id) all side.0 blamed side.2 rises.1)
marked_rise before (id ∷ all) marked blamed (inr side) rises =
    rises_on before id marked rises.0 (marked_rise (Some id) all marked side.0 side.2 rises.1)

apart : (a b : ℕ) → IsTrue (nat_lt a b) → (a == b) ≡ false
apart a b less = grind (arith, less)

abbrev HasKey : Option ℕ → List Member → Member → Type 0
HasKey before members member = (key_of members member.id ≡ Some member.key) × IsTrue (is_above before member.id)

keys : (before : Option ℕ) (members : List Member) → RisesFrom before (ids members) → AllByRecursion (HasKey before members) members
keys before [] rises = tt
keys before (first ∷ members) rises = (
  (ap (λ (b : Bool). if b then Some first.key else key_of members first.id) (same first.id), rises.0),
  all_more (HasKey (Some first.id) members) (HasKey before (first ∷ members))
      (λ m has. (
        ap (λ (b : Bool). if b then Some first.key else key_of members m.id) (apart first.id m.id has.1) ∙ has.0,
        above_on before first.id m.id rises.0 has.1,
      )) members (keys (Some first.id) members rises.1),
)

pub key_at : (members : List Member) (place : ℕ) (member : Member) → IsRising (ids members) → slice_get members place ≡ Some member → key_of members member.id ≡ Some member.key
key_at members place member rises is =
    let has = All-from_recursion (HasKey None members) members (keys None members rises) place member (slice_get_within members place member is) in
    subst (λ (m : Member). key_of members m.id ≡ Some m.key) (get_or_from_slice_get members place member member is) has.0
