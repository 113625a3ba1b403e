-- Marks that are a quorum make a receipt that is accepted.
use Rattle.std.proofs.Common.{◌≡◌, inl, inr, ℕ, ◌≤◌, ◌==◌, nat_lt, Bool, true, false, if◌then◌else◌, List, [], ◌∷◌, map, take, length, slice_get, Option, Some, None, refl, sym, ◌∙◌, subst, ap, arith, rules}
use Rattle.std.specs.Prelude.{IsTrue}
use Rattle.std.specs.List.{AllByRecursion}
use Rattle.std.proofs.Math.Seq.{take-length}
use Rattle.std.proofs.lemmas.List.{length-map}
use Rattle.std.proofs.lemmas.List.Elements.{All-from_recursion}
use Rattle.std.proofs.lemmas.Option.{slice_get_within, get_or_from_slice_get}
use Rattle.statement.specs.declared.member.Member.{Member}
use Rattle.statement.specs.Config.{ids, id_of as member_id, key_of, weight_together, quorum, IsConfig}
use Rattle.statement.specs.Ids.{is_above, RisesFrom, IsRising}
use Rattle.statement.specs.Mark.{Content as Mark, id_of}
use Rattle.statement.specs.Statement.{statement_bytes}
use Rattle.port.specs.Trace.{Event}
use Rattle.view_ledger.specs.Receipts.{Accepts, IsSigned, IsAccepted}
use Rattle.view_ledger.specs.Signers.{are_quorum}
use Rattle.op_parts.specs.RoundAsking.{Asking, claim}
use Rattle.op_parts.specs.RoundOutcome.{held}
use Rattle.op_parts.specs.RoundState.{State}
use Rattle.op_parts.specs.RoundSound.{Sound}
use Rattle.op_parts.specs.RoundLaws.{IsMarkShown, AreParted}
use Rattle.op_parts.proofs.RoundShown.{all_more, all_marks_shown}
use Rattle.op_parts.proofs.RoundParted.{parted, reason_id}

above_on : (before : Option ℕ) (id next : ℕ) → IsTrue (is_above before id) → IsTrue (nat_lt id next) → IsTrue (is_above before next)
above_on None id next a b = refl
above_on (Some first) id next a b = grind (arith, a, b)

rises_on : (before : Option ℕ) (id : ℕ) (all : List ℕ) → IsTrue (is_above before id) → RisesFrom (Some id) all → RisesFrom before all
rises_on before id [] above rises = rises
rises_on before id (next ∷ all) above rises = (above_on before id next above rises.0, rises.1)

pub marked_rise : (before : Option ℕ) (all marked blamed : List ℕ) → AreParted all marked blamed → RisesFrom before all → RisesFrom before marked
marked_rise before [] marked blamed are rises = subst (RisesFrom before) (sym are.0) rises
marked_rise before (id ∷ all) marked blamed (inl side) rises =
    subst (RisesFrom before) (sym side.1) (rises.0, marked_rise (Some id) all side.0 blamed side.2 rises.1)
marked_rise before (id ∷ all) marked blamed (inr side) rises =
    rises_on before id marked rises.0 (marked_rise (Some id) all marked side.0 side.2 rises.1)

same : (n : ℕ) → (n == n) ≡ true
same n = search rules

apart : (a b : ℕ) → IsTrue (nat_lt a b) → (a == b) ≡ false
apart a b less = grind (arith, less)

abbrev HasKey : Option ℕ → List Member → Member → Type 0
HasKey before members member = (key_of members member.id ≡ Some member.key) × IsTrue (is_above before member.id)

keys : (before : Option ℕ) (members : List Member) → RisesFrom before (ids members) → AllByRecursion (HasKey before members) members
keys before [] rises = tt
keys before (first ∷ members) rises = (
  (ap (λ (b : Bool). if b then Some first.key else key_of members first.id) (same first.id), rises.0),
  all_more (HasKey (Some first.id) members) (HasKey before (first ∷ members))
      (λ m has. (
        ap (λ (b : Bool). if b then Some first.key else key_of members m.id) (apart first.id m.id has.1) ∙ has.0,
        above_on before first.id m.id rises.0 has.1,
      )) members (keys (Some first.id) members rises.1),
)

key_at : (members : List Member) (place : ℕ) (member : Member) → IsRising (ids members) → slice_get members place ≡ Some member → key_of members member.id ≡ Some member.key
key_at members place member rises is =
    let has = All-from_recursion (HasKey None members) members (keys None members rises) place member (slice_get_within members place member is) in
    subst (λ (m : Member). key_of members m.id ≡ Some m.key) (get_or_from_slice_get members place member member is) has.0

pub receipt_accepted : (accepts : Accepts) (ask : Asking) (state : State) (past : List Event) → Sound accepts ask state past
    → IsConfig ask.members → state.asked ≡ length ask.members → quorum ask.members ≤ weight_together ask.members (map id_of state.marks)
    → IsAccepted accepts ask.members ask.view (record { statement = held (claim ask); marks = state.marks })
receipt_accepted accepts ask state past sound config all enough =
    let members : List Member = ask.members in
    let whole : AreParted (ids members) (map id_of state.marks) (map reason_id state.reasons) =
    subst (λ (l : List ℕ). AreParted l (map id_of state.marks) (map reason_id state.reasons))
    (ap (λ (n : ℕ). take n (ids members)) (all ∙ sym (length-map members member_id)) ∙ take-length (ids members))
    (parted accepts ask state.asked state.marks state.reasons sound.before sound.asked) in
    let rising : IsRising (map id_of state.marks) = marked_rise None (ids members) (map id_of state.marks) (map reason_id state.reasons) whole config.rising in
    let signed : AllByRecursion (λ (m : Mark). IsSigned accepts members (statement_bytes (held (claim ask))) m.id m.sig) state.marks =
    all_more (IsMarkShown accepts ask past) (λ (m : Mark). IsSigned accepts members (statement_bytes (held (claim ask))) m.id m.sig)
    (λ m shown. (shown.1.key, ap (key_of members) shown.3 ∙ key_at members shown.0 shown.1 config.rising shown.2, shown.4))
    state.marks (all_marks_shown accepts ask state past sound) in
    record {
      own_view = refl;
      rising = rising;
      signed = signed;
      enough = are_quorum accepts members (λ (m : Mark). statement_bytes (held (claim ask))) (λ (m : Mark). m.sig) id_of state.marks rising signed enough;
    }
