-- What the calls to the members show.
use Rattle.std.proofs.Common.{◌≡◌, ◌⊎◌, inl, inr, ℕ, zero, suc, ◌<◌, ◌≤◌, Bool, true, false, List, [], ◌∷◌, ◌++◌, length, map, take, slice_get, Option, Some, None, refl, sym, ◌∙◌, subst, ap, arith}
use Rattle.std.specs.Prelude.{unwrap_or}
use Rattle.std.specs.List.{AllByRecursion}
use Rattle.std.specs.Option.{option_map}
use Rattle.std.proofs.Math.Seq.{take-suc, take-length}
use Rattle.std.proofs.lemmas.Bool.{ltb-true}
use Rattle.std.proofs.lemmas.List.{map-append, length-map}
use Rattle.std.proofs.lemmas.Option.{slice_get_within, get_or_from_slice_get, slice_get-map}
use Rattle.statement.specs.declared.member.Member.{Member}
use Rattle.statement.specs.Config.{ids, id_of as member_id, IsConfig}
use Rattle.statement.specs.Ids.{RisesFrom, IsRising}
use Rattle.port.specs.declared.store_answers.Put.{Put}
use Rattle.port.specs.Answer.{Done}
use Rattle.port.specs.Cause.{MemberCause}
use Rattle.port.specs.Heard.{Heard, Answered}
use Rattle.port.specs.Trace.{Event, Had}
use Rattle.view_ledger.specs.Views.{ViewChain}
use Rattle.op_parts.specs.RoundLaws.{AreParted}
use Rattle.op_reconf.specs.SettingUp.{Asking, IsMember}
use Rattle.op_reconf.specs.SetUpSound.{initialize_at, activate_at, WasAsked, Ends, AreAsked, HasBegun}
use Rattle.op_reconf.specs.First.{first_asking, first_config, put_event, IsPlaced}
use Rattle.op_reconf.specs.Says.{IsDone, IsReasonShown, IsPut}
use Rattle.op_reconf.specs.OwnCalls.{AreLower, OwnCalls}

-- these calls are among those
abbrev pub Within : List Event → List Event → Type 0
Within some all = (event : Event) → Had some event → Had all event

pub all_more : {X : Type 0} (P Q : X → Type 0) → ((x : X) → P x → Q x) → (xs : List X) → AllByRecursion P xs → AllByRecursion Q xs
all_more P Q more [] all = tt
all_more P Q more (x ∷ xs) all = (more x all.0, all_more P Q more xs all.1)

all_and : {X : Type 0} (P : X → Type 0) (xs : List X) (x : X) → AllByRecursion P xs → P x → AllByRecursion P (xs ++ x ∷ [])
all_and P [] x all is = (is, tt)
all_and P (first ∷ xs) x all is = (all.0, all_and P xs x all.1 is)

abbrev pub reason_id : ℕ × MemberCause → ℕ
reason_id reason = reason.0

and_done : (ids done blamed : List ℕ) (id : ℕ) → AreParted ids done blamed → AreParted (ids ++ id ∷ []) (done ++ id ∷ []) blamed
and_done [] done blamed id parted = inl ([], ap (λ (l : List ℕ). l ++ id ∷ []) parted.0, (refl, parted.1))
and_done (first ∷ ids) done blamed id (inl side) =
    inl (side.0 ++ id ∷ [], ap (λ (l : List ℕ). l ++ id ∷ []) side.1, and_done ids side.0 blamed id side.2)
and_done (first ∷ ids) done blamed id (inr side) = inr (side.0, side.1, and_done ids done side.0 id side.2)

and_blamed : (ids done blamed : List ℕ) (id : ℕ) → AreParted ids done blamed → AreParted (ids ++ id ∷ []) done (blamed ++ id ∷ [])
and_blamed [] done blamed id parted = inr ([], ap (λ (l : List ℕ). l ++ id ∷ []) parted.1, (parted.0, refl))
and_blamed (first ∷ ids) done blamed id (inl side) = inl (side.0, side.1, and_blamed ids side.0 blamed id side.2)
and_blamed (first ∷ ids) done blamed id (inr side) =
    inr (side.0 ++ id ∷ [], ap (λ (l : List ℕ). l ++ id ∷ []) side.1, and_blamed ids done side.0 id side.2)

-- the first ids, and one more
take_next : (members : List Member) (n : ℕ) (member : Member) → slice_get members n ≡ Some member
    → take (suc n) (ids members) ≡ take n (ids members) ++ member.id ∷ []
take_next members n member is =
    let there : slice_get (ids members) n ≡ Some member.id = slice_get-map member_id members n ∙ ap (λ (o : Option Member). option_map member_id o) is in
    take-suc (ids members) n member.id (slice_get_within (ids members) n member.id there)
    ∙ ap (λ (id : ℕ). take n (ids members) ++ id ∷ []) (get_or_from_slice_get (ids members) n member.id member.id there)

pub asked_within : (ask : Asking) (id : ℕ) (heard : Heard) (before past : List Event) → WasAsked ask id heard before past → Within before past
asked_within ask id heard before past (inl is) = subst (Within before) (sym is) (λ event had. inr had)
asked_within ask id heard before past (inr is) = subst (Within before) (sym is) (λ event had. inr (inr had))

done_more : (ask : Asking) (some all : List Event) → Within some all → (id : ℕ) → IsDone ask some id → IsDone ask all id
done_more ask some all more id is = (more _ is.0, more _ is.1)

pub all_done_more : (ask : Asking) (some all : List Event) → Within some all → (done : List ℕ) → AllByRecursion (IsDone ask some) done → AllByRecursion (IsDone ask all) done
all_done_more ask some all more done are = all_more (IsDone ask some) (IsDone ask all) (done_more ask some all more) done are

done_by : (ask : Asking) (id : ℕ) (before past : List Event) → Ends ask id None before past → IsDone ask past id
done_by ask id before past ends = subst (λ (p : List Event). IsDone ask p id) (sym ends) (inr (inl refl), inl refl)

either_more : (ask : Asking) (id : ℕ) (heard : Heard) (some all : List Event) → Within some all
    → Had some (initialize_at ask id heard) ⊎ Had some (activate_at ask id heard) → Had all (initialize_at ask id heard) ⊎ Had all (activate_at ask id heard)
either_more ask id heard some all more (inl had) = inl (more _ had)
either_more ask id heard some all more (inr had) = inr (more _ had)

reason_more : (ask : Asking) (some all : List Event) → Within some all → (reason : ℕ × MemberCause) → IsReasonShown ask some reason → IsReasonShown ask all reason
reason_more ask some all more reason shown = (shown.0, shown.1, either_more ask reason.0 shown.0 some all more shown.2)

heard_by : (ask : Asking) (id : ℕ) (heard : Heard) (before past : List Event) → WasAsked ask id heard before past
    → Had past (initialize_at ask id heard) ⊎ Had past (activate_at ask id heard)
heard_by ask id heard before past (inl is) = inl (subst (λ (p : List Event). Had p (initialize_at ask id heard)) (sym is) (inl refl))
heard_by ask id heard before past (inr is) = inr (subst (λ (p : List Event). Had p (activate_at ask id heard)) (sym is) (inl refl))

module _ (ask : Asking) (base : List Event) where
  parted : (n : ℕ) (done : List ℕ) (reasons : List (ℕ × MemberCause)) (past : List Event) → AreAsked ask base n done reasons past
      → AreParted (take n (ids ask.members)) done (map reason_id reasons)
  parted zero done reasons past asked = (asked.0, ap (map reason_id) asked.1)
  parted (suc n) done reasons past (member, before, is, inl side) =
      subst (λ (all : List ℕ). AreParted all done (map reason_id reasons)) (sym (take_next ask.members n member is))
      (subst (λ (d : List ℕ). AreParted (take n (ids ask.members) ++ member.id ∷ []) d (map reason_id reasons)) (sym side.1)
      (and_done (take n (ids ask.members)) side.0 (map reason_id reasons) member.id (parted n side.0 reasons before side.3)))
  parted (suc n) done reasons past (member, before, is, inr side) =
      subst (λ (all : List ℕ). AreParted all done (map reason_id reasons)) (sym (take_next ask.members n member is))
      (subst (λ (r : List ℕ). AreParted (take n (ids ask.members) ++ member.id ∷ []) done r)
      (sym (ap (map reason_id) side.2 ∙ map-append reason_id side.1 ((member.id, side.0) ∷ [])))
      (and_blamed (take n (ids ask.members)) done (map reason_id side.1) member.id (parted n done side.1 before side.4)))

  -- each member is done or has a reason, once all were asked
  pub all_parted : (done : List ℕ) (reasons : List (ℕ × MemberCause)) (past : List Event) → AreAsked ask base (length ask.members) done reasons past
      → AreParted (ids ask.members) done (map reason_id reasons)
  all_parted done reasons past asked =
      subst (λ (l : List ℕ). AreParted l done (map reason_id reasons))
      (ap (λ (n : ℕ). take n (ids ask.members)) (sym (length-map ask.members member_id)) ∙ take-length (ids ask.members))
      (parted (length ask.members) done reasons past asked)

  -- the calls before are among them
  pub base_within : (n : ℕ) (done : List ℕ) (reasons : List (ℕ × MemberCause)) (past : List Event) → AreAsked ask base n done reasons past → Within base past
  base_within zero done reasons past asked = subst (Within base) (sym asked.2) (λ event had. had)
  base_within (suc n) done reasons past (member, before, is, inl side) =
      λ event had. asked_within ask member.id (Answered Done) before past (inr side.2) event (base_within n side.0 reasons before side.3 event had)
  base_within (suc n) done reasons past (member, before, is, inr side) =
      λ event had. asked_within ask member.id side.3.0 before past side.3.2 event (base_within n done side.1 before side.4 event had)

  pub all_done : (n : ℕ) (done : List ℕ) (reasons : List (ℕ × MemberCause)) (past : List Event) → AreAsked ask base n done reasons past
      → AllByRecursion (IsDone ask past) done
  all_done zero done reasons past asked = subst (AllByRecursion (IsDone ask past)) (sym asked.0) tt
  all_done (suc n) done reasons past (member, before, is, inl side) =
      subst (AllByRecursion (IsDone ask past)) (sym side.1)
      (all_and (IsDone ask past) side.0 member.id
      (all_done_more ask before past (asked_within ask member.id (Answered Done) before past (inr side.2)) side.0 (all_done n side.0 reasons before side.3))
      (done_by ask member.id before past side.2))
  all_done (suc n) done reasons past (member, before, is, inr side) =
      all_done_more ask before past (asked_within ask member.id side.3.0 before past side.3.2) done (all_done n done side.1 before side.4)

  reasons_more : (some all : List Event) → Within some all → (reasons : List (ℕ × MemberCause)) → AllByRecursion (IsReasonShown ask some) reasons → AllByRecursion (IsReasonShown ask all) reasons
  reasons_more some all more reasons shown = all_more (IsReasonShown ask some) (IsReasonShown ask all) (reason_more ask some all more) reasons shown

  pub all_shown : (n : ℕ) (done : List ℕ) (reasons : List (ℕ × MemberCause)) (past : List Event) → AreAsked ask base n done reasons past
      → AllByRecursion (IsReasonShown ask past) reasons
  all_shown zero done reasons past asked = subst (AllByRecursion (IsReasonShown ask past)) (sym asked.1) tt
  all_shown (suc n) done reasons past (member, before, is, inl side) =
      reasons_more before past (asked_within ask member.id (Answered Done) before past (inr side.2)) reasons (all_shown n side.0 reasons before side.3)
  all_shown (suc n) done reasons past (member, before, is, inr side) =
      subst (AllByRecursion (IsReasonShown ask past)) (sym side.2)
      (all_and (IsReasonShown ask past) side.1 (member.id, side.0)
      (reasons_more before past (asked_within ask member.id side.3.0 before past side.3.2) side.1 (all_shown n done side.1 before side.4))
      (side.3.0, side.3.1, heard_by ask member.id side.3.0 before past side.3.2))

-- ids that rise
above_first : (before : ℕ) (members : List Member) → RisesFrom (Some before) (ids members) → (n : ℕ) (member : Member) → slice_get members n ≡ Some member → before < member.id
above_first before [] rises n member is = absurd (cc is)
above_first before (first ∷ members) rises zero member is =
    subst (λ (m : Member). before < m.id) (ap (λ (o : Option Member). unwrap_or o first) is) (ltb-true before first.id rises.0)
above_first before (first ∷ members) rises (suc n) member is =
    omega (arith, ltb-true before first.id rises.0, above_first first.id members rises.1 n member is)

rise : (before : Option ℕ) (members : List Member) → RisesFrom before (ids members) → (k n : ℕ) (lower higher : Member) → k < n
    → slice_get members k ≡ Some lower → slice_get members n ≡ Some higher → lower.id < higher.id
rise before [] rises k n lower higher less one other = absurd (cc one)
rise before (first ∷ members) rises k zero lower higher less one other = absurd (omega (arith, less))
rise before (first ∷ members) rises zero (suc n) lower higher less one other =
    subst (λ (m : Member). m.id < higher.id) (ap (λ (o : Option Member). unwrap_or o first) one) (above_first first.id members rises.1 n higher other)
rise before (first ∷ members) rises (suc k) (suc n) lower higher less one other =
    rise (Some first.id) members rises.1 k n lower higher (omega (arith, less)) one other

turn_lower : (ask : Asking) (id next : ℕ) (heard : Heard) (before past : List Event) → WasAsked ask id heard before past → id < next
    → AreLower next before → AreLower next past
turn_lower ask id next heard before past (inl was) less lower = subst (AreLower next) (sym was) (less, lower)
turn_lower ask id next heard before past (inr was) less lower = subst (AreLower next) (sym was) (less, (less, lower))

-- the members before have lower ids
asked_lower : (ask : Asking) (base : List Event) → IsRising (ids ask.members) → (n : ℕ) (done : List ℕ) (reasons : List (ℕ × MemberCause)) (past : List Event)
    → AreAsked ask base n done reasons past → (m : ℕ) (next : Member) → n ≤ m → IsMember ask m next → AreLower next.id base → AreLower next.id past
asked_lower ask base rising zero done reasons past asked m next most there lower = subst (AreLower next.id) (sym asked.2) lower
asked_lower ask base rising (suc n) done reasons past (member, before, is, inl side) m next most there lower =
    turn_lower ask member.id next.id (Answered Done) before past (inr side.2) (rise None ask.members rising n m member next (omega (arith, most)) is there)
    (asked_lower ask base rising n side.0 reasons before side.3 m next (omega (arith, most)) there lower)
asked_lower ask base rising (suc n) done reasons past (member, before, is, inr side) m next most there lower =
    turn_lower ask member.id next.id side.3.0 before past side.3.2 (rise None ask.members rising n m member next (omega (arith, most)) is there)
    (asked_lower ask base rising n done side.1 before side.4 m next (omega (arith, most)) there lower)

-- The calls to the members of view 0 are own ones.
module _ (from : ViewChain) (config : IsConfig (first_config from)) (put : Put) (placed : IsPlaced put) where
  abbrev base : List Event
  base = put_event (first_config from) put ∷ []

  abbrev Asked : ℕ → List ℕ → List (ℕ × MemberCause) → List Event → Type 0
  Asked n done reasons past = AreAsked (first_asking from) base n done reasons past

  pub was_put : (n : ℕ) (done : List ℕ) (reasons : List (ℕ × MemberCause)) (past : List Event) → Asked n done reasons past → IsPut from past
  was_put n done reasons past asked =
      (put, placed, base_within (first_asking from) base n done reasons past asked (put_event (first_config from) put) (inl refl))

  turn_own : (n : ℕ) (member : Member) (heard : Heard) (before past : List Event) → IsMember (first_asking from) n member
      → WasAsked (first_asking from) member.id heard before past → IsPut from before → AreLower member.id before → OwnCalls from before → OwnCalls from past
  turn_own n member heard before past is (inl was) stands lower own =
      subst (OwnCalls from) (sym was) (((n, member, is, refl), inl (refl, stands, lower)), own)
  turn_own n member heard before past is (inr was) stands lower own =
      subst (OwnCalls from) (sym was) (((n, member, is, refl), inr (refl, refl)), (((n, member, is, refl), inl (refl, stands, lower)), own))

  -- one more turn, or a part of it
  pub next_own : (n : ℕ) (done : List ℕ) (reasons : List (ℕ × MemberCause)) (before : List Event) → Asked n done reasons before → OwnCalls from before
      → (member : Member) (heard : Heard) (past : List Event) → IsMember (first_asking from) n member → WasAsked (first_asking from) member.id heard before past
      → OwnCalls from past
  next_own n done reasons before asked own member heard past is was =
      turn_own n member heard before past is was (was_put n done reasons before asked)
      (asked_lower (first_asking from) base config.rising n done reasons before asked n member (omega arith) is tt) own

  pub all_own : (n : ℕ) (done : List ℕ) (reasons : List (ℕ × MemberCause)) (past : List Event) → Asked n done reasons past → OwnCalls from past
  all_own zero done reasons past asked = subst (OwnCalls from) (sym asked.2) (inl (refl, refl), tt)
  all_own (suc n) done reasons past (member, before, is, inl side) =
      next_own n side.0 reasons before side.3 (all_own n side.0 reasons before side.3) member (Answered Done) past is (inr side.2)
  all_own (suc n) done reasons past (member, before, is, inr side) =
      next_own n done side.1 before side.4 (all_own n done side.1 before side.4) member side.3.0 past is side.3.2

  pub begun_own : (n : ℕ) (done : List ℕ) (reasons : List (ℕ × MemberCause)) (begun : Bool) (before past : List Event) → Asked n done reasons before
      → HasBegun (first_asking from) n begun before past → OwnCalls from past
  begun_own n done reasons false before past asked is = subst (OwnCalls from) (sym is) (all_own n done reasons before asked)
  begun_own n done reasons true before past asked is =
      next_own n done reasons before asked (all_own n done reasons before asked) is.0 (Answered Done) past is.1 (inl is.2)
