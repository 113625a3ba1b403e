-- How the members of view 0 begin, one after the other.
use Rattle.std.proofs.Common.{◌≡◌, ◌≢◌, inl, inr, ℕ, zero, suc, ◌+◌, ◌<◌, ◌≤◌, ltb, List, [], ◌∷◌, ◌++◌, take, slice_get, Option, Some, None, refl, sym, subst, ap, ◌∙◌, arith}
use Rattle.std.specs.Option.{option_map}
use Rattle.std.proofs.Math.Seq.{take-suc}
use Rattle.std.proofs.lemmas.Bool.{cases_Bool, ltb-true, ltb-false}
use Rattle.std.proofs.lemmas.Option.{slice_get_within, get_or_from_slice_get, slice_get-map}
use Rattle.statement.specs.declared.member.Member.{Member}
use Rattle.statement.specs.Config.{ids, id_of}
use Rattle.statement.specs.Ids.{RisesFrom, IsRising}
use Rattle.port.specs.Answer.{Done}
use Rattle.port.specs.Cause.{MemberCause}
use Rattle.port.specs.Contents.{Contents}
use Rattle.port.specs.Heard.{Heard, Answered, NoMemory}
use Rattle.port.specs.Link.{Bank, IsFaithful}
use Rattle.port.specs.Table.{State, Uninitialized, Initialized, Active}
use Rattle.port.specs.Trace.{Event, AreHonest, AreFaithful}
use Rattle.op_reconf.specs.SettingUp.{Asking, Gives}
use Rattle.op_reconf.specs.SetUpSound.{WasAsked, AreAsked}
use Rattle.calm.specs.Beginning.{first_view, first_call, second_call, IsInState, WasCalled, HasBegun}
use Rattle.calm.specs.Members.{Signs, IsAt, IsOther}

-- what a member of view 0 does with its two calls
pub record MemberLaws : Type 0 where
  pub initialized : (signs : Signs) (bank after : Bank) (config : List Member) (place : ℕ) (member : Member) (stamps signatures : ℕ) (heard : Heard)
      → IsAt config place member → IsInState bank Uninitialized (stamps + 1) signatures member → WasCalled signs bank member (first_call config) heard after
      → HasBegun bank (Initialized (first_view config)) stamps signatures member heard after
  pub activated : (signs : Signs) (bank after : Bank) (config : List Member) (member : Member) (stamps signatures : ℕ) (heard : Heard)
      → IsInState bank (Initialized (first_view config)) (stamps + 1) signatures member → WasCalled signs bank member (second_call config) heard after
      → HasBegun bank (Active (first_view config)) stamps signatures member heard after

-- the first ids, and one more
next_id : (members : List Member) (n : ℕ) (member : Member) → slice_get members n ≡ Some member → take (suc n) (ids members) ≡ take n (ids members) ++ member.id ∷ []
next_id members n member is =
    let there : slice_get (ids members) n ≡ Some member.id = slice_get-map id_of members n ∙ ap (λ (o : Option Member). option_map id_of o) is in
    take-suc (ids members) n member.id (slice_get_within (ids members) n member.id there)
    ∙ ap (λ (id : ℕ). take n (ids members) ++ id ∷ []) (get_or_from_slice_get (ids members) n member.id member.id there)

-- ids rise with the places
above_first : (id : ℕ) (members : List Member) (high : ℕ) (other : Member) → RisesFrom (Some id) (ids members) → IsAt members high other → id < other.id
above_first id [] high other rising is = absurd cc
above_first id (first ∷ members) zero other rising is =
    let same : first ≡ other = cc in
    subst (λ (m : Member). id < m.id) same (ltb-true id first.id rising.0)
above_first id (first ∷ members) (suc high) other rising is =
    let below : id < first.id = ltb-true id first.id rising.0 in
    let above = above_first first.id members high other rising.1 is in
    omega (arith, below, above)

rise : (before : Option ℕ) (members : List Member) (low high : ℕ) (one other : Member) → RisesFrom before (ids members) → low < high → IsAt members low one → IsAt members high other → one.id < other.id
rise before [] low high one other rising less is is' = absurd cc
rise before (first ∷ members) low zero one other rising less is is' = absurd (omega arith)
rise before (first ∷ members) zero (suc high) one other rising less is is' =
    let same : first ≡ one = cc in
    subst (λ (m : Member). m.id < other.id) same (above_first first.id members high other rising.1 is')
rise before (first ∷ members) (suc low) (suc high) one other rising less is is' = rise (Some first.id) members low high one other rising.1 (omega arith) is is'

-- the same member of endorsers among which it is as it was
moved : (bank after : Bank) (state : State) (stamps signatures : ℕ) (member : Member) → after member.id ≡ bank member.id → IsInState bank state stamps signatures member
    → IsInState after state stamps signatures member
moved bank after state stamps signatures member same is = record {
  told = is.told;
  known = same ∙ is.known;
  me = is.me;
  now = is.now;
  stamps_left = is.stamps_left;
  signatures_left = is.signatures_left;
}

module _ (laws : MemberLaws) (signs : Signs) (bank : Bank) (config : List Member) (rising : IsRising (ids config)) (left : ℕ)
    (members : (place : ℕ) (member : Member) → IsAt config place member → IsInState bank Uninitialized (left + 1 + 1) left member) where
  abbrev Ask : Asking
  Ask = record { initialize = first_call config; activate = second_call config; members = config }

  -- the first members, so many, have begun, and every other endorser is as it was
  pub record Begun (n : ℕ) (after : Bank) : Type 0 where
    pub each : (place : ℕ) (member : Member) → place < n → IsAt config place member → IsInState after (Active (first_view config)) left left member
    pub others : (id : ℕ) → IsOther config n id → after id ≡ bank id

  other_than_lower : (n : ℕ) (member : Member) → IsAt config n member → IsOther config n member.id
  other_than_lower n member is place other below there same =
      let less : other.id < member.id = rise _ config place n other member rising below there is in
      absurd (omega (arith, less, same))

  pub none_begun : Begun 0 bank
  none_begun = record { each = λ place member below is. absurd (omega arith); others = λ id other. refl }

  begun_more : (n : ℕ) (member : Member) (middle after : Bank) → IsAt config n member → Begun n middle → IsInState after (Active (first_view config)) left left member
      → ((id : ℕ) → id ≢ member.id → after id ≡ middle id) → Begun (suc n) after
  begun_more n member middle after is begun now same = record {
    each = λ place one below there.
        elim (cases_Bool (ltb place n)) [
          | inl earlier ↦
              let lower : place < n = ltb-true place n earlier in
              let less : one.id < member.id = rise _ config place n one member rising lower there is in
              moved middle after (Active (first_view config)) left left one (same one.id (λ e. absurd (omega (arith, less, e)))) (begun.each place one lower there)
          | inr later ↦
              let upper : n ≤ place = ltb-false place n later in
              let place_is : place ≡ n = omega (arith, below, upper) in
              let here : slice_get config n ≡ Some one = ap (slice_get config) (sym place_is) ∙ there in
              let one_is : member ≡ one = (let s : Some member ≡ Some one = sym is ∙ here in cc) in
              subst (λ (m : Member). IsInState after (Active (first_view config)) left left m) one_is now
        ];
    others = λ id other. same id (other n member (omega arith) is) ∙ begun.others id (λ place one below there. other place one (omega (arith, below)) there);
  }

  -- a member's turn
  module _ (n : ℕ) (member : Member) (is : IsAt config n member) (middle : Bank) (begun : Begun n middle) where
    here : IsInState middle Uninitialized (left + 1 + 1) left member
    here = moved bank middle Uninitialized (left + 1 + 1) left member (begun.others member.id (other_than_lower n member is)) (members n member is)

    first_done : (heard : Heard) (after : Bank) → heard ≢ NoMemory → IsFaithful signs middle member.id (first_call config) heard after
        → HasBegun middle (Initialized (first_view config)) (left + 1) left member heard after
    first_done heard after went faithful = laws.initialized signs middle after config n member (left + 1) left heard is here (record { went = went; faithful = faithful })

    second_done : (heard : Heard) (between after : Bank) → heard ≢ NoMemory → IsInState between (Initialized (first_view config)) (left + 1) left member
        → IsFaithful signs between member.id (second_call config) heard after → HasBegun between (Active (first_view config)) left left member heard after
    second_done heard between after went now faithful = laws.activated signs between after config member left left heard now (record { went = went; faithful = faithful })

  answers : Answered Done ≢ NoMemory
  answers e = absurd (cc e)

  spoke : (heard : Heard) (reason : Option MemberCause) → Gives heard reason → heard ≢ NoMemory
  spoke heard reason gives e = subst (λ (h : Heard). Gives h reason) e gives

  not_given : (heard : Heard) (cause : MemberCause) → heard ≡ Answered Done → Gives heard (Some cause) → ⊥
  not_given heard cause done gives = let g : Some cause ≡ None = subst (λ (h : Heard). Gives h (Some cause)) done gives in absurd (cc)

  -- no member has a reason
  no_reason : (n : ℕ) (member : Member) (cause : MemberCause) (heard : Heard) (before past : List Event) (after : Bank) → IsAt config n member → Gives heard (Some cause)
      → WasAsked Ask member.id heard before past → AreFaithful signs bank past after → ((middle : Bank) → AreFaithful signs bank before middle → Begun n middle) → ⊥
  no_reason n member cause heard before past after is gives (inl split) faithful older =
      let now = subst (λ (p : List Event). AreFaithful signs bank p after) split faithful in
      let begun = older now.0 now.1 in
      not_given heard cause (first_done n member is now.0 begun heard after (spoke heard (Some cause) gives) now.2).done gives
  no_reason n member cause heard before past after is gives (inr split) faithful older =
      let now = subst (λ (p : List Event). AreFaithful signs bank p after) split faithful in
      let begun = older now.1.0 now.1.1 in
      let first = first_done n member is now.1.0 begun (Answered Done) now.0 answers now.1.2 in
      not_given heard cause (second_done n member is now.1.0 begun heard now.0 after (spoke heard (Some cause) gives) first.in_state now.2).done gives

  -- what the turns of the first members lead to, after some calls of the store
  pub record Led (base : List Event) (n : ℕ) (done : List ℕ) (reasons : List (ℕ × MemberCause)) (past : List Event) (after : Bank) : Type 0 where
    pub begun : Begun n after
    pub all : done ≡ take n (ids config)
    pub none : reasons ≡ []
    pub quiet : (contents later : Contents) → AreHonest contents past later → AreHonest contents base later

  pub leads : (base : List Event) → ((after : Bank) → AreFaithful signs bank base after → after ≡ bank)
      → (n : ℕ) (done : List ℕ) (reasons : List (ℕ × MemberCause)) (past : List Event) (after : Bank) → AreAsked Ask base n done reasons past → AreFaithful signs bank past after
      → Led base n done reasons past after
  leads base still zero done reasons past after asked faithful =
      let same : after ≡ bank = still after (subst (λ (p : List Event). AreFaithful signs bank p after) asked.2 faithful) in
      record {
        begun = subst (Begun zero) (sym same) none_begun;
        all = asked.0;
        none = asked.1;
        quiet = λ contents later honest. subst (λ (p : List Event). AreHonest contents p later) asked.2 honest;
      }
  leads base still (suc n) done reasons past after (member, before, is, inl side) faithful =
      let now = subst (λ (p : List Event). AreFaithful signs bank p after) side.2 faithful in
      let led = leads base still n side.0 reasons before now.1.0 side.3 now.1.1 in
      let first = first_done n member is now.1.0 led.begun (Answered Done) now.0 answers now.1.2 in
      let second = second_done n member is now.1.0 led.begun (Answered Done) now.0 after answers first.in_state now.2 in
      record {
        begun = begun_more n member now.1.0 after is led.begun second.in_state (λ id other. second.others id other ∙ first.others id other);
        all = side.1 ∙ ap (λ (l : List ℕ). l ++ member.id ∷ []) led.all ∙ sym (next_id config n member is);
        none = led.none;
        quiet = λ contents later honest. led.quiet contents later (subst (λ (p : List Event). AreHonest contents p later) side.2 honest);
      }
  leads base still (suc n) done reasons past after (member, before, is, inr side) faithful =
      absurd (no_reason n member side.0 side.3.0 before past after is side.3.1 side.3.2 faithful
      (λ middle f. (leads base still n done side.1 before middle side.4 f).begun))
