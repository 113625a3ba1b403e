-- What the answer says of the calls that led to it.
use Rattle.std.proofs.Common.{◌≡◌, ◌⊎◌, inl, inr, ℕ, ◌+◌, ◌<◌, ◌≤◌, List, [], ◌∷◌, length, map, Option, Some, None, refl, sym, subst, ap}
use Rattle.std.specs.Prelude.{Result, Ok, Err, IfSome, unwrap_or}
use Rattle.std.specs.Option.{option_map}
use Rattle.port.specs.declared.refusal.Refusal.{Refusal}
use Rattle.std.proofs.lemmas.List.{length-map}
use Rattle.statement.specs.declared.member.Member.{Member}
use Rattle.statement.specs.Config.{ids, quorum, weight_together, IsConfig, IsQuorum}
use Rattle.port.specs.declared.store_answers.Put.{Put}
use Rattle.port.specs.declared.store_answers.Put.TheVariants as puts
use Rattle.port.specs.declared.store_answers.Attached.{Attached}
use Rattle.port.specs.declared.store_answers.Attached.TheVariants as attaches
use Rattle.port.specs.Answer.{Done, Refused, Behind}
use Rattle.port.specs.Call.{Call}
use Rattle.port.specs.Cause.{Cause, MemberCause, StoreFault, NoQuorum, NoMemory, IsMemberShown, IsShown}
use Rattle.port.specs.Heard.{Heard, Answered, Lost}
use Rattle.port.specs.Store.{WasPut, WasAttached}
use Rattle.port.specs.Trace.{Event, AtLink, Had}
use Rattle.port.specs.View.{ViewRow}
use Rattle.view_ledger.specs.Views.{ViewChain}
use Rattle.view_ledger.specs.Receipts.{Accepts}
use Rattle.op_parts.specs.RoundLaws.{AreParted}
use Rattle.op_reconf.specs.SettingUp.{Gives}
use Rattle.op_reconf.specs.SetUpSound.{initialize_at, activate_at}
use Rattle.op_reconf.specs.First.{first_config, first_put, first_mark, first_asking, put_event, mark_event}
use Rattle.op_reconf.specs.State.{StageState, AtPut, AtMembers, AtMark, AtEnd, State, answer_of, answer_at}
use Rattle.op_reconf.specs.Sound.{AreAllAsked, HasQuorum, WasStopped, EndedWith, AtStage, Sound}
use Rattle.op_reconf.specs.Says.{IsReasonShown, IsPut, IsSetUp, IsRefused, Says}
use Rattle.op_reconf.specs.OwnCalls.{OwnCalls}
use Rattle.op_reconf.proofs.Asked.{Within, all_more, reason_id, all_done_more, all_parted, all_done, all_shown, was_put, next_own, all_own, begun_own}

-- what the law of members that count says
abbrev pub Enough : Type 0
Enough = (members : List Member) (counted blamed : List ℕ) → IsConfig members → AreParted (ids members) counted blamed
    → quorum members ≤ weight_together members counted → IsQuorum members counted

abbrev pub Few : Type 0
Few = (members : List Member) (counted blamed : List ℕ) → AreParted (ids members) counted blamed
    → weight_together members counted < quorum members → length members < length blamed + quorum members

-- what was heard of a member is shown
member_shown : (events : List Event) (id : ℕ) (call : Call) (heard : Heard) (cause : MemberCause) → Gives heard (Some cause)
    → Had events (AtLink id call heard) → IsMemberShown events id cause
member_shown events id call Lost cause gives had =
    subst (IsMemberShown events id) (sym (ap (λ (o : Option MemberCause). unwrap_or o cause) gives)) (call, had)
member_shown events id call (Answered Done) cause gives had = absurd (cc gives)
member_shown events id call (Answered (Refused (Behind count))) cause gives had =
    subst (IsMemberShown events id) (sym (ap (λ (o : Option MemberCause). unwrap_or o cause) gives)) (Refused (Behind count), (call, had), inr (refl, refl))
member_shown events id call (Answered (Refused denial)) cause gives had =
    subst (IsMemberShown events id) (sym (ap (λ (o : Option MemberCause). unwrap_or o cause) gives)) (call, had)
member_shown events id call (Answered answer) cause gives had =
    subst (IsMemberShown events id) (sym (ap (λ (o : Option MemberCause). unwrap_or o cause) gives)) (answer, (call, had), inr (refl, refl))
member_shown events id call heard cause gives had = absurd gives

module _ (from : ViewChain) where
  shown_by : (events : List Event) (reason : ℕ × MemberCause) (heard : Heard) → Gives heard (Some reason.1)
      → Had events (initialize_at (first_asking from) reason.0 heard) ⊎ Had events (activate_at (first_asking from) reason.0 heard)
      → IsMemberShown events reason.0 reason.1
  shown_by events reason heard gives (inl had) = member_shown events reason.0 (first_asking from).initialize heard reason.1 gives had
  shown_by events reason heard gives (inr had) = member_shown events reason.0 (first_asking from).activate heard reason.1 gives had

  -- each refusal is shown
  pub refusal_shown : (past : List Event) (cause : Cause) → IsRefused from past cause → IsShown past cause
  refusal_shown past StoreFault (inl had) = (first_put (first_config from), WasPut puts.Failed, had, refl)
  refusal_shown past StoreFault (inr had) = (first_mark, WasAttached attaches.Failed, had, refl)
  refusal_shown past (NoQuorum need reasons) is =
      all_more (IsReasonShown (first_asking from) past) (λ (r : ℕ × MemberCause). IsMemberShown past r.0 r.1)
      (λ reason shown. shown_by past reason shown.0 shown.1 shown.2) reasons is.1.shown
  refusal_shown past NoMemory is = tt
  refusal_shown past cause is = absurd is

  put_more : (some all : List Event) → Within some all → IsPut from some → IsPut from all
  put_more some all more is = (is.0, is.1, more _ is.2)

  is_set_up : Enough → IsConfig (first_config from) → (past : List Event) → HasQuorum from past → IsSetUp from past
  is_set_up enough config past has =
      let base : List Event = put_event (first_config from) has.2.0 ∷ [] in (
        has.0,
        enough (first_config from) has.0 (map reason_id has.1) config (all_parted (first_asking from) base has.0 has.1 past has.2.2) has.3,
        all_done (first_asking from) base (length (first_config from)) has.0 has.1 past has.2.2,
      )

  set_up_more : (some all : List Event) → Within some all → IsSetUp from some → IsSetUp from all
  set_up_more some all more is = (is.0, is.1, all_done_more (first_asking from) some all more is.0 is.2)

  newest : (first : Event) (past all : List Event) → all ≡ first ∷ past → Had all first
  newest first past all is = subst (λ (p : List Event). Had p first) (sym is) (inl refl)

  older : (first : Event) (past all : List Event) → all ≡ first ∷ past → Within past all
  older first past all is = subst (Within past) (sym is) (λ event had. inr had)

  -- each answer says what led to it
  pub says : Enough → Few → IsConfig (first_config from) → (past : List Event) (answer : Result ViewRow Cause) → EndedWith from past answer → Says from past answer
  says enough few config past (Ok row) ended =
      let attached : Attached = ended.1.0 in
      let earlier : List Event = ended.1.1 in
      let has : HasQuorum from earlier = ended.1.4 in
      let more : Within earlier past = older (mark_event attached) earlier past ended.1.3 in (
        ended.0,
        put_more earlier past more (was_put from config has.2.0 has.2.1 (length (first_config from)) has.0 has.1 earlier has.2.2),
        set_up_more earlier past more (is_set_up enough config earlier has),
        (attached, ended.1.2, newest (mark_event attached) earlier past ended.1.3),
      )
  says enough few config past (Err StoreFault) (inl is) = inl (newest (put_event (first_config from) puts.Failed) [] past is)
  says enough few config past (Err StoreFault) (inr ended) = inr (newest (mark_event attaches.Failed) ended.0 past ended.1)
  says enough few config past (Err (NoQuorum need reasons)) ended =
      let done : List ℕ = ended.1.0 in
      let asked : AreAllAsked from done reasons past = ended.1.1 in
      let base : List Event = put_event (first_config from) asked.0 ∷ [] in
      let parted : AreParted (ids (first_config from)) done (map reason_id reasons) = all_parted (first_asking from) base done reasons past asked.2 in (
        ended.0,
        record {
          done = done;
          parted = parted;
          less = ended.1.2;
          many = subst (λ (n : ℕ). length (first_config from) < n + quorum (first_config from)) (length-map reasons reason_id)
              (few (first_config from) done (map reason_id reasons) parted ended.1.2);
          are_done = all_done (first_asking from) base (length (first_config from)) done reasons past asked.2;
          shown = all_shown (first_asking from) base (length (first_config from)) done reasons past asked.2;
        },
      )
  says enough few config past (Err NoMemory) ended = tt
  says enough few config past (Err cause) ended = absurd ended

  put_own : (put : Put) → OwnCalls from (put_event (first_config from) put ∷ [])
  put_own put = (inl (refl, refl), tt)

  quorum_own : IsConfig (first_config from) → (past : List Event) → HasQuorum from past → OwnCalls from past
  quorum_own config past has = all_own from config has.2.0 has.2.1 (length (first_config from)) has.0 has.1 past has.2.2

  marked_own : Enough → IsConfig (first_config from) → (attached : Attached) (earlier past : List Event) → past ≡ mark_event attached ∷ earlier
      → HasQuorum from earlier → OwnCalls from past
  marked_own enough config attached earlier past is has =
      subst (OwnCalls from) (sym is) (inr (refl, is_set_up enough config earlier has), quorum_own config earlier has)

  stopped_own : Enough → IsConfig (first_config from) → (past : List Event) → WasStopped from past → OwnCalls from past
  stopped_own enough config past (inl none) = subst (OwnCalls from) (sym none) tt
  stopped_own enough config past (inr (inl was)) = subst (OwnCalls from) (sym was.1) (put_own was.0)
  stopped_own enough config past (inr (inr (inl was))) =
      let cut = was.2 in
      next_own from config was.0 was.1 cut.0 cut.1 cut.2 cut.3 cut.6 (all_own from config was.0 was.1 cut.0 cut.1 cut.2 cut.3 cut.6) cut.4 cut.5 past cut.7 cut.8
  stopped_own enough config past (inr (inr (inr was))) = marked_own enough config attaches.NoMemory was.0 past was.1 was.2

  ended_own : Enough → IsConfig (first_config from) → (past : List Event) (answer : Result ViewRow Cause) → EndedWith from past answer → OwnCalls from past
  ended_own enough config past (Ok row) ended = marked_own enough config ended.1.0 ended.1.1 past ended.1.3 ended.1.4
  ended_own enough config past (Err StoreFault) (inl is) = subst (OwnCalls from) (sym is) (put_own puts.Failed)
  ended_own enough config past (Err StoreFault) (inr ended) = marked_own enough config attaches.Failed ended.0 past ended.1 ended.2
  ended_own enough config past (Err (NoQuorum need reasons)) ended =
      let asked : AreAllAsked from ended.1.0 reasons past = ended.1.1 in
      all_own from config asked.0 asked.1 (length (first_config from)) ended.1.0 reasons past asked.2
  ended_own enough config past (Err NoMemory) ended = stopped_own enough config past ended
  ended_own enough config past (Err cause) ended = absurd ended

  stage_own : Enough → IsConfig (first_config from) → (stage : StageState) (past : List Event) → AtStage from stage past → OwnCalls from past
  stage_own enough config AtPut past at = subst (OwnCalls from) (sym at) tt
  stage_own enough config (AtMembers set_up) past at =
      begun_own from config at.0 at.1 set_up.asked set_up.done set_up.reasons set_up.begun at.2.before past at.2.asked at.2.begun
  stage_own enough config (AtMark row) past at = quorum_own config past at.1
  stage_own enough config (AtEnd answer) past at = ended_own enough config past answer at

  -- no other call is made
  pub calls_own : Enough → (accepts : Accepts) (state : State) (past : List Event) → Sound accepts from state past → OwnCalls from past
  calls_own enough accepts state past sound = stage_own enough sound.config state.stage past sound.at

  -- what is known where an answer stands
  pub answer_says : Enough → Few → (accepts : Accepts) (state : State) (past : List Event) (answer : Result ViewRow Cause) → Sound accepts from state past
      → state.stage ≡ AtEnd answer → Says from past answer
  answer_says enough few accepts state past answer sound is =
      says enough few sound.config past answer (subst (λ (s : StageState). AtStage from s past) is sound.at)

  -- an answer that is given out stands
  stands : (stage : StageState) (answer : Result ViewRow Refusal) → Some (answer_of answer) ≡ answer_at stage → stage ≡ AtEnd (answer_of answer)
  stands (AtEnd other) answer is = ap (λ (a : Option (Result ViewRow Cause)). AtEnd (unwrap_or a other)) (sym is)
  stands stage answer is = absurd (cc is)

  pub if_says : Enough → Few → (accepts : Accepts) (state : State) (past : List Event) (answer : Option (Result ViewRow Refusal)) → Sound accepts from state past
      → option_map answer_of answer ≡ answer_at state.stage → IfSome answer (λ a. Says from past (answer_of a))
  if_says enough few accepts state past (Some answer) sound is =
      answer_says enough few accepts state past (answer_of answer) sound (stands state.stage answer is)
  if_says enough few accepts state past None sound is = tt
