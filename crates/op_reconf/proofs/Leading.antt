-- What one more call makes of the setting up of view 0.
use Rattle.std.proofs.Common.{◌≡◌, inl, inr, ℕ, suc, ◌==◌, ◌<◌, ◌≤◌, nat_le, Bool, true, false, if◌then◌else◌, List, [], ◌∷◌, ◌++◌, length, Option, Some, None, refl, sym, subst, ap, ◌∙◌, add-one, arith}
use Rattle.std.specs.Prelude.{Result, Err, unwrap_or}
use Rattle.std.proofs.lemmas.Bool.{eqb-true, eqb-false, leb-true, leb-false}
use Rattle.std.proofs.lemmas.Option.{slice_get_within}
use Rattle.statement.specs.declared.member.Member.{Member}
use Rattle.statement.specs.Config.{quorum, weight_together, IsConfig}
use Rattle.port.specs.declared.store_answers.Put.{Put}
use Rattle.port.specs.declared.store_answers.Put.TheVariants as puts
use Rattle.port.specs.declared.store_answers.Attached.{Attached}
use Rattle.port.specs.declared.store_answers.Attached.TheVariants as attaches
use Rattle.port.specs.Answer.{Done, Refused, Behind}
use Rattle.port.specs.Call.{Call}
use Rattle.port.specs.Cause.{Cause, MemberCause, NoQuorum}
use Rattle.port.specs.Heard.{Heard, Answered, Lost}
use Rattle.port.specs.Store.{StoreCall, WasPut, WasAttached}
use Rattle.port.specs.Trace.{Event, AtStore, AtLink}
use Rattle.port.specs.View.{ViewRow}
use Rattle.view_ledger.specs.Views.{ViewChain}
use Rattle.view_ledger.specs.Receipts.{Accepts}
use Rattle.op_reconf.specs.SettingUp.{Asking, SettingUp, IsMember, Gives, next_call, taken}
use Rattle.op_reconf.specs.SetUpSound.{initialize_at, activate_at, WasAsked, AreAsked, HasBegun}
use Rattle.op_reconf.specs.First.{first_config, first_row, first_asking, put_event, mark_event, IsPlaced}
use Rattle.op_reconf.specs.State.{StageState, AtPut, AtMembers, AtMark, AtEnd, IsReady, is_live_at, calls_at}
use Rattle.op_reconf.specs.Steps.{TakesPut, judged, after_turn, TakesHeard, TakesMark, Takes}
use Rattle.op_reconf.specs.Sound.{AreAllAsked, HasQuorum, AtStage, Sound, MakesOne}

-- a member without a reason was heard to be done
heard_done : (heard : Heard) → Gives heard None → heard ≡ Answered Done
heard_done (Answered Done) gives = refl
heard_done (Answered (Refused (Behind count))) gives = absurd (cc gives)
heard_done (Answered (Refused denial)) gives = absurd (cc gives)
heard_done (Answered answer) gives = absurd (cc gives)
heard_done Lost gives = absurd (cc gives)
heard_done heard gives = absurd gives

module _ (from : ViewChain) where
  abbrev ask : Asking
  ask = first_asking from

  abbrev members : List Member
  members = first_config from

  abbrev base : Put → List Event
  base put = put_event members put ∷ []

  abbrev set_up_at : ℕ → Bool → List ℕ → List (ℕ × MemberCause) → SettingUp
  set_up_at asked begun done reasons = record { ask = ask; asked = asked; begun = begun; done = done; reasons = reasons }

  put_goes : (put : Put) (new : StageState) (past : List Event) → past ≡ put_event members put ∷ [] → TakesPut from put new → AtStage from new past
  put_goes puts.Done new past is (inl begins) =
      subst (λ (s : StageState). AtStage from s past) (sym begins) (puts.Done, tt, record { asks = refl; before = base puts.Done; asked = (refl, refl, refl); begun = is })
  put_goes puts.Done new past is (inr wants) = subst (λ (s : StageState). AtStage from s past) (sym wants) (inr (inl (puts.Done, is)))
  put_goes puts.Taken new past is (inl begins) =
      subst (λ (s : StageState). AtStage from s past) (sym begins) (puts.Taken, tt, record { asks = refl; before = base puts.Taken; asked = (refl, refl, refl); begun = is })
  put_goes puts.Taken new past is (inr wants) = subst (λ (s : StageState). AtStage from s past) (sym wants) (inr (inl (puts.Taken, is)))
  put_goes puts.Failed new past is takes = subst (λ (s : StageState). AtStage from s past) (sym takes) (inl is)
  put_goes puts.NoMemory new past is takes = subst (λ (s : StageState). AtStage from s past) (sym takes) (inr (inl (puts.NoMemory, is)))

  mark_goes : (row : ViewRow) (attached : Attached) (new : StageState) (earlier past : List Event) → past ≡ mark_event attached ∷ earlier
      → row ≡ first_row members → HasQuorum from earlier → TakesMark row attached new → AtStage from new past
  mark_goes row attaches.Done new earlier past is own has takes =
      subst (λ (s : StageState). AtStage from s past) (sym takes) (own, (attaches.Done, earlier, tt, is, has))
  mark_goes row attaches.Absent new earlier past is own has takes =
      subst (λ (s : StageState). AtStage from s past) (sym takes) (own, (attaches.Absent, earlier, tt, is, has))
  mark_goes row attaches.Failed new earlier past is own has takes = subst (λ (s : StageState). AtStage from s past) (sym takes) (inr (earlier, is, has))
  mark_goes row attaches.NoMemory new earlier past is own has takes = subst (λ (s : StageState). AtStage from s past) (sym takes) (inr (inr (inr (earlier, is, has))))

  -- once all were asked, it is judged
  judged_at : (begun : Bool) (done : List ℕ) (reasons : List (ℕ × MemberCause)) (past : List Event) → AreAllAsked from done reasons past
      → AtStage from (judged (set_up_at (length members) begun done reasons)) past
  judged_at begun done reasons past are = by (nat_le (quorum members) (weight_together members done)) refl
    where
      by : (enough : Bool) → nat_le (quorum members) (weight_together members done) ≡ enough
          → AtStage from (if enough then AtMark (first_row members) else AtEnd (Err (NoQuorum (quorum members) reasons))) past
      by true is = (refl, (done, reasons, are, leb-true (quorum members) (weight_together members done) is))
      by false is = (refl, (done, are, leb-false (quorum members) (weight_together members done) is))

  turn_ends : (put : Put) → IsPlaced put → (asked : ℕ) (done : List ℕ) (reasons : List (ℕ × MemberCause)) (past : List Event)
      → AreAsked ask (base put) asked done reasons past → AtStage from (after_turn (set_up_at asked false done reasons)) past
  turn_ends put placed asked done reasons past are = by (asked == length members) refl
    where
      by : (last : Bool) → (asked == length members) ≡ last
          → AtStage from (if last then judged (set_up_at asked false done reasons) else AtMembers (set_up_at asked false done reasons)) past
      by true is =
          let all : asked ≡ length members = eqb-true asked (length members) is in
          subst (λ (n : ℕ). AtStage from (judged (set_up_at n false done reasons)) past) (sym all)
          (judged_at false done reasons past (put, placed, subst (λ (n : ℕ). AreAsked ask (base put) n done reasons past) all are))
      by false is = (put, placed, record { asks = refl; before = past; asked = are; begun = refl })

  -- the next member is done with the first call
  turn_goes_on : (put : Put) → IsPlaced put → (asked : ℕ) (member : Member) (done : List ℕ) (reasons : List (ℕ × MemberCause)) (before past : List Event)
      → IsMember ask asked member → AreAsked ask (base put) asked done reasons before → past ≡ initialize_at ask member.id (Answered Done) ∷ before
      → AtStage from (after_turn (set_up_at asked true done reasons)) past
  turn_goes_on put placed asked member done reasons before past is are was = by (asked == length members) refl
    where
      by : (last : Bool) → (asked == length members) ≡ last
          → AtStage from (if last then judged (set_up_at asked true done reasons) else AtMembers (set_up_at asked true done reasons)) past
      by true last = absurd (omega (arith, slice_get_within members asked member is, eqb-true asked (length members) last))
      by false last = (put, placed, record { asks = refl; before = before; asked = are; begun = (member, is, was) })

  module _ (put : Put) (placed : IsPlaced put) (asked : ℕ) (done : List ℕ) (reasons : List (ℕ × MemberCause)) (before : List Event)
      (are : AreAsked ask (base put) asked done reasons before) (member : Member) (is : IsMember ask asked member) (heard : Heard) where
    same_member : (other : Member) → IsMember ask asked other → other ≡ member
    same_member other there = ap (λ (o : Option Member). unwrap_or o member) (sym there ∙ is)

    second : (past : List Event) → HasBegun ask asked true before past
        → activate_at ask member.id heard ∷ past ≡ activate_at ask member.id heard ∷ initialize_at ask member.id (Answered Done) ∷ before
    second past has =
        ap (λ (p : List Event). activate_at ask member.id heard ∷ p)
        (has.2 ∙ ap (λ (m : Member). initialize_at ask m.id (Answered Done) ∷ before) (same_member has.0 has.1))

    was_asked : (begun : Bool) (past : List Event) → HasBegun ask asked begun before past
        → WasAsked ask member.id heard before (AtLink member.id (next_call (set_up_at asked begun done reasons)) heard ∷ past)
    was_asked false past has = inl (ap (λ (p : List Event). initialize_at ask member.id heard ∷ p) has)
    was_asked true past has = inr (second past has)

    -- what was heard makes this of the members
    heard_goes : (begun : Bool) (past : List Event) → HasBegun ask asked begun before past → (reason : Option MemberCause) → Gives heard reason
        → AtStage from (after_turn (taken member.id reason (set_up_at asked begun done reasons))) (AtLink member.id (next_call (set_up_at asked begun done reasons)) heard ∷ past)
    heard_goes begun past has (Some cause) gives =
        let all : List Event = AtLink member.id (next_call (set_up_at asked begun done reasons)) heard ∷ past in
        let more : List (ℕ × MemberCause) = reasons ++ (member.id, cause) ∷ [] in
        subst (λ (n : ℕ). AtStage from (after_turn (set_up_at n false done more)) all) (sym (add-one asked))
        (turn_ends put placed (suc asked) done more all
        (member, before, is, inr (cause, reasons, refl, (heard, gives, was_asked begun past has), are)))
    heard_goes true past has None gives =
        let all : List Event = activate_at ask member.id heard ∷ past in
        let more : List ℕ = done ++ member.id ∷ [] in
        subst (λ (n : ℕ). AtStage from (after_turn (set_up_at n false more reasons)) all) (sym (add-one asked))
        (turn_ends put placed (suc asked) more reasons all
        (member, before, is, inl (done, refl, second past has ∙ ap (λ (h : Heard). activate_at ask member.id h ∷ initialize_at ask member.id (Answered Done) ∷ before) (heard_done heard gives), are)))
    heard_goes false past has None gives =
        turn_goes_on put placed asked member done reasons before (initialize_at ask member.id heard ∷ past) is are
        (ap (λ (h : Heard). initialize_at ask member.id h ∷ past) (heard_done heard gives) ∙ ap (λ (p : List Event). initialize_at ask member.id (Answered Done) ∷ p) has)

  -- a call to a member
  member_goes : (set_up : SettingUp) (id : ℕ) (call : Call) (heard : Heard) (new : StageState) (past : List Event) (member : Member)
      → IsMember set_up.ask set_up.asked member → id ≡ member.id → call ≡ next_call set_up → TakesHeard set_up id heard new
      → AtStage from (AtMembers set_up) past → AtStage from new (AtLink id call heard ∷ past)
  member_goes set_up id call heard new past member is same asks takes at =
      let put : Put = at.0 in
      let sound = at.2 in
      let there : IsMember ask set_up.asked member = subst (λ (a : Asking). IsMember a set_up.asked member) sound.asks is in
      let now : SettingUp = set_up_at set_up.asked set_up.begun set_up.done set_up.reasons in
      let own : set_up ≡ now = ap (λ (a : Asking). record { ask = a; asked = set_up.asked; begun = set_up.begun; done = set_up.done; reasons = set_up.reasons }) sound.asks in
      let first : AtLink member.id (next_call now) heard ≡ AtLink id call heard =
      ap (λ (i : ℕ). AtLink i (next_call now) heard) (sym same) ∙ ap (λ (c : Call). AtLink id c heard) (sym (asks ∙ ap next_call own)) in
      subst (λ (e : Event). AtStage from new (e ∷ past)) first
      (by now member there put at.1 sound.before sound.asked sound.begun
      (subst (λ (i : ℕ). TakesHeard now i heard new) same (subst (λ (s : SettingUp). TakesHeard s id heard new) own takes)))
    where
      by : (now : SettingUp) (member : Member) (there : IsMember ask set_up.asked member) (put : Put) → IsPlaced put → (before : List Event)
          → AreAsked ask (base put) set_up.asked set_up.done set_up.reasons before → HasBegun ask set_up.asked set_up.begun before past
          → TakesHeard (set_up_at set_up.asked set_up.begun set_up.done set_up.reasons) member.id heard new
          → AtStage from new (AtLink member.id (next_call (set_up_at set_up.asked set_up.begun set_up.done set_up.reasons)) heard ∷ past)
      by now member there put placed before are has (inl given) =
          subst (λ (s : StageState). AtStage from s (AtLink member.id (next_call (set_up_at set_up.asked set_up.begun set_up.done set_up.reasons)) heard ∷ past)) (sym given.2)
          (heard_goes put placed set_up.asked set_up.done set_up.reasons before are member there heard set_up.begun past has given.0 given.1)
      by now member there put placed before are has (inr wants) =
          subst (λ (s : StageState). AtStage from s (AtLink member.id (next_call (set_up_at set_up.asked set_up.begun set_up.done set_up.reasons)) heard ∷ past)) (sym wants)
          (inr (inr (inl (
            put,
            placed,
            (
              set_up.asked,
              set_up.done,
              set_up.reasons,
              before,
              member,
              heard,
              are,
              there,
              was_asked put placed set_up.asked set_up.done set_up.reasons before are member there heard set_up.begun past has,
            ),
          ))))

  goes : (old new : StageState) (events past : List Event) → Takes from old events new → AtStage from old past → AtStage from new (events ++ past)
  goes AtPut new [] past takes at = subst (λ (s : StageState). AtStage from s past) (sym takes) (inl at)
  goes AtPut new (AtStore call (WasPut put) ∷ []) past takes at =
      put_goes put new (AtStore call (WasPut put) ∷ past)
      (ap (λ (c : StoreCall). AtStore c (WasPut put) ∷ past) takes.0 ∙ ap (λ (p : List Event). put_event members put ∷ p) at) takes.1
  goes (AtMembers set_up) new (AtLink id call heard ∷ []) past takes at =
      member_goes set_up id call heard new past takes.0 takes.1 takes.2 takes.3 takes.4 at
  goes (AtMark row) new (AtStore call (WasAttached attached) ∷ []) past takes at =
      mark_goes row attached new past (AtStore call (WasAttached attached) ∷ past)
      (ap (λ (c : StoreCall). AtStore c (WasAttached attached) ∷ past) takes.0) at.0 at.1 takes.1
  goes (AtEnd answer) new [] past takes at = subst (λ (s : StageState). AtStage from s past) (sym takes) at
  goes old new events past takes at = absurd takes

-- by the calls of a step it comes to its next state
pub leads : (accepts : Accepts) (chain : ViewChain) (old new : StageState) (events : List Event) → Takes chain old events new
    → (from : ViewChain) (past : List Event) → Sound accepts from (record { chain = chain; stage = old }) past
    → Sound accepts from (record { chain = chain; stage = new }) (events ++ past)
leads accepts chain old new events takes from past sound = record {
  chain = sound.chain;
  config = sound.config;
  at = goes from old new events past (subst (λ (f : ViewChain). Takes f old events new) sound.chain takes) sound.at;
}

pub makes_one : (chain : ViewChain) (old new : StageState) (events : List Event) → is_live_at old ≡ true → Takes chain old events new
    → MakesOne (record { chain = chain; stage = old }) events (record { chain = chain; stage = new })
makes_one chain AtPut new [] live takes = (refl, takes)
makes_one chain (AtEnd answer) new [] live takes = absurd (cc live)
makes_one chain AtPut new (AtStore call (WasPut put) ∷ []) live takes = tt
makes_one chain (AtMembers set_up) new (AtLink id call heard ∷ []) live takes = tt
makes_one chain (AtMark row) new (AtStore call (WasAttached attached) ∷ []) live takes = tt
makes_one chain old new events live takes = absurd takes

-- no call is made after the end
pub ended : (chain : ViewChain) (old new : StageState) (events : List Event) → is_live_at old ≡ false → Takes chain old events new → (events ≡ []) × (new ≡ old)
ended chain (AtEnd answer) new [] live takes = (refl, takes)
ended chain (AtEnd answer) new events live takes = absurd takes
ended chain old new events live takes = absurd (cc live)

-- what the next stage is, where members are set up
turn_by : (P : StageState → Type 0) (set_up : SettingUp) → P (judged set_up)
    → ((set_up.asked == length set_up.ask.members) ≡ false → P (AtMembers set_up)) → P (after_turn set_up)
turn_by P set_up at_end at_members = by (set_up.asked == length set_up.ask.members) refl
  where
    by : (last : Bool) → (set_up.asked == length set_up.ask.members) ≡ last → P (if last then judged set_up else AtMembers set_up)
    by true is = at_end
    by false is = at_members is

judged_by : (P : StageState → Type 0) (set_up : SettingUp) → ((row : ViewRow) → P (AtMark row)) → ((answer : Result ViewRow Cause) → P (AtEnd answer)) → P (judged set_up)
judged_by P set_up at_mark at_end = by (nat_le (quorum set_up.ask.members) (weight_together set_up.ask.members set_up.done))
  where
    by : (enough : Bool) → P (if enough then AtMark (first_row set_up.ask.members) else AtEnd (Err (NoQuorum (quorum set_up.ask.members) set_up.reasons)))
    by true = at_mark (first_row set_up.ask.members)
    by false = at_end (Err (NoQuorum (quorum set_up.ask.members) set_up.reasons))

ready_turn : (set_up : SettingUp) → set_up.asked ≤ length set_up.ask.members → IsReady (after_turn set_up)
ready_turn set_up most =
    turn_by IsReady set_up (judged_by IsReady set_up (λ row. tt) (λ answer. tt))
    (λ other. omega (arith, most, eqb-false set_up.asked (length set_up.ask.members) other))

calls_turn : (chain : ViewChain) (set_up : SettingUp) (bound : ℕ) → 1 < bound → calls_at chain (AtMembers set_up) < bound → calls_at chain (after_turn set_up) < bound
calls_turn chain set_up bound some less =
    turn_by (λ (s : StageState). calls_at chain s < bound) set_up
    (judged_by (λ (s : StageState). calls_at chain s < bound) set_up (λ row. some) (λ answer. omega (arith, some)))
    (λ other. less)

module _ (chain : ViewChain) (ask : Asking) (asked : ℕ) (done : List ℕ) (reasons : List (ℕ × MemberCause)) (id : ℕ) (less : asked < length ask.members) where
  abbrev at_turn : Bool → SettingUp
  at_turn begun = record { ask = ask; asked = asked; begun = begun; done = done; reasons = reasons }

  ready_after : (begun : Bool) (reason : Option MemberCause) → IsReady (after_turn (taken id reason (at_turn begun)))
  ready_after begun (Some cause) = ready_turn (taken id (Some cause) (at_turn begun)) (omega (arith, less))
  ready_after true None = ready_turn (taken id None (at_turn true)) (omega (arith, less))
  ready_after false None = ready_turn (taken id None (at_turn false)) (omega (arith, less))

  calls_after : (begun : Bool) (reason : Option MemberCause) → calls_at chain (after_turn (taken id reason (at_turn begun))) < calls_at chain (AtMembers (at_turn begun))
  calls_after begun (Some cause) =
      calls_turn chain (taken id (Some cause) (at_turn begun)) (calls_at chain (AtMembers (at_turn begun))) (omega (arith, less)) (omega (arith, less))
  calls_after true None = calls_turn chain (taken id None (at_turn true)) (calls_at chain (AtMembers (at_turn true))) (omega (arith, less)) (omega (arith, less))
  calls_after false None = calls_turn chain (taken id None (at_turn false)) (calls_at chain (AtMembers (at_turn false))) (omega (arith, less)) (omega (arith, less))

  calls_some : (begun : Bool) → 0 < calls_at chain (AtMembers (at_turn begun))
  calls_some begun = omega (arith, less)

ready_members : (set_up : SettingUp) (id : ℕ) (heard : Heard) (new : StageState) → set_up.asked < length set_up.ask.members → TakesHeard set_up id heard new → IsReady new
ready_members set_up id heard new less (inl given) =
    subst IsReady (sym given.2) (ready_after (record { roster = []; configs = [] }) set_up.ask set_up.asked set_up.done set_up.reasons id less set_up.begun given.0)
ready_members set_up id heard new less (inr wants) = subst IsReady (sym wants) tt

ready_put : (chain : ViewChain) (put : Put) (new : StageState) → 0 < length (first_config chain) → TakesPut chain put new → IsReady new
ready_put chain puts.Failed new some takes = subst IsReady (sym takes) tt
ready_put chain puts.NoMemory new some takes = subst IsReady (sym takes) tt
ready_put chain put new some (inl begins) = subst IsReady (sym begins) some
ready_put chain put new some (inr wants) = subst IsReady (sym wants) tt

ready_mark : (row : ViewRow) (attached : Attached) (new : StageState) → TakesMark row attached new → IsReady new
ready_mark row attaches.Failed new takes = subst IsReady (sym takes) tt
ready_mark row attaches.NoMemory new takes = subst IsReady (sym takes) tt
ready_mark row attached new takes = subst IsReady (sym takes) tt

-- the next stage has a member to ask where it asks members
pub ready : (chain : ViewChain) (old new : StageState) (events : List Event) → IsConfig (first_config chain) → IsReady old → Takes chain old events new → IsReady new
ready chain AtPut new [] config was takes = subst IsReady (sym takes) tt
ready chain AtPut new (AtStore call (WasPut put) ∷ []) config was takes = ready_put chain put new (omega (arith, config.some)) takes.1
ready chain (AtMembers set_up) new (AtLink id call heard ∷ []) config was takes = ready_members set_up id heard new was takes.4
ready chain (AtMark row) new (AtStore call (WasAttached attached) ∷ []) config was takes = ready_mark row attached new takes.1
ready chain (AtEnd answer) new [] config was takes = subst IsReady (sym takes) tt
ready chain old new events config was takes = absurd takes

fewer_put : (chain : ViewChain) (put : Put) (new : StageState) → TakesPut chain put new → calls_at chain new < calls_at chain AtPut
fewer_put chain puts.Failed new takes = subst (λ (s : StageState). calls_at chain s < calls_at chain AtPut) (sym takes) (omega arith)
fewer_put chain puts.NoMemory new takes = subst (λ (s : StageState). calls_at chain s < calls_at chain AtPut) (sym takes) (omega arith)
fewer_put chain put new (inl begins) = subst (λ (s : StageState). calls_at chain s < calls_at chain AtPut) (sym begins) (omega arith)
fewer_put chain put new (inr wants) = subst (λ (s : StageState). calls_at chain s < calls_at chain AtPut) (sym wants) (omega arith)

fewer_members : (chain : ViewChain) (set_up : SettingUp) (id : ℕ) (heard : Heard) (new : StageState) → set_up.asked < length set_up.ask.members
    → TakesHeard set_up id heard new → calls_at chain new < calls_at chain (AtMembers set_up)
fewer_members chain set_up id heard new less (inl given) =
    subst (λ (s : StageState). calls_at chain s < calls_at chain (AtMembers set_up)) (sym given.2)
    (calls_after chain set_up.ask set_up.asked set_up.done set_up.reasons id less set_up.begun given.0)
fewer_members chain set_up id heard new less (inr wants) =
    subst (λ (s : StageState). calls_at chain s < calls_at chain (AtMembers set_up)) (sym wants)
    (calls_some chain set_up.ask set_up.asked set_up.done set_up.reasons id less set_up.begun)

fewer_mark : (chain : ViewChain) (row : ViewRow) (attached : Attached) (new : StageState) → TakesMark row attached new → calls_at chain new < calls_at chain (AtMark row)
fewer_mark chain row attaches.Failed new takes = subst (λ (s : StageState). calls_at chain s < 1) (sym takes) (omega arith)
fewer_mark chain row attaches.NoMemory new takes = subst (λ (s : StageState). calls_at chain s < 1) (sym takes) (omega arith)
fewer_mark chain row attached new takes = subst (λ (s : StageState). calls_at chain s < 1) (sym takes) (omega arith)

-- fewer calls are left
pub fewer : (chain : ViewChain) (old new : StageState) (events : List Event) → is_live_at old ≡ true → IsReady old → Takes chain old events new → calls_at chain new < calls_at chain old
fewer chain AtPut new [] live was takes = subst (λ (s : StageState). calls_at chain s < calls_at chain AtPut) (sym takes) (omega arith)
fewer chain AtPut new (AtStore call (WasPut put) ∷ []) live was takes = fewer_put chain put new takes.1
fewer chain (AtMembers set_up) new (AtLink id call heard ∷ []) live was takes = fewer_members chain set_up id heard new was takes.4
fewer chain (AtMark row) new (AtStore call (WasAttached attached) ∷ []) live was takes = fewer_mark chain row attached new takes.1
fewer chain (AtEnd answer) new [] live was takes = absurd (cc live)
fewer chain old new events live was takes = absurd takes
