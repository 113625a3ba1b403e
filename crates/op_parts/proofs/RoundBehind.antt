-- A member is said to be behind only at a height that it had told.
use Rattle.std.proofs.Common.{◌≡◌, inl, inr, ℕ, zero, suc, ◌<◌, ◌==◌, Bool, true, if◌then◌else◌, List, [], ◌∷◌, ◌++◌, Some, refl, sym, ◌∙◌, subst, ap, rules}
use Rattle.std.specs.List.{AllByRecursion}
use Rattle.std.proofs.lemmas.List.{append_assoc}
use Rattle.statement.specs.declared.member.Member.{Member}
use Rattle.statement.specs.Mark.{Content as Mark}
use Rattle.port.specs.Answer.{Answer, Denial, Signed, Refused, Stands, Behind}
use Rattle.port.specs.Call.{Call, Append}
use Rattle.port.specs.Cause.{MemberCause, Denied, member_cause_of}
use Rattle.port.specs.Heard.{Heard, Answered}
use Rattle.port.specs.Trace.{Event, AtLink}
use Rattle.catch_up.specs.declared.progress.Progress.{Progress}
use Rattle.catch_up.specs.declared.progress.Progress.TheVariants.{Reached, Ahead, Member as Reasoned}
use Rattle.catch_up.specs.Told.{told, newer, count_in}
use Rattle.catch_up.specs.Answers.{ComesTo, IsReason, IsRefusal}
use Rattle.catch_up.specs.OwnCalls.{IsOwnCall}
use Rattle.view_ledger.specs.Receipts.{Accepts}
use Rattle.op_parts.specs.RoundAsking.{Asking, claim, append_to, target_of}
use Rattle.op_parts.specs.RoundOutcome.{Outcome, Blamed, IsOutcome, IsInPlace}
use Rattle.op_parts.specs.RoundTurn.{WasBehind, EndedSo, IsBlame, IsSettled, Ends}
use Rattle.op_parts.specs.RoundState.{State}
use Rattle.op_parts.specs.RoundSound.{AreAsked, Sound}
use Rattle.op_parts.specs.RoundLaws.{IsToldBehind}
use Rattle.op_parts.proofs.RoundLeads.{ToldOn}
use Rattle.op_parts.proofs.RoundShown.{all_more, all_and, cause_in}

same : (n : ℕ) → (n == n) ≡ true
same n = search rules

-- more calls after and before don't matter
more_after : (calls before : List Event) (id : ℕ) (cause : MemberCause) → IsToldBehind before id cause → IsToldBehind (calls ++ before) id cause
more_after calls before id (Denied (Behind count)) told_so = (
  calls ++ told_so.0,
  told_so.1,
  told_so.2,
  told_so.3,
  told_so.4,
  told_so.5,
  ap (λ (b : List Event). calls ++ b) told_so.6 ∙ sym (append_assoc calls told_so.0 _),
  told_so.7,
  told_so.8,
)
more_after calls before id cause told_so = tt

more_before : ToldOn → (calls before : List Event) (id : ℕ) (cause : MemberCause) → IsToldBehind calls id cause → IsToldBehind (calls ++ before) id cause
more_before told_on calls before id (Denied (Behind count)) told_so = (
  told_so.0,
  told_so.1 ++ before,
  told_so.2,
  told_so.3,
  told_so.4,
  told_so.5,
  ap (λ (c : List Event). c ++ before) told_so.6 ∙ append_assoc told_so.0 _ before,
  told_so.7,
  λ first. told_on id first told_so.1 before ∙ told_so.8 (told id first before),
)
more_before told_on calls before id cause told_so = tt

-- the count that a member told when it was behind, and what it told since
told_since : ToldOn → (ask : Asking) (id from : ℕ) (inner calls : List Event) → WasBehind ask id from inner calls → (before : ℕ) → told id before calls ≡ told id from inner
told_since told_on ask id from inner calls was before =
    ap (λ (c : List Event). told id before c) was.split
    ∙ told_on id before inner (append_to ask id (Answered (Refused (Behind from))) ∷ [])
    ∙ ap (λ (n : ℕ). told id n inner) (ap (λ (b : Bool). if b then from else before) (same id))

comes : (height : ℕ) (answer : Answer) (count : ℕ) → ComesTo height answer count → count_in answer ≡ Some count
comes height (Signed statement sig) count is = is.1
comes height (Refused (Stands standing tail)) count is = ap (λ (n : ℕ). Some n) (sym is.0)
comes height answer count is = absurd is

-- a catch-up that has reached its count ends with this told
told_reached : (ask : Asking) (id from : ℕ) (inner : List Event) → EndedSo ask id from inner Reached → told id from inner ≡ ask.block.height
told_reached ask id from [] so = absurd so
told_reached ask id from (event ∷ past) so =
    ap (λ (e : Event). told id from (e ∷ past)) so.1.1
    ∙ ap (λ (b : Bool). if b then newer (count_in so.0) (told id from past) else told id from past) (same id)
    ∙ ap (λ o. newer o (told id from past)) (comes (told id from past) so.0 ask.block.height so.2)

module _ (told_on : ToldOn) (accepts : Accepts) (ask : Asking) where
  again : (id from : ℕ) (key : List ℕ) (inner caught : List Event) (heard : Heard) (cause : MemberCause) → WasBehind ask id from inner caught
      → EndedSo ask id from inner Reached → IsOutcome accepts (claim ask) key heard (Blamed cause) → IsToldBehind (append_to ask id heard ∷ caught) id cause
  again id from key inner caught (Answered (Refused denial)) (Denied (Behind count)) was so is = (
    [],
    caught,
    ask.handle,
    ask.block.prev,
    ask.block.entry,
    ask.block.height,
    ap (λ (d : Denial). append_to ask id (Answered (Refused d)) ∷ caught) (sym is.0),
    subst (λ (d : Denial). IsInPlace ask.block.height d) (sym is.0) is.1,
    λ before. told_since told_on ask id from inner caught was before ∙ told_reached ask id from inner so,
  )
  again id from key inner caught heard (Denied (Behind count)) was so is = absurd is
  again id from key inner caught heard cause was so is = tt

  -- an append of a catch-up
  own_behind : (id from : ℕ) (past : List Event) (call : Call) (heard : Heard) (cause : MemberCause)
      → WasBehind ask id from past (past ++ append_to ask id (Answered (Refused (Behind from))) ∷ []) → IsOwnCall (target_of ask id) from past (AtLink id call heard)
      → IsReason (told id from past) heard cause → IsToldBehind (AtLink id call heard ∷ (past ++ append_to ask id (Answered (Refused (Behind from))) ∷ [])) id cause
  own_behind id from past (Append handle prev entry height) (Answered (Refused denial)) (Denied (Behind count)) was own is = (
    [],
    past ++ append_to ask id (Answered (Refused (Behind from))) ∷ [],
    handle,
    prev,
    entry,
    height,
    ap (λ (d : Denial). AtLink id (Append handle prev entry height) (Answered (Refused d)) ∷ (past ++ append_to ask id (Answered (Refused (Behind from))) ∷ [])) (sym is.0),
    subst (λ (n : ℕ). count < n) (sym own.2) (subst (λ (d : Denial). IsRefusal (told id from past) d) (sym is.0) is.1),
    λ before. told_since told_on ask id from past _ was before ∙ sym own.2,
  )
  own_behind id from past (Append handle prev entry height) heard (Denied (Behind count)) was own is = absurd is
  own_behind id from past call heard (Denied (Behind count)) was own is = absurd own
  own_behind id from past call heard cause was own is = tt

  caught_behind : (id from : ℕ) (inner : List Event) (progress : Progress) (cause : MemberCause)
      → WasBehind ask id from inner (inner ++ append_to ask id (Answered (Refused (Behind from))) ∷ []) → EndedSo ask id from inner progress
      → IsBlame progress (Blamed cause) → IsToldBehind (inner ++ append_to ask id (Answered (Refused (Behind from))) ∷ []) id cause
  caught_behind id from [] progress cause was so is = absurd so
  caught_behind id from (event ∷ past) (Ahead count tail) cause was so is =
      subst (IsToldBehind _ id) (sym (ap (λ (o : Outcome). cause_in o cause) is)) tt
  caught_behind id from (event ∷ past) (Reasoned reason) cause was so is =
      subst (IsToldBehind _ id) (sym (ap (λ (o : Outcome). cause_in o cause) is))
      (subst (λ (e : Event). IsToldBehind (e ∷ (past ++ append_to ask id (Answered (Refused (Behind from))) ∷ [])) id (member_cause_of reason)) (sym so.2)
      (own_behind id from past so.0 so.1 (member_cause_of reason) (record { below = was.below; split = refl; own = was.own.1 })
      (subst (λ (e : Event). IsOwnCall (target_of ask id) from past e) so.2 was.own.0) so.3))
  caught_behind id from (event ∷ past) progress cause was so is = absurd is

  settled : (calls : List Event) (id : ℕ) (cause : MemberCause) → IsSettled (Blamed cause) → IsToldBehind calls id cause
  settled calls id (Denied (Behind count)) is = absurd is
  settled calls id cause is = tt

  blamed : (member : Member) (calls : List Event) (cause : MemberCause) → Ends accepts ask member calls (Blamed cause) → IsToldBehind calls member.id cause
  blamed member calls cause (inl e) = settled calls member.id cause e.3
  blamed member calls cause (inr (inl e)) =
      subst (λ (c : List Event). IsToldBehind c member.id cause) (sym e.3.split)
      (caught_behind member.id e.0 e.1 e.2 cause (record { below = e.3.below; split = refl; own = e.3.own }) e.4 e.5)
  blamed member calls cause (inr (inr e)) =
      subst (λ (c : List Event). IsToldBehind c member.id cause) (sym e.4) (again member.id e.0 member.key e.1 e.2 e.3 cause e.5 e.6 e.7)

  abbrev AllTold : List Event → List (ℕ × MemberCause) → Type 0
  AllTold events reasons = AllByRecursion (λ (r : ℕ × MemberCause). IsToldBehind events r.0 r.1) reasons

  older_told : (calls before : List Event) (reasons : List (ℕ × MemberCause)) → AllTold before reasons → AllTold (calls ++ before) reasons
  older_told calls before reasons all =
      all_more (λ (r : ℕ × MemberCause). IsToldBehind before r.0 r.1) (λ (r : ℕ × MemberCause). IsToldBehind (calls ++ before) r.0 r.1)
      (λ r one. more_after calls before r.0 r.1 one) reasons all

  asked_told : (n : ℕ) (marks : List Mark) (reasons : List (ℕ × MemberCause)) (past : List Event) → AreAsked accepts ask n marks reasons past → AllTold past reasons
  asked_told zero marks reasons past asked = subst (AllTold past) (sym asked.1) tt
  asked_told (suc n) marks reasons past (member, calls, before, is, split, inl side) =
      subst (λ (p : List Event). AllTold p reasons) (sym split) (older_told calls before reasons (asked_told n side.1 reasons before side.4))
  asked_told (suc n) marks reasons past (member, calls, before, is, split, inr side) =
      subst (λ (p : List Event). AllTold p reasons) (sym split)
      (subst (AllTold (calls ++ before)) (sym side.2)
      (all_and (λ (r : ℕ × MemberCause). IsToldBehind (calls ++ before) r.0 r.1) side.1 (member.id, side.0)
      (older_told calls before side.1 (asked_told n marks side.1 before side.4))
      (more_before told_on calls before member.id side.0 (blamed member calls side.0 side.3))))

  pub all_told : (state : State) (past : List Event) → Sound accepts ask state past → AllTold past state.reasons
  all_told state past sound =
      subst (λ (p : List Event). AllTold p state.reasons) (sym sound.split)
      (older_told sound.calls sound.before state.reasons (asked_told state.asked state.marks state.reasons sound.before sound.asked))
