-- A member is said to be behind only at a count that it had told.
use Rattle.std.proofs.Common.{◌≡◌, inl, inr, ℕ, List, [], ◌∷◌, ◌++◌, sym, ◌∙◌, subst, ap}
use Rattle.std.specs.List.{AllByRecursion}
use Rattle.std.proofs.lemmas.List.{append_assoc}
use Rattle.port.specs.declared.store_answers.Got.TheVariants as gots
use Rattle.port.specs.Answer.{Behind}
use Rattle.port.specs.Cause.{MemberCause, Denied, NoQuorum}
use Rattle.port.specs.Trace.{Event}
use Rattle.catch_up.specs.Told.{told}
use Rattle.view_ledger.specs.Receipts.{Accepts}
use Rattle.op_parts.specs.RoundAsking.{Asking}
use Rattle.op_parts.specs.RoundLaws.{IsToldBehind}
use Rattle.op_parts.specs.RoundSound.{Sound as SoundRound}
use Rattle.op_parts.specs.RoundState.{State as Round}
use Rattle.op_parts.specs.Walk.{Place}
use Rattle.settle.specs.Settling.{Settling, asking, top_block}
use Rattle.settle.specs.Sound.{got_at}
use Rattle.settle.specs.Says.{IsLast, HasNoQuorum, IsRefused}
use Rattle.settle.proofs.Lists.{all_more}

-- what is known of counts that members told
abbrev pub ToldOn : Type 0
ToldOn = (member before : ℕ) (later earlier : List Event) → told member before (later ++ earlier) ≡ told member (told member before earlier) later

abbrev pub ToldLaw : Type 0
ToldLaw = (accepts : Accepts) (ask : Asking) (state : Round) (past : List Event) → SoundRound accepts ask state past
    → AllByRecursion (λ (r : ℕ × MemberCause). IsToldBehind past r.0 r.1) state.reasons

-- more calls before and after don't matter
older_calls : ToldOn → (calls before : List Event) (id : ℕ) (cause : MemberCause) → IsToldBehind calls id cause → IsToldBehind (calls ++ before) id cause
older_calls told_on calls before id (Denied (Behind count)) is = (
  is.0,
  is.1 ++ before,
  is.2,
  is.3,
  is.4,
  is.5,
  ap (λ (c : List Event). c ++ before) is.6 ∙ append_assoc is.0 _ before,
  is.7,
  λ first. told_on id first is.1 before ∙ is.8 (told id first before),
)
older_calls told_on calls before id cause is = tt

newer_call : (event : Event) (calls : List Event) (id : ℕ) (cause : MemberCause) → IsToldBehind calls id cause → IsToldBehind (event ∷ calls) id cause
newer_call event calls id (Denied (Behind count)) is = (event ∷ is.0, is.1, is.2, is.3, is.4, is.5, ap (λ (c : List Event). event ∷ c) is.6, is.7, is.8)
newer_call event calls id cause is = tt

abbrev AllTold : List Event → List (ℕ × MemberCause) → Type 0
AllTold events reasons = AllByRecursion (λ (r : ℕ × MemberCause). IsToldBehind events r.0 r.1) reasons

at_last : (settling : Settling) (place : Place) (causes : List (ℕ × MemberCause)) (asked past : List Event) → IsLast settling place causes asked past → AllTold asked causes → AllTold past causes
at_last settling place causes asked past (inl last) all = subst (λ (p : List Event). AllTold p causes) (sym last.0) all
at_last settling place causes asked past (inr last) all =
    subst (λ (p : List Event). AllTold p causes) (sym last.0)
    (all_more (λ (r : ℕ × MemberCause). IsToldBehind asked r.0 r.1) (λ (r : ℕ × MemberCause). IsToldBehind (got_at settling place.height gots.None ∷ asked) r.0 r.1)
    (λ r one. newer_call (got_at settling place.height gots.None) asked r.0 r.1 one) causes all)

module _ (told_on : ToldOn) (law : ToldLaw) (accepts : Accepts) (settling : Settling) where
  of_round : (place : Place) (causes : List (ℕ × MemberCause)) (past : List Event) → HasNoQuorum accepts settling place causes past → AllTold past causes
  of_round place causes past none =
      at_last settling place causes (none.calls ++ none.before) past none.last
      (all_more (λ (r : ℕ × MemberCause). IsToldBehind none.calls r.0 r.1) (λ (r : ℕ × MemberCause). IsToldBehind (none.calls ++ none.before) r.0 r.1)
      (λ r one. older_calls told_on none.calls none.before r.0 r.1 one) causes
      (subst (λ (cs : List (ℕ × MemberCause)). AllTold none.calls cs) none.failed.reasons
      (law accepts (asking settling (top_block settling place)) none.failed.round none.calls none.failed.sound)))

  -- members that are too few tell so
  pub told_behind : (past : List Event) (need : ℕ) (reasons : List (ℕ × MemberCause)) → IsRefused accepts settling past (NoQuorum need reasons) → AllTold past reasons
  told_behind [] need reasons (inl is) = absurd is
  told_behind (event ∷ past) need reasons (inl is) = absurd is.5
  told_behind [] need reasons (inr (inl is)) = absurd is
  told_behind (event ∷ past) need reasons (inr (inl is)) = absurd is.5
  told_behind past need reasons (inr (inr is)) =
      subst (λ (cs : List (ℕ × MemberCause)). AllTold past cs) (sym is.4.0) (of_round is.0 is.1 past is.2)
