-- A round's own calls.
use Rattle.std.proofs.Common.{◌≡◌, ◌⊎◌, inl, inr, ℕ, zero, suc, ◌<◌, List, [], ◌∷◌, ◌++◌, refl, sym, subst}
use Rattle.statement.specs.declared.member.Member.{Member}
use Rattle.statement.specs.Mark.{Content as Mark}
use Rattle.port.specs.declared.key.Key.TheVariants as keys
use Rattle.port.specs.declared.store_answers.Got.TheVariants as gots
use Rattle.port.specs.Answer.{Refused, Behind}
use Rattle.port.specs.Call.{Call}
use Rattle.port.specs.Cause.{MemberCause}
use Rattle.port.specs.GoodRow.{IsGoodRow}
use Rattle.port.specs.Heard.{Heard, Answered}
use Rattle.port.specs.Row.{Content}
use Rattle.port.specs.Store.{StoreCall, StoreAnswer, Get, WasGot}
use Rattle.port.specs.Stored.{Stored}
use Rattle.port.specs.Trace.{Event, AtStore, AtLink, Had}
use Rattle.catch_up.specs.State.{Target}
use Rattle.catch_up.specs.OwnCalls.{OwnCalls, append_of}
use Rattle.view_ledger.specs.Receipts.{Accepts}
use Rattle.op_parts.specs.declared.round_stage.Stage.{Stage}
use Rattle.op_parts.specs.declared.round_stage.Stage.TheVariants.{First, CatchUp, Again, Ended}
use Rattle.op_parts.specs.RoundAsking.{Asking, append_to, target_of}
use Rattle.op_parts.specs.RoundOutcome.{Marked, Blamed}
use Rattle.op_parts.specs.RoundTurn.{WasBehind, IsTurn}
use Rattle.op_parts.specs.RoundState.{State}
use Rattle.op_parts.specs.RoundSound.{IsMember, AreAsked, AtStage, Sound}
use Rattle.op_parts.specs.RoundLaws.{IsOwnAppend, IsOwnCall}
use Rattle.op_parts.proofs.RoundFinish.{ends_turn}
use Rattle.op_parts.proofs.RoundShown.{Within, later, newer, split}

-- what a catch-up's laws say of its calls
abbrev pub StoreLaw : Type 0
StoreLaw = (target : Target) (from : ℕ) (events : List Event) → OwnCalls target from events → (call : StoreCall) (answer : StoreAnswer)
    → Had events (AtStore call answer) → (height : ℕ) × (height < target.count) × (call ≡ Get (keys.Row target.handle height))

abbrev pub LinkLaw : Type 0
LinkLaw = (target : Target) (from : ℕ) (events : List Event) → OwnCalls target from events → (id : ℕ) (call : Call) (heard : Heard)
    → Had events (AtLink id call heard)
    → (id ≡ target.member) × ((height : ℕ) × (stored : Stored) × (row : Content) × (height < target.count)
    × Had events (AtStore (Get (keys.Row target.handle height)) (WasGot (gots.Some stored))) × IsGoodRow target.handle height stored.body row
    × (call ≡ append_of target.handle row.metablock))

append_more : (ask : Asking) (some all : List Event) (call : Call) → Within some all → IsOwnAppend ask some call → IsOwnAppend ask all call
append_more ask some all call more (inl is) = inl is
append_more ask some all call more (inr own) = inr (own.0, own.1, own.2, own.3, more _ own.4, own.5, own.6)

own_more : (ask : Asking) (some all : List Event) (event : Event) → Within some all → IsOwnCall ask some event → IsOwnCall ask all event
own_more ask some all (AtStore call answer) more own = own
own_more ask some all (AtLink id call heard) more own = (own.0, append_more ask some all call more own.1)

module _ (by_store : StoreLaw) (by_link : LinkLaw) (ask : Asking) where
  appended : (place : ℕ) (member : Member) (heard : Heard) (events : List Event) (event : Event) → IsMember ask place member
      → append_to ask member.id heard ≡ event → IsOwnCall ask events event
  appended place member heard events event is same = subst (IsOwnCall ask events) same ((place, member, is, refl), inl refl)

  caught_up : (place : ℕ) (member : Member) (from : ℕ) (calls : List Event) (event : Event) → IsMember ask place member
      → OwnCalls (target_of ask member.id) from calls → Had calls event → IsOwnCall ask calls event
  caught_up place member from calls (AtStore call answer) is own had = by_store (target_of ask member.id) from calls own call answer had
  caught_up place member from calls (AtLink id call heard) is own had =
      let l = by_link (target_of ask member.id) from calls own id call heard had in ((place, member, is, l.0), inr l.1)

  behind_by : (place : ℕ) (member : Member) (from : ℕ) (inner : List Event) (event : Event) → IsMember ask place member
      → OwnCalls (target_of ask member.id) from inner → Had inner event ⊎ Had (append_to ask member.id (Answered (Refused (Behind from))) ∷ []) event
      → IsOwnCall ask (inner ++ append_to ask member.id (Answered (Refused (Behind from))) ∷ []) event
  behind_by place member from inner event is own (inl had) =
      own_more ask inner _ event (newer inner _) (caught_up place member from inner event is own had)
  behind_by place member from inner event is own (inr (inl same)) = appended place member _ _ event is same
  behind_by place member from inner event is own (inr (inr had)) = absurd had

  behind : (place : ℕ) (member : Member) (from : ℕ) (inner calls : List Event) (event : Event) → IsMember ask place member
      → WasBehind ask member.id from inner calls → Had calls event → IsOwnCall ask calls event
  behind place member from inner calls event is was had =
      subst (λ (c : List Event). IsOwnCall ask c event) (sym was.split)
      (behind_by place member from inner event is was.own (split inner _ event (subst (λ (c : List Event). Had c event) was.split had)))

  once : (place : ℕ) (member : Member) (heard : Heard) (calls : List Event) (event : Event) → IsMember ask place member
      → (Had calls event → IsOwnCall ask calls event) → Had (append_to ask member.id heard ∷ calls) event
      → IsOwnCall ask (append_to ask member.id heard ∷ calls) event
  once place member heard calls event is below (inl same) = appended place member heard (append_to ask member.id heard ∷ calls) event is same
  once place member heard calls event is below (inr had) = own_more ask calls (append_to ask member.id heard ∷ calls) event (newer_one (append_to ask member.id heard) calls) (below had)
    where
      newer_one : (first : Event) (rest : List Event) → Within rest (first ∷ rest)
      newer_one first rest e had = inr had

  turn : (place : ℕ) (member : Member) (calls : List Event) (event : Event) → IsMember ask place member → IsTurn ask member.id calls
      → Had calls event → IsOwnCall ask calls event
  turn place member calls event is (inl t) had =
      subst (λ (c : List Event). IsOwnCall ask c event) (sym t.1)
      (once place member t.0 [] event is (λ none. absurd none) (subst (λ (c : List Event). Had c event) t.1 had))
  turn place member calls event is (inr (inl t)) had = behind place member t.0 t.1 calls event is t.2 had
  turn place member calls event is (inr (inr t)) had =
      subst (λ (c : List Event). IsOwnCall ask c event) (sym t.4)
      (once place member t.3 t.2 event is (λ h. behind place member t.0 t.1 t.2 event is t.5 h) (subst (λ (c : List Event). Had c event) t.4 had))

  both : (calls before : List Event) (event : Event) → (Had calls event → IsOwnCall ask calls event) → (Had before event → IsOwnCall ask before event)
      → Had calls event ⊎ Had before event → IsOwnCall ask (calls ++ before) event
  both calls before event new old (inl had) = own_more ask calls (calls ++ before) event (newer calls before) (new had)
  both calls before event new old (inr had) = own_more ask before (calls ++ before) event (later calls before) (old had)

  module _ (accepts : Accepts) where
    asked : (n : ℕ) (marks : List Mark) (reasons : List (ℕ × MemberCause)) (past : List Event) (event : Event)
        → AreAsked accepts ask n marks reasons past → Had past event → IsOwnCall ask past event
    asked zero marks reasons past event are had = absurd (subst (λ (p : List Event). Had p event) are.2 had)
    asked (suc n) marks reasons past event (member, calls, before, is, whole, inl side) had =
        subst (λ (p : List Event). IsOwnCall ask p event) (sym whole)
        (both calls before event (turn n member calls event is (ends_turn accepts ask member calls (Marked side.0) side.3))
        (asked n side.1 reasons before event side.4) (split calls before event (subst (λ (p : List Event). Had p event) whole had)))
    asked (suc n) marks reasons past event (member, calls, before, is, whole, inr side) had =
        subst (λ (p : List Event). IsOwnCall ask p event) (sym whole)
        (both calls before event (turn n member calls event is (ends_turn accepts ask member calls (Blamed side.0) side.3))
        (asked n marks side.1 before event side.4) (split calls before event (subst (λ (p : List Event). Had p event) whole had)))

    -- the calls to the member whose turn it is
    now : (n : ℕ) (stage : Stage) (calls : List Event) (event : Event) → AtStage ask n stage calls → Had calls event → IsOwnCall ask calls event
    now n First calls event rests had = absurd (subst (λ (c : List Event). Had c event) rests had)
    now n (CatchUp catch_up) calls event rests had = behind n rests.0 rests.1 rests.2 calls event rests.3 rests.4 had
    now n Again calls event rests had = behind n rests.0 rests.1 rests.2 calls event rests.3 rests.4 had
    now n Ended calls event (inl none) had = absurd (subst (λ (c : List Event). Had c event) none had)
    now n Ended calls event (inr rests) had = turn n rests.0 calls event rests.1 rests.2 had

    -- a round makes no other call
    pub all_own : (state : State) (past : List Event) → Sound accepts ask state past → (event : Event) → Had past event → IsOwnCall ask past event
    all_own state past sound event had =
        subst (λ (p : List Event). IsOwnCall ask p event) (sym sound.split)
        (both sound.calls sound.before event (now state.asked state.stage sound.calls event sound.at)
        (asked state.asked state.marks state.reasons sound.before event sound.asked)
        (split sound.calls sound.before event (subst (λ (p : List Event). Had p event) sound.split had)))
