-- What calls over a run's store and link add to what was served, and what they leave.
use Rattle.std.proofs.Common.{◌≡◌, inl, inr, ℕ, Bool, true, false, List, [], ◌∷◌, ◌++◌, if◌then◌else◌, Option, Some, None, refl, sym, ap, subst, ◌∙◌, append_assoc}
use Rattle.std.specs.List.{AllByRecursion}
use Rattle.blob_store.specs.declared.lying_store.LyingStore.{LyingStore}
use Rattle.blob_store.specs.LyingStore.{held_in, lying_view}
use Rattle.chain_block.specs.declared.entry.Entry.{Entry}
use Rattle.port.specs.declared.key.Key.{Key}
use Rattle.port.specs.Answer.{Answer, Behind, BadProof, BadView, Denial, Done, Finaled, Full, HasEnded, LogFull, NotGenesis, NotMember, OtherNext, OtherTail, Refused, Shown, Signed, Spent, Stands, Tall, WrongPhase}
use Rattle.port.specs.Call.{Call, Append, Latest}
use Rattle.port.specs.Contents.{Contents}
use Rattle.port.specs.Heard.{Heard, Answered, Lost, NoMemory}
use Rattle.port.specs.Link.{IsServing, LinkStep, Served, served_after}
use Rattle.port.specs.Store.{Follows, Truth}
use Rattle.port.specs.Trace.{AllFollow, AllServe, AtLink, AtStore, Event, Ran}
use Rattle.view_ledger.specs.Receipts.{Accepts}
use Rattle.endorser_cell.specs.BankLine.{served_by}
use Rattle.endorser_cell.specs.CellBank.{CellBank, bank_view}
use Rattle.script_runs.proofs.StandingRows.{AllKnown, IsHeld, IsSound, OneRow}
use Rattle.script_runs.proofs.KeptCalls.{AllPutOwn, Kept, Lifts, all_append, all_lift, kept}

-- ---- what was served

refused_split : (before served : List Served) (id : ℕ) (call : Call) (denial : Denial) → served_after (before ++ served) id call (Refused denial) ≡ served_after before id call (Refused denial) ++ served
refused_split before served id call (Behind count) = refl
refused_split before served id call (Stands count tail) = refl
refused_split before served id call (OtherTail tail) = refl
refused_split before served id call NotGenesis = refl
refused_split before served id call Full = refl
refused_split before served id call Tall = refl
refused_split before served id call NotMember = refl
refused_split before served id call BadView = refl
refused_split before served id call (BadProof cause) = refl
refused_split before served id call (WrongPhase phase) = refl
refused_split before served id call (HasEnded statement sig) = refl
refused_split before served id call (OtherNext next) = refl
refused_split before served id call Spent = refl
refused_split before served id call LogFull = refl

pub served_split : (before served : List Served) (id : ℕ) (call : Call) (answer : Answer) → served_after (before ++ served) id call answer ≡ served_after before id call answer ++ served
served_split before served id call Done = refl
served_split before served id call (Signed statement sig) = refl
served_split before served id call (Finaled statement sig map) = refl
served_split before served id call (Shown phase number tail count) = refl
served_split before served id call (Refused denial) = refused_split before served id call denial

abbrev Splits : List Served → List Served → ℕ → Call → Heard → List Served → Type 0
Splits before served id call heard after = (more : List Served) × (after ≡ more ++ served) × IsServing before id call heard more

serving_split : (before served after : List Served) (id : ℕ) (call : Call) (heard : Heard) → IsServing (before ++ served) id call heard after → Splits before served id call heard after
serving_split before served after id call (Answered answer) is = (served_after before id call answer, is ∙ served_split before served id call answer, refl)
serving_split before served after id call Lost (inl is) = (before, is, inl refl)
serving_split before served after id call Lost (inr (answer, is)) = (served_after before id call answer, is ∙ served_split before served id call answer, inr (answer, refl))
serving_split before served after id call NoMemory is = (before, is, refl)

told_if : (fresh : Bool) (served after : List Served) → (if fresh then Some served else None) ≡ Some after → (fresh ≡ true) × (served ≡ after)
told_if true served after is = (refl, cc is)
told_if false served after is = absurd (cc is)

-- ---- each call that was served is such

abbrev pub Asks : (Call → Type 0) → Event → Type 0
Asks P (AtStore call answer) = Unit {0}
Asks P (AtLink id call heard) = P call

abbrev pub AllAsk : (Call → Type 0) → List Event → Type 0
AllAsk P events = AllByRecursion (Asks P) events

abbrev pub AllOf : (Call → Type 0) → List Served → Type 0
AllOf P served = AllByRecursion (λ (one : Served). P one.call) served

module _ (P : Call → Type 0) where
  refused_of : (past : List Served) (id : ℕ) (call : Call) (denial : Denial) → P call → AllOf P past → AllOf P (served_after past id call (Refused denial))
  refused_of past id call (Behind count) one all = (one, all)
  refused_of past id call (Stands count tail) one all = (one, all)
  refused_of past id call (OtherTail tail) one all = (one, all)
  refused_of past id call NotGenesis one all = (one, all)
  refused_of past id call Full one all = (one, all)
  refused_of past id call Tall one all = (one, all)
  refused_of past id call NotMember one all = (one, all)
  refused_of past id call BadView one all = (one, all)
  refused_of past id call (BadProof cause) one all = (one, all)
  refused_of past id call (WrongPhase phase) one all = (one, all)
  refused_of past id call (HasEnded statement sig) one all = (one, all)
  refused_of past id call (OtherNext next) one all = (one, all)
  refused_of past id call Spent one all = (one, all)
  refused_of past id call LogFull one all = all

  served_of : (past : List Served) (id : ℕ) (call : Call) (answer : Answer) → P call → AllOf P past → AllOf P (served_after past id call answer)
  served_of past id call Done one all = (one, all)
  served_of past id call (Signed statement sig) one all = (one, all)
  served_of past id call (Finaled statement sig map) one all = (one, all)
  served_of past id call (Shown phase number tail count) one all = (one, all)
  served_of past id call (Refused denial) one all = refused_of past id call denial one all

  serving_of : (past after : List Served) (id : ℕ) (call : Call) (heard : Heard) → P call → AllOf P past → IsServing past id call heard after → AllOf P after
  serving_of past after id call (Answered answer) one all is = subst (AllOf P) (sym is) (served_of past id call answer one all)
  serving_of past after id call Lost one all (inl is) = subst (AllOf P) (sym is) all
  serving_of past after id call Lost one all (inr (answer, is)) = subst (AllOf P) (sym is) (served_of past id call answer one all)
  serving_of past after id call NoMemory one all is = subst (AllOf P) (sym is) all

  pub all_of : (events : List Event) (more : List Served) → AllServe [] events more → AllAsk P events → AllOf P more
  all_of [] more is asks = subst (AllOf P) (sym is) tt
  all_of (AtStore call answer ∷ past) more serves asks = all_of past more serves asks.1
  all_of (AtLink id call heard ∷ past) more (before, serves, is) asks = serving_of before more id call heard asks.0 (all_of past before serves asks.1) is

-- where no endorser was asked, none served a call
pub none_of : (events : List Event) (more : List Served) → AllServe [] events more → AllAsk (λ call. ⊥) events → more ≡ []
none_of events more serves asks = by more (all_of (λ call. ⊥) events more serves asks)
  where
    by : (more : List Served) → AllOf (λ call. ⊥) more → more ≡ []
    by [] all = refl
    by (one ∷ rest) all = absurd all.0

-- ---- calls over a run's store and link

-- an append of a row that is held, or a read of a ledger with a nonce of which this holds
abbrev pub OwnCall : (Entry → Type 0) → List Key → Contents → (List ℕ → List ℕ → Type 0) → Call → Type 0
OwnCall drawn forked contents reads (Append handle prev entry height) = IsHeld drawn forked contents handle prev entry height
OwnCall drawn forked contents reads (Latest handle number) = reads handle number
OwnCall drawn forked contents reads call = ⊥

module _ {S C : Type 0} (key : S → List ℕ) (left : S → ℕ) (accepts : C → Accepts) where
  -- what was served besides, by these calls
  pub record Serving (l l' : CellBank S C) (events : List Event) : Type 0 where
    pub fresh : l'.fresh ≡ true
    pub more : List Served
    pub served : served_by [] l'.log ≡ more ++ served_by [] l.log
    pub serves : AllServe [] events more

  step_serves : (old new : CellBank S C) (before served : List Served) (id : ℕ) (call : Call) (heard : Heard) → LinkStep (bank_view key left accepts) old new id call heard → old.fresh ≡ true
      → served_by [] old.log ≡ before ++ served → (new.fresh ≡ true) × Splits before served id call heard (served_by [] new.log)
  step_serves old new before served id call heard step fresh is =
      let told : (bank_view key left accepts old).served ≡ Some (before ++ served) =
      ap (λ (b : Bool). if b then Some (served_by [] old.log) else None) fresh ∙ ap (λ (l : List Served). let o : Option (List Served) = Some l in o) is in
      let went = step.serves (before ++ served) told in
      let known = told_if new.fresh (served_by [] new.log) went.0 went.1 in
      (known.0, serving_split before served (served_by [] new.log) id call heard (subst (IsServing (before ++ served) id call heard) (sym known.1) went.2))

  pub ran_serves : (s s' : LyingStore) (l l' : CellBank S C) (events : List Event) → Ran lying_view (bank_view key left accepts) s l events s' l' → l.fresh ≡ true → Serving l l' events
  ran_serves s s' l l' [] ran fresh = subst (λ (x : CellBank S C). Serving l x []) (sym ran.1) (record { fresh = fresh; more = []; served = refl; serves = refl })
  ran_serves s s' l l' (AtStore call answer ∷ past) (m, k, ran, step) fresh =
      let before = ran_serves s m l k past ran fresh in
      subst (λ (x : CellBank S C). Serving l x (AtStore call answer ∷ past)) (sym step.1) (record { fresh = before.fresh; more = before.more; served = before.served; serves = before.serves })
  ran_serves s s' l l' (AtLink id call heard ∷ past) (m, k, ran, step) fresh =
      let before = ran_serves s m l k past ran fresh in
      let now = step_serves k l' before.more (served_by [] l.log) id call heard step.0 before.fresh before.served in
      record { fresh = now.0; more = now.1.0; served = now.1.1; serves = (before.more, before.serves, now.1.2) }

  pub ran_follows : (s s' : LyingStore) (l l' : CellBank S C) (events : List Event) → Ran lying_view (bank_view key left accepts) s l events s' l' → AllFollow (held_in s) events (held_in s')
  ran_follows s s' l l' [] ran = ap held_in ran.0
  ran_follows s s' l l' (AtLink id call heard ∷ past) (m, k, ran, step) = subst (λ (x : LyingStore). AllFollow (held_in s) past (held_in x)) (sym step.1) (ran_follows s m l k past ran)
  ran_follows s s' l l' (AtStore call answer ∷ past) (m, k, ran, step) =
      let now = step.0.follows (held_in m) refl in
      let same : held_in s' ≡ now.0 = cc now.1 in
      (held_in m, ran_follows s m l k past ran, subst (λ (t : Truth). Follows (held_in m) call answer t) (sym same) now.2)

  -- ---- what they leave

  module _ (drawn : Entry → Type 0) (forked : List Key) where
    -- Of the store rows may stand that do, all calls that its endorsers served are known.
    pub record IsSeen (s : LyingStore) (l : CellBank S C) : Type 0 where
      pub sound : IsSound drawn forked (held_in s)
      pub fresh : l.fresh ≡ true

    -- Some calls were made, and whatever was served besides are own calls.
    pub record Went (reads : List ℕ → List ℕ → Type 0) (s : LyingStore) (l : CellBank S C) (s' : LyingStore) (l' : CellBank S C) : Type 0 where
      pub seen : IsSeen s' l'
      pub lifts : Lifts drawn forked (held_in s).contents drawn forked (held_in s').contents
      pub more : List Served
      pub served : served_by [] l'.log ≡ more ++ served_by [] l.log
      pub each : AllOf (OwnCall drawn forked (held_in s').contents reads) more

    -- the same, with what the calls told
    pub record WentBy (reads : List ℕ → List ℕ → Type 0) (s : LyingStore) (l : CellBank S C) (s' : LyingStore) (l' : CellBank S C) (events : List Event) : Type 0 where
      pub went : Went reads s l s' l'
      pub known : AllKnown drawn forked (held_in s').contents events
      pub serves : AllServe [] events went.more

    pub went_by : OneRow → (reads : List ℕ → List ℕ → Type 0) (s s' : LyingStore) (l l' : CellBank S C) (events : List Event) → Ran lying_view (bank_view key left accepts) s l events s' l'
        → IsSeen s l → AllPutOwn drawn events
        → (Kept drawn forked (held_in s) (held_in s') events → AllAsk (OwnCall drawn forked (held_in s').contents reads) events)
        → WentBy reads s l s' l' events
    went_by law reads s s' l l' events ran seen puts asks =
        let holds = kept law drawn forked events (held_in s) (held_in s') seen.sound (ran_follows s s' l l' events ran) puts in
        let serving = ran_serves s s' l l' events ran seen.fresh in
        record {
          went = record {
            seen = record { sound = holds.sound; fresh = serving.fresh };
            lifts = holds.lifts;
            more = serving.more;
            served = serving.served;
            each = all_of (OwnCall drawn forked (held_in s').contents reads) events serving.more serving.serves (asks holds);
          };
          known = holds.known;
          serves = serving.serves;
        }

    call_lift : (reads : List ℕ → List ℕ → Type 0) (contents after : Contents) → Lifts drawn forked contents drawn forked after → (call : Call) → OwnCall drawn forked contents reads call → OwnCall drawn forked after reads call
    call_lift reads contents after lifts (Append handle prev entry height) held = lifts handle prev entry height held
    call_lift reads contents after lifts (Latest handle number) read = read
    call_lift reads contents after lifts call none = absurd none

    pub went_on : (reads : List ℕ → List ℕ → Type 0) (s m s' : LyingStore) (l k l' : CellBank S C) → Went reads s l m k → Went reads m k s' l' → Went reads s l s' l'
    went_on reads s m s' l k l' first next = record {
      seen = next.seen;
      lifts = λ handle prev entry height held. next.lifts handle prev entry height (first.lifts handle prev entry height held);
      more = next.more ++ first.more;
      served = next.served ∙ ap (λ (x : List Served). next.more ++ x) first.served ∙ sym (append_assoc next.more first.more (served_by [] l.log));
      each = all_append _ next.more first.more next.each
          (all_lift _ _ (λ (one : Served) own. call_lift reads (held_in m).contents (held_in s').contents next.lifts one.call own) first.more first.each);
    }

    -- nothing was done
    abbrev pub went_not : (reads : List ℕ → List ℕ → Type 0) (s : LyingStore) (l : CellBank S C) → IsSeen s l → Went reads s l s l
    went_not reads s l seen = record { seen = seen; lifts = λ handle prev entry height held. held; more = []; served = refl; each = tt }
