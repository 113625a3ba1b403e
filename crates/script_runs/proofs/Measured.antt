-- Calls that are weighed: what is due falls by what they weigh, and a refusal tells no more than that.
use Rattle.std.proofs.Common.{◌≡◌, ◌⊎◌, ◌≤◌, ◌+◌, inl, inr, ℕ, List, [], ◌∷◌, ◌++◌, Result, Ok, Err, sym, ap, subst, arith}
use Rattle.blob_store.specs.declared.lying_store.LyingStore.{LyingStore}
use Rattle.blob_store.specs.LyingStore.{lying_view}
use Rattle.port.specs.Cause.{BadRow, Cause, Conflict, Contended, Full, Gap, NoMemory, NoQuorum, Reused, StoreFault, TooFar, ViewMoved}
use Rattle.port.specs.Service.{Append, At, Knew, Latest, NewLedger, Refused, Replied, ServiceAnswer, ServiceCall, Stood, Views}
use Rattle.port.specs.Trace.{Event, Had, Happened, Ran}
use Rattle.port.specs.View.{ViewRow}
use Rattle.view_ledger.specs.Receipts.{Accepts}
use Rattle.view_ledger.specs.Views.{ViewChain}
use Rattle.endorser_cell.specs.CellBank.{CellBank, bank_view}
use Rattle.op_entry.specs.Ask.{AppendEntry, Ask, NewLedger as NewLedgerAsk, ReadAt}
use Rattle.op_entry.specs.Says.{Says as EntrySays}
use Rattle.op_latest.specs.LatestAsked.{LatestAsk}
use Rattle.op_latest.specs.LatestSays.{LatestSays}
use Rattle.coordinator.specs.Calls.{IsUnbegun, OfReply, OfStanding}
use Rattle.coordinator.specs.Entries.{EntryServed, first_entry, later_entry}
use Rattle.coordinator.specs.First.{FirstServed, SaysOfFirst}
use Rattle.coordinator.specs.Latest.{LatestServed}
use Rattle.coordinator.specs.Says.{SaysOfEntry, SaysOfLatest, coordinator_says}
use Rattle.coordinator.specs.State.{State}
use Rattle.answer_lines.specs.Giving.{OnlyLearned}
use Rattle.script_runs.specs.AskedFor.{told_by, told_first}

-- ---- lists of calls

module _ (weigh : Event → ℕ) where
  abbrev pub weighed : List Event → ℕ
  weighed [] = 0
  weighed (event ∷ past) = weigh event + weighed past

  pub weighed_append : (a b : List Event) → weighed (a ++ b) ≡ weighed a + weighed b
  weighed_append [] b = omega arith
  weighed_append (event ∷ a) b = let e = weighed_append a b in omega (arith, e)

  pub weighed_had : (events : List Event) (event : Event) → Had events event → weigh event ≤ weighed events
  weighed_had [] event had = absurd had
  weighed_had (first ∷ events) event (inl is) = let e : weigh first ≡ weigh event = ap weigh is in omega (arith, e)
  weighed_had (first ∷ events) event (inr had) = let e = weighed_had events event had in omega (arith, e)

-- it isn't asked for views
abbrev pub AsksRows : ServiceCall → Type 0
AsksRows (Views number) = ⊥
AsksRows call = Unit {0}

-- ---- what is due

module _ {S C : Type 0} (key : S → List ℕ) (left : S → ℕ) (accepts : C → Accepts) (tells : Cause → ℕ) (weigh : Event → ℕ) (due : LyingStore → CellBank S C → ℕ) (Fits : LyingStore → CellBank S C → Type 0) where
  abbrev Held : Type 0
  Held = State LyingStore (CellBank S C) C

  -- Each call takes what it weighs from what is due, and the calls that came to a refusal weigh at least what it tells.
  pub record IsMeasure : Type 0 where
    pub one : (s s' : LyingStore) (l l' : CellBank S C) (event : Event) → Happened lying_view (bank_view key left accepts) s l event s' l' → Fits s l → (due s l ≡ due s' l' + weigh event) × Fits s' l'
    pub entry : (checks : Accepts) (ask : Ask) (from chain : ViewChain) (past : List Event) (cause : Cause) → EntrySays checks ask from chain past (Err cause) → tells cause ≤ weighed weigh past
    pub read : (checks : Accepts) (ask : LatestAsk) (chain : ViewChain) (past : List Event) (cause : Cause) → LatestSays checks ask chain past (Err cause) → tells cause ≤ weighed weigh past
    pub first : (checks : Accepts) (from chain : ViewChain) (past : List Event) (cause : Cause) → FirstServed checks from chain past (Err cause) → tells cause ≤ weighed weigh past
    pub memory : tells NoMemory ≡ 0

  -- at least so much was taken from what is due
  abbrev pub Falls : LyingStore → CellBank S C → LyingStore → CellBank S C → ℕ → Type 0
  Falls s l s' l' n = (due s' l' + n ≤ due s l) × Fits s' l'

  module _ (is : IsMeasure) where
    pub ran_falls : (s s' : LyingStore) (l l' : CellBank S C) (events : List Event) → Ran lying_view (bank_view key left accepts) s l events s' l' → Fits s l → Falls s l s' l' (weighed weigh events)
    ran_falls s s' l l' [] ran fits =
        subst (λ (x : LyingStore). Falls s l x l' 0) (sym ran.0) (subst (λ (x : CellBank S C). Falls s l s x 0) (sym ran.1) (omega arith, fits))
    ran_falls s s' l l' (event ∷ past) (m, k, ran, step) fits =
        let before = ran_falls s m l k past ran fits in
        let now = is.one m s' k l' event step before.1 in
        let a = before.0 in
        let b = now.0 in
        (omega (arith, a, b), now.1)

    pub less_falls : (s s' : LyingStore) (l l' : CellBank S C) (n m : ℕ) → m ≤ n → Falls s l s' l' n → Falls s l s' l' m
    less_falls s s' l l' n m less falls = let a = falls.0 in (omega (arith, a, less), falls.1)

    pub next_falls : (s m s' : LyingStore) (l k l' : CellBank S C) (n : ℕ) → Falls s l m k n → Falls m k s' l' 0 → Falls s l s' l' n
    next_falls s m s' l k l' n first next = let a = first.0 in let b = next.0 in (omega (arith, a, b), next.1)

    -- ---- calls of a coordinator

    unbegun_tells : (events : List Event) (cause : Cause) → IsUnbegun events (Err cause) → tells cause ≤ weighed weigh events
    unbegun_tells events NoMemory none = let e = is.memory in omega (arith, e)
    unbegun_tells events (Conflict standing) none = absurd none
    unbegun_tells events (Gap handle missing) none = absurd none
    unbegun_tells events (NoQuorum need reasons) none = absurd none
    unbegun_tells events (ViewMoved from id statement sig) none = absurd none
    unbegun_tells events StoreFault none = absurd none
    unbegun_tells events (BadRow key bytes) none = absurd none
    unbegun_tells events (Contended member first later) none = absurd none
    unbegun_tells events (Full member) none = absurd none
    unbegun_tells events (TooFar needed) none = absurd none
    unbegun_tells events (Reused id) none = absurd none

    entry_tells : (checks : Accepts) (ask : Ask) (from chain : ViewChain) (events : List Event) (answer : ServiceAnswer) → OfStanding (EntryServed checks ask from chain events) answer → told_by tells answer ≤ weighed weigh events
    entry_tells checks ask from chain events (Stood standing) did = omega arith
    entry_tells checks ask from chain events (Replied reply) did = absurd did
    entry_tells checks ask from chain events (Knew rows) did = absurd did
    entry_tells checks ask from chain events (Refused cause) did = by did.says
      where
        by : IsUnbegun events (Err cause) ⊎ EntrySays checks ask from chain events (Err cause) → tells cause ≤ weighed weigh events
        by (inl none) = unbegun_tells events cause none
        by (inr says) = is.entry checks ask from chain events cause says

    read_tells : (checks : Accepts) (ask : LatestAsk) (from chain : ViewChain) (events : List Event) (answer : ServiceAnswer) → OfReply (LatestServed checks ask from chain events) answer → told_by tells answer ≤ weighed weigh events
    read_tells checks ask from chain events (Replied reply) did = omega arith
    read_tells checks ask from chain events (Stood standing) did = absurd did
    read_tells checks ask from chain events (Knew rows) did = absurd did
    read_tells checks ask from chain events (Refused cause) did = is.read checks ask chain events cause did.says

    abbrev FallsIn : Held → Held → ℕ → Type 0
    FallsIn old new n = Falls old.store old.link new.store new.link n

    entry_falls : (ask : Ask) (old new : Held) (answer : ServiceAnswer) → SaysOfEntry accepts lying_view (bank_view key left accepts) old new ask answer → Fits old.store old.link → FallsIn old new (told_by tells answer)
    entry_falls ask old new answer says fits =
        less_falls old.store new.store old.link new.link (weighed weigh says.events) (told_by tells answer) (entry_tells (accepts old.checker) ask old.chain new.chain says.events answer says.did)
        (ran_falls old.store new.store old.link new.link says.events says.ran fits)

    read_falls : (ask : LatestAsk) (old new : Held) (answer : ServiceAnswer) → SaysOfLatest accepts lying_view (bank_view key left accepts) old new ask answer → Fits old.store old.link → FallsIn old new (told_by tells answer)
    read_falls ask old new answer says fits =
        less_falls old.store new.store old.link new.link (weighed weigh says.events) (told_by tells answer) (read_tells (accepts old.checker) ask old.chain new.chain says.events answer says.did)
        (ran_falls old.store new.store old.link new.link says.events says.ran fits)

    pub says_falls : (call : ServiceCall) (old new : Held) (answer : ServiceAnswer) → AsksRows call → coordinator_says accepts lying_view (bank_view key left accepts) old new call answer → Fits old.store old.link
        → FallsIn old new (told_by tells answer)
    says_falls (NewLedger nonce payload) old new answer rows says fits = entry_falls (NewLedgerAsk (first_entry nonce payload)) old new answer says fits
    says_falls (Append handle height nonce payload) old new answer rows says fits = entry_falls (AppendEntry (later_entry handle height nonce payload)) old new answer says fits
    says_falls (Latest handle nonce) old new answer rows says fits = read_falls (record { handle = handle; nonce = nonce }) old new answer says fits
    says_falls (At handle height) old new answer rows says fits = entry_falls (ReadAt handle height) old new answer says fits
    says_falls (Views number) old new answer rows says fits = absurd rows

    -- nothing was asked, or views were
    pub learned_falls : (old new : Held) → OnlyLearned accepts lying_view (bank_view key left accepts) old new → Fits old.store old.link → FallsIn old new 0
    learned_falls old new (inl same) fits = subst (λ (x : Held). FallsIn old x 0) (sym same) (omega arith, fits)
    learned_falls old new (inr (number, answer, says)) fits =
        less_falls old.store new.store old.link new.link (weighed weigh says.events) 0 (omega arith) (ran_falls old.store new.store old.link new.link says.events says.ran fits)

    pub first_falls : (old new : Held) (answer : Result ViewRow Cause) → SaysOfFirst accepts lying_view (bank_view key left accepts) old new answer → Fits old.store old.link → FallsIn old new (told_first tells answer)
    first_falls old new (Ok row) says fits =
        less_falls old.store new.store old.link new.link (weighed weigh says.served.events) 0 (omega arith) (ran_falls old.store new.store old.link new.link says.served.events says.served.ran fits)
    first_falls old new (Err cause) says fits =
        less_falls old.store new.store old.link new.link (weighed weigh says.served.events) (tells cause) (is.first (accepts old.checker) old.chain new.chain says.served.events cause says.served.did)
        (ran_falls old.store new.store old.link new.link says.served.events says.served.ran fits)
