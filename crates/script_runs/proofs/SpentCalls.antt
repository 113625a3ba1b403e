-- What the calls of operations weigh, so far and at their ends.
use Rattle.std.proofs.Common.{◌≡◌, ◌≤◌, ◌+◌, ℕ, zero, suc, List, [], ◌∷◌, ◌++◌, slice_get, slice_set, Some, refl, sym, subst, arith}
use Rattle.blob_store.specs.declared.lying_store.LyingStore.{LyingStore}
use Rattle.blob_store.specs.LyingStore.{lying_view}
use Rattle.port.specs.Cause.{Cause}
use Rattle.port.specs.Service.{Refused, ServiceAnswer}
use Rattle.port.specs.Trace.{Event}
use Rattle.view_ledger.specs.Receipts.{Accepts}
use Rattle.view_ledger.specs.Views.{ViewChain}
use Rattle.endorser_cell.specs.CellBank.{CellBank, bank_view}
use Rattle.op_entry.specs.Ask.{Ask, ReadAt}
use Rattle.op_entry.specs.Sound.{Sound}
use Rattle.op_latest.specs.LatestAsked.{LatestAsk}
use Rattle.op_latest.specs.LatestSound.{LatestSound}
use Rattle.coordinator.specs.State.{State}
use Rattle.script_operations.specs.Ending.{CameTo, Ends}
use Rattle.script_operations.specs.Operations.{Begun, Closed, InEntry, InNewest, IsFresh, Progress, at_progress}
use Rattle.script_operations.specs.Stepping.{Steps}
use Rattle.script_operations.specs.Task.{Height, Newest, Own, Task, ask_for}
use Rattle.script_runs.specs.AskedFor.{told_by}
use Rattle.script_runs.proofs.Measured.{Falls, IsMeasure, ran_falls, weighed, weighed_append}

-- ---- all operations

module _ (checks : Accepts) (weigh : Event → ℕ) where
  -- it came so far by calls that weigh so much
  abbrev pub Spent : Progress → ℕ → Type 0
  Spent Closed n = n ≡ 0
  Spent (InEntry state) n = (ask : Ask) × (from : ViewChain) × (past : List Event) × Sound checks ask from state past × (n ≡ weighed weigh past)
  Spent (InNewest state) n = (ask : LatestAsk) × (from : ViewChain) × (past : List Event) × LatestSound checks ask from state past × (n ≡ weighed weigh past)

  -- all of them did, by calls that weigh so much together
  abbrev pub AllSpent : List Begun → ℕ → Type 0
  AllSpent [] total = total ≡ 0
  AllSpent (begun ∷ others) total = (n : ℕ) × (m : ℕ) × Spent begun.progress n × AllSpent others m × (total ≡ n + m)

  -- One of them, and what all weigh with another progress of it.
  pub record SpentAt (all : List Begun) (place : ℕ) (begun : Begun) (total : ℕ) : Type 0 where
    pub n : ℕ
    pub rest : ℕ
    pub spent : Spent begun.progress n
    pub sum : total ≡ n + rest
    pub with_other : (progress : Progress) (m : ℕ) → Spent progress m → AllSpent (slice_set all place (at_progress begun progress)) (m + rest)

  pub spent_at : (all : List Begun) (place : ℕ) (begun : Begun) (total : ℕ) → slice_get all place ≡ Some begun → AllSpent all total → SpentAt all place begun total
  spent_at [] place begun total stood all = absurd cc
  spent_at (first ∷ others) zero begun total stood (n, m, spent, rest, sum) =
      let same : first ≡ begun = cc stood in
      record { n = n; rest = m; spent = subst (λ (b : Begun). Spent b.progress n) same spent; sum = sum; with_other = λ progress k is. (k, m, is, rest, refl) }
  spent_at (first ∷ others) (suc place) begun total stood (n, m, spent, rest, sum) =
      let deeper = spent_at others place begun m stood rest in
      let s = deeper.sum in
      record {
        n = deeper.n;
        rest = n + deeper.rest;
        spent = deeper.spent;
        sum = omega (arith, sum, s);
        with_other = λ progress k is. (n, k + deeper.rest, spent, deeper.with_other progress k is, omega arith);
      }

  pub spent_more : (all : List Begun) (begun : Begun) (total : ℕ) → AllSpent all total → Spent begun.progress 0 → AllSpent (all ++ begun ∷ []) total
  spent_more [] begun total none fresh = (0, 0, fresh, refl, none)
  spent_more (first ∷ others) begun total (n, m, spent, rest, sum) fresh = (n, m, spent, spent_more others begun m rest fresh, sum)

  -- an operation that begins made no call
  pub fresh_spent : (chain : ViewChain) (task : Task) (progress : Progress) → IsFresh chain task progress → Spent progress 0
  fresh_spent chain (Own client draw entry) (InEntry state) fresh = (ask_for entry, chain, [], fresh.0 checks, refl)
  fresh_spent chain (Newest client draw handle nonce) (InNewest state) fresh = (record { handle = handle; nonce = nonce }, chain, [], fresh.0 checks, refl)
  fresh_spent chain (Height client handle height) (InEntry state) fresh = (ReadAt handle height, chain, [], fresh.0 checks, refl)
  fresh_spent chain (Own client draw entry) Closed fresh = absurd fresh
  fresh_spent chain (Own client draw entry) (InNewest state) fresh = absurd fresh
  fresh_spent chain (Newest client draw handle nonce) Closed fresh = absurd fresh
  fresh_spent chain (Newest client draw handle nonce) (InEntry state) fresh = absurd fresh
  fresh_spent chain (Height client handle height) Closed fresh = absurd fresh
  fresh_spent chain (Height client handle height) (InNewest state) fresh = absurd fresh

-- ---- steps and ends

module _ {S C : Type 0} (key : S → List ℕ) (left : S → ℕ) (accepts : C → Accepts) (tells : Cause → ℕ) (weigh : Event → ℕ) (due : LyingStore → CellBank S C → ℕ) (Fits : LyingStore → CellBank S C → Type 0)
    (is : IsMeasure key left accepts tells weigh due Fits) (checks : Accepts) where
  abbrev Held : Type 0
  Held = State LyingStore (CellBank S C) C

  abbrev FallsIn : Held → Held → ℕ → Type 0
  FallsIn old new n = Falls key left accepts tells weigh due Fits old.store old.link new.store new.link n

  abbrev Now : Progress → ℕ → Type 0
  Now progress n = Spent checks weigh progress n

  -- some calls were made, and the operation came so far by them
  pub record Went (before after : Held) (new : Progress) (n : ℕ) : Type 0 where
    pub more : ℕ
    pub falls : FallsIn before after more
    pub now : ℕ
    pub spent : Now new now
    pub sum : now ≡ more + n

  pub steps_went : (before after : Held) (old new : Progress) (k n : ℕ) → Steps lying_view (bank_view key left accepts) before after checks old new k → Fits before.store before.link → Now old n → Went before after new n
  steps_went before after Closed Closed k n steps fits spent =
      subst (λ (x : Held). Went before x Closed n) (sym steps) (record { more = 0; falls = (omega arith, fits); now = n; spent = spent; sum = omega arith })
  steps_went before after (InEntry old) (InEntry new) k n steps fits (ask, from, past, sound, weighs) =
      let events = steps.goes.events in
      let e = weighed_append weigh events past in
      record {
        more = weighed weigh events;
        falls = ran_falls key left accepts tells weigh due Fits is before.store after.store before.link after.link events steps.goes.calls.ran fits;
        now = weighed weigh (events ++ past);
        spent = (ask, from, events ++ past, steps.goes.leads ask from past sound, refl);
        sum = omega (arith, e, weighs);
      }
  steps_went before after (InNewest old) (InNewest new) k n steps fits (ask, from, past, sound, weighs) =
      let events = steps.goes.events in
      let e = weighed_append weigh events past in
      record {
        more = weighed weigh events;
        falls = ran_falls key left accepts tells weigh due Fits is before.store after.store before.link after.link events steps.goes.calls.ran fits;
        now = weighed weigh (events ++ past);
        spent = (ask, from, events ++ past, steps.goes.leads ask from past sound, refl);
        sum = omega (arith, e, weighs);
      }
  steps_went before after Closed (InEntry new) k n steps fits spent = absurd steps
  steps_went before after Closed (InNewest new) k n steps fits spent = absurd steps
  steps_went before after (InEntry old) Closed k n steps fits spent = absurd steps
  steps_went before after (InEntry old) (InNewest new) k n steps fits spent = absurd steps
  steps_went before after (InNewest old) Closed k n steps fits spent = absurd steps
  steps_went before after (InNewest old) (InEntry new) k n steps fits spent = absurd steps

  -- what the answer tells, all calls of the operation weigh
  ends_tell : (progress : Progress) (events : List Event) (answer : ServiceAnswer) (n : ℕ) → Ends checks progress events answer → Now progress n → told_by tells answer ≤ weighed weigh events + n
  ends_tell Closed events answer n ends spent = absurd ends
  ends_tell (InEntry state) events (Refused cause) n ends (ask, from, past, sound, weighs) =
      let ended = ends ask from past sound in
      let less = is.entry checks ask from ended.0 (events ++ past) cause ended.1.says in
      let e = weighed_append weigh events past in
      omega (arith, less, e, weighs)
  ends_tell (InNewest state) events (Refused cause) n ends (ask, from, past, sound, weighs) =
      let ended = ends ask from past sound in
      let less = is.read checks ask ended.0 (events ++ past) cause ended.1.says in
      let e = weighed_append weigh events past in
      omega (arith, less, e, weighs)
  ends_tell progress events answer n ends spent = omega arith

  -- the operation was led to its answer
  pub record Came (before after : Held) (answer : ServiceAnswer) (n : ℕ) : Type 0 where
    pub more : ℕ
    pub falls : FallsIn before after more
    pub tells_less : told_by tells answer ≤ more + n

  pub ends_came : (progress : Progress) (before after : Held) (answer : ServiceAnswer) (n : ℕ) → CameTo lying_view (bank_view key left accepts) before after (λ events. Ends checks progress events answer)
      → Fits before.store before.link → Now progress n → Came before after answer n
  ends_came progress before after answer n came fits spent = record {
    more = weighed weigh came.events;
    falls = ran_falls key left accepts tells weigh due Fits is before.store after.store before.link after.link came.events came.calls.ran fits;
    tells_less = ends_tell progress came.events answer n came.ended spent;
  }
