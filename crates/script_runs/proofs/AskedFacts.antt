-- What was told and what is due, between the lines of a run; and lines that make no call over the link.
use Rattle.std.proofs.Common.{◌≡◌, ◌≤◌, ◌+◌, ◌-◌, ◌^◌, ℕ, min, List, sym, ap, subst, ◌∙◌, arith}
use Rattle.blob_store.specs.declared.lying_store.LyingStore.{LyingStore}
use Rattle.blob_store.specs.LyingStore.{held_in, lying_view}
use Rattle.fault_script.specs.Command.{Command, LoseReply, LoseRequest, StoreFail}
use Rattle.port.specs.Answer.{Answer}
use Rattle.port.specs.Call.{Call}
use Rattle.port.specs.Trace.{Event}
use Rattle.view_ledger.specs.Receipts.{Accepts}
use Rattle.endorser_cell.specs.Asking.{AsksRaw, LosesMore}
use Rattle.endorser_cell.specs.CellBank.{CellBank}
use Rattle.endorser_cell.specs.declared.losses.Loss.TheVariants as losses
use Rattle.coordinator.specs.State.{State}
use Rattle.script_operations.specs.Operations.{Begun, Operations}
use Rattle.script_world.specs.Raw.{OnlyLink, OnlyStore}
use Rattle.script_world.specs.Running.{Running}
use Rattle.script_runs.specs.Runs.{DidRestart}
use Rattle.script_runs.proofs.SpentCalls.{AllSpent}

module _ {S C : Type 0} (key : S → List ℕ) (left size : S → ℕ) (signs : S → List ℕ → List ℕ → S → Type 0) (fit : S → C → Type 0) (accepts : C → Accepts) (checks : Accepts)
    (weigh : Event → ℕ) (due : LyingStore → CellBank S C → ℕ) (Fits : LyingStore → CellBank S C → Type 0) (asks : Command → ℕ) where
  abbrev Run : Type 0
  Run = Running (CellBank S C) C

  -- so much more is due at most
  abbrev pub Rises : LyingStore → CellBank S C → LyingStore → CellBank S C → ℕ → Type 0
  Rises s l s' l' n = (due s' l' ≤ due s l + n) × Fits s' l'

  -- Lines that ask for losses or failures add what they ask for to what is due, and other lines that make no call over the link add nothing.
  pub record IsAsking : Type 0 where
    pub request : (s : LyingStore) (old new : CellBank S C) (id n : ℕ) → LosesMore old.cells new.cells id losses.Request n → Fits s old → Rises s old s new (asks (LoseRequest id n))
    pub reply : (s : LyingStore) (old new : CellBank S C) (id n : ℕ) → LosesMore old.cells new.cells id losses.Reply n → Fits s old → Rises s old s new (asks (LoseReply id n))
    pub raw : (s : LyingStore) (old new : CellBank S C) (id : ℕ) (call : Call) (answer : Answer) → AsksRaw key left size signs fit old.cells new.cells old.log new.log id call answer → Fits s old → Rises s old s new 0
    pub fail : (l : CellBank S C) (old new : LyingStore) (n : ℕ) → (held_in new).due ≡ min ((held_in old).due + n) (2 ^ 64 - 1 - (lying_view old).faults) → Fits old l → Rises old l new l (asks (StoreFail n))
    pub lie : (l : CellBank S C) (old new : LyingStore) → (held_in new).due ≡ (held_in old).due → Fits old l → Rises old l new l 0

  -- What was told, what the calls of all operations weigh so far, and what is due are together no more than what was asked for.
  pub record Invariant (told asked : ℕ) (run : Run) : Type 0 where
    pub total : ℕ
    pub spent : AllSpent checks weigh run.operations.all total
    pub fits : Fits run.state.store run.state.link
    pub bound : told + total + due run.state.store run.state.link ≤ asked
    pub checker : accepts run.state.checker ≡ checks

  module _ (told asked : ℕ) (old new : Run) (invariant : Invariant told asked old) where
    abbrev pub After : ℕ → ℕ → Type 0
    After tell more = Invariant (told + tell) (asked + more) new

    -- so much was told, and the operations and what is due changed so
    pub went : (tell more total : ℕ) → AllSpent checks weigh new.operations.all total → Fits new.state.store new.state.link → accepts new.state.checker ≡ accepts old.state.checker
        → tell + total + due new.state.store new.state.link ≤ invariant.total + due old.state.store old.state.link + more → After tell more
    went tell more total spent fits checker less =
        let b = invariant.bound in
        record { total = total; spent = spent; fits = fits; bound = omega (arith, b, less); checker = checker ∙ invariant.checker }

    -- the operations are as they were
    pub rose : (more : ℕ) → new.operations.all ≡ old.operations.all → Rises old.state.store old.state.link new.state.store new.state.link more → accepts new.state.checker ≡ accepts old.state.checker → After 0 more
    rose more all rises checker =
        let r = rises.0 in
        went 0 more invariant.total (subst (λ (a : List Begun). AllSpent checks weigh a invariant.total) (sym all) invariant.spent) rises.1 checker (omega (arith, r))

    -- nothing was done
    pub same : (more : ℕ) → new ≡ old → After 0 more
    same more is =
        let s = ap (λ (r : Run). r.state.store) is in
        let l = ap (λ (r : Run). r.state.link) is in
        let d : due new.state.store new.state.link ≡ due old.state.store old.state.link = ap (λ (r : Run). due r.state.store r.state.link) is in
        rose more (ap (λ (r : Run). r.operations.all) is) (omega (arith, d), subst (λ (r : Run). Fits r.state.store r.state.link) (sym is) invariant.fits) (ap (λ (r : Run). accepts r.state.checker) is)

    pub by_link : (more : ℕ) → OnlyLink old new → Rises old.state.store old.state.link old.state.store new.state.link more → After 0 more
    by_link more rest rises =
        let s : new.state.store ≡ old.state.store = ap (λ (r : Run). r.state.store) rest in
        rose more (ap (λ (r : Run). r.operations.all) rest) (subst (λ (x : LyingStore). Rises old.state.store old.state.link x new.state.link more) (sym s) rises) (ap (λ (r : Run). accepts r.state.checker) rest)

    pub by_store : (more : ℕ) → OnlyStore old new → Rises old.state.store old.state.link new.state.store old.state.link more → After 0 more
    by_store more rest rises =
        let l : new.state.link ≡ old.state.link = ap (λ (r : Run). r.state.link) rest in
        rose more (ap (λ (r : Run). r.operations.all) rest) (subst (λ (x : CellBank S C). Rises old.state.store old.state.link new.state.store x more) (sym l) rises) (ap (λ (r : Run). accepts r.state.checker) rest)

    -- a coordinator over view 0, with the same store and link; the calls of operations that were closed count on
    pub restarted : (more : ℕ) → DidRestart old new → After 0 more
    restarted more did =
        let s : new.state.store ≡ old.state.store = ap (λ (x : State LyingStore (CellBank S C) C). x.store) did.restarted.state in
        let l : new.state.link ≡ old.state.link = ap (λ (x : State LyingStore (CellBank S C) C). x.link) did.restarted.state in
        rose more (ap (λ (o : Operations). o.all) did.closed)
        (subst (λ (x : LyingStore). Rises old.state.store old.state.link x new.state.link more) (sym s)
        (subst (λ (x : CellBank S C). Rises old.state.store old.state.link old.state.store x more) (sym l) (omega arith, invariant.fits)))
        (ap (λ (x : State LyingStore (CellBank S C) C). accepts x.checker) did.restarted.state)
