-- Lines that make calls: what they tell was due, and falls from it.
use Rattle.std.proofs.Common.{◌≡◌, ◌⊎◌, ◌≤◌, ◌+◌, inl, inr, ℕ, List, [], ◌∷◌, slice_get, slice_set, Option, Some, refl, sym, ap, subst, ◌∙◌, arith}
use Rattle.blob_store.specs.declared.lying_store.LyingStore.{LyingStore}
use Rattle.blob_store.specs.LyingStore.{lying_view}
use Rattle.chain_block.specs.declared.entry.Entry.{Entry}
use Rattle.chain_block.specs.declared.entry.Entry.TheVariants as entries
use Rattle.fault_script.specs.Command.{Command, Request}
use Rattle.fault_script.specs.Command as requests
use Rattle.port.specs.Cause.{Cause}
use Rattle.port.specs.Service.{Append, At, Latest, NewLedger, ServiceAnswer, ServiceCall, Views}
use Rattle.port.specs.Trace.{Event}
use Rattle.view_ledger.specs.Receipts.{Accepts}
use Rattle.view_ledger.specs.Views.{ViewChain}
use Rattle.client_pass.specs.Act.{Act}
use Rattle.endorser_cell.specs.CellBank.{CellBank, bank_view}
use Rattle.coordinator.specs.Says.{coordinator_says}
use Rattle.coordinator.specs.State.{State}
use Rattle.answer_lines.specs.Asking.{call_for}
use Rattle.answer_lines.specs.Giving.{OnlyLearned}
use Rattle.answer_lines.specs.Taken.{Sides}
use Rattle.script_operations.specs.Ending.{CameTo, Ends}
use Rattle.script_operations.specs.Giving.{Asks}
use Rattle.script_operations.specs.Operations.{Begun, Closed, HasBegun, NoneIsOpen, Operations, at_progress}
use Rattle.script_operations.specs.Stepping.{Steps}
use Rattle.script_operations.specs.Task.{Height, Newest, Own, Task, call_of}
use Rattle.script_world.specs.Carried.{CameAs, Finished, KeepsNames, Stepped}
use Rattle.script_world.specs.Lines.{Asked, ClientCame}
use Rattle.script_world.specs.Running.{Running, acts_of, world_of}
use Rattle.script_world.specs.World.{World}
use Rattle.script_runs.specs.AskedFor.{told_anew, told_at_once, told_by, told_first, told_said}
use Rattle.script_runs.specs.Runs.{Began, DidFinish, DidGenesis, DidStep, Does, GoesWithin, Opens}
use Rattle.script_runs.proofs.AskedFacts.{After, Invariant, same, went}
use Rattle.script_runs.proofs.Measured.{AsksRows, Falls, IsMeasure, first_falls, learned_falls, next_falls, says_falls}
use Rattle.script_runs.proofs.SpentCalls.{AllSpent, ends_came, fresh_spent, spent_at, spent_more, steps_went}

-- a task asks for no views
rows_of : (task : Task) → AsksRows (call_of task)
rows_of (Own client draw entry) = by entry
  where
    by : (entry : Entry) → AsksRows (call_for entry)
    by (entries.Genesis nonce payload) = tt
    by (entries.Later handle height nonce payload) = tt
rows_of (Newest client draw handle nonce) = tt
rows_of (Height client handle height) = tt

module _ {S C : Type 0} (key : S → List ℕ) (left size : S → ℕ) (signs : S → List ℕ → List ℕ → S → Type 0) (fit : S → C → Type 0) (accepts : C → Accepts) (checks : Accepts)
    (tells : Cause → ℕ) (weigh : Event → ℕ) (due : LyingStore → CellBank S C → ℕ) (Fits : LyingStore → CellBank S C → Type 0) (asks : Command → ℕ) (is : IsMeasure key left accepts tells weigh due Fits) where
  abbrev Run : Type 0
  Run = Running (CellBank S C) C

  abbrev Held : Type 0
  Held = State LyingStore (CellBank S C) C

  abbrev Facts : ℕ → ℕ → Run → Type 0
  Facts told asked run = Invariant key left size signs fit accepts checks weigh due Fits asks told asked run

  -- ---- the checker stays

  says_checker : (call : ServiceCall) (old new : Held) (answer : ServiceAnswer) → coordinator_says accepts lying_view (bank_view key left accepts) old new call answer → new.checker ≡ old.checker
  says_checker (NewLedger nonce payload) old new answer says = says.checker
  says_checker (Append handle height nonce payload) old new answer says = says.checker
  says_checker (Latest handle nonce) old new answer says = says.checker
  says_checker (At handle height) old new answer says = says.checker
  says_checker (Views number) old new answer says = says.checker

  learned_checker : (old new : Held) → OnlyLearned accepts lying_view (bank_view key left accepts) old new → new.checker ≡ old.checker
  learned_checker old new (inl same) = ap (λ (s : Held). s.checker) same
  learned_checker old new (inr (number, answer, says)) = says.checker

  -- ---- a client that came

  came_state : (old asking : Run) (place : ℕ) → ClientCame accepts checks (world_of old) (world_of asking) place → asking.state ≡ old.state
  came_state old asking place (inl (same, within)) = ap (λ w. w.state) same
  came_state old asking place (inr (more, at)) = more.state

  pub came_facts : (told asked : ℕ) (old asking : Run) (name : List ℕ) (place : ℕ) → CameAs accepts checks old asking name place → Facts told asked old → Facts told asked asking
  came_facts told asked old asking name place came invariant =
      let state = came_state old asking place came.came in
      let d : due asking.state.store asking.state.link ≡ due old.state.store old.state.link = ap (λ (s : Held). due s.store s.link) state in
      let b = invariant.bound in
      record {
        total = invariant.total;
        spent = subst (λ (o : Operations). AllSpent checks weigh o.all invariant.total) (sym came.operations) invariant.spent;
        fits = subst (λ (s : Held). Fits s.store s.link) (sym state) invariant.fits;
        bound = omega (arith, b, d);
        checker = ap (λ (s : Held). accepts s.checker) state ∙ invariant.checker;
      }

  module _ (told asked : ℕ) (old new : Run) (invariant : Facts told asked old) where
    abbrev Then : ℕ → ℕ → Type 0
    Then tell more = After key left size signs fit accepts checks weigh due Fits asks told asked old new invariant tell more

    goes : (tell more total : ℕ) → AllSpent checks weigh new.operations.all total → Fits new.state.store new.state.link → accepts new.state.checker ≡ accepts old.state.checker
        → tell + total + due new.state.store new.state.link ≤ invariant.total + due old.state.store old.state.link + more → Then tell more
    goes = went key left size signs fit accepts checks weigh due Fits asks told asked old new invariant

    nothing : (more : ℕ) → new ≡ old → Then 0 more
    nothing = same key left size signs fit accepts checks weigh due Fits asks told asked old new invariant

    -- what was due fell by what is told, and the operations are as they were
    fell : (tell more : ℕ) → new.operations.all ≡ old.operations.all → Falls key left accepts tells weigh due Fits old.state.store old.state.link new.state.store new.state.link tell
        → accepts new.state.checker ≡ accepts old.state.checker → Then tell more
    fell tell more all falls checker =
        let f = falls.0 in
        goes tell more invariant.total (subst (λ (a : List Begun). AllSpent checks weigh a invariant.total) (sym all) invariant.spent) falls.1 checker (omega (arith, f))

    -- views alone were asked for, and an operation was closed
    pub closed : (more place : ℕ) (begun : Begun) → OnlyLearned accepts lying_view (bank_view key left accepts) old.state new.state → slice_get old.operations.all place ≡ Some begun
        → new.operations.all ≡ slice_set old.operations.all place (at_progress begun Closed) → accepts new.state.checker ≡ accepts old.state.checker → Then 0 more
    closed more place begun learned stood is_closed checker =
        let at = spent_at checks weigh old.operations.all place begun invariant.total stood invariant.spent in
        let falls = learned_falls key left accepts tells weigh due Fits is old.state new.state learned invariant.fits in
        let f = falls.0 in
        let s = at.sum in
        goes 0 more (0 + at.rest) (subst (λ (a : List Begun). AllSpent checks weigh a (0 + at.rest)) (sym is_closed) (at.with_other Closed 0 refl)) falls.1 checker (omega (arith, f, s))

    -- ---- each of these lines

    pub genesis_then : (said : List (List ℕ)) (ids : List ℕ) (more : ℕ) (did : DidGenesis key left size signs fit accepts checks old new said ids) → Then (told_first tells did.answer) more
    genesis_then said ids more did =
        fell (told_first tells did.answer) more (ap (λ (r : Run). r.operations.all) did.others)
        (first_falls key left accepts tells weigh due Fits is old.state new.state did.answer did.says invariant.fits) (ap accepts did.says.served.checker)

    asked_then : (more place : ℕ) (draw : Option Act) (call : ServiceCall) (took : Accepts → Sides LyingStore (CellBank S C) C → ServiceAnswer → Type 0)
        (asked : Asked accepts (bank_view key left accepts) (world_of old) (world_of new) place draw call took) → AsksRows call → KeepsNames old new → Then (told_by tells asked.answer) more
    asked_then more place draw call took asked rows keeps =
        let first = says_falls key left accepts tells weigh due Fits is call old.state asked.middle asked.answer rows asked.says invariant.fits in
        let next = learned_falls key left accepts tells weigh due Fits is asked.middle new.state asked.learned first.1 in
        fell (told_by tells asked.answer) more (ap (λ (o : Operations). o.all) keeps.operations)
        (next_falls key left accepts tells weigh due Fits is old.state.store asked.middle.store new.state.store old.state.link asked.middle.link new.state.link (told_by tells asked.answer) first next)
        (ap accepts (learned_checker asked.middle new.state asked.learned ∙ says_checker call old.state asked.middle asked.answer asked.says))

    pub does_then : (more place : ℕ) (request : Request) (line : List ℕ) (does : Does accepts (bank_view key left accepts) (world_of old) (world_of new) place request line) → KeepsNames old new
        → Then (told_at_once tells accepts (bank_view key left accepts) (world_of old) (world_of new) place request line does) more
    does_then more place (requests.New client label payload) line does keeps = asked_then more place _ _ _ does.asked tt keeps
    does_then more place (requests.Append client label height payload) line does keeps = asked_then more place _ _ _ does.asked tt keeps
    does_then more place (requests.Latest client label) line does keeps = asked_then more place _ _ _ does.asked tt keeps
    does_then more place (requests.At client label height) line does keeps = asked_then more place _ _ _ does.asked tt keeps
    does_then more place (requests.Reconfigure ids) line does keeps = absurd does

    begun_then : (more : ℕ) (op : List ℕ) (task : Task) (label : List ℕ) (chain : ViewChain) → HasBegun old.operations new.operations op task label chain → new.state ≡ old.state → Then 0 more
    begun_then more op task label chain begun state =
        let d : due new.state.store new.state.link ≡ due old.state.store old.state.link = ap (λ (s : Held). due s.store s.link) state in
        goes 0 more invariant.total
        (subst (λ (a : List Begun). AllSpent checks weigh a invariant.total) (sym begun.more.all) (spent_more checks weigh old.operations.all _ invariant.total invariant.spent (fresh_spent checks weigh chain task begun.progress begun.fresh)))
        (subst (λ (s : Held). Fits s.store s.link) (sym state) invariant.fits) (ap (λ (s : Held). accepts s.checker) state) (omega (arith, d))

    pub opens_then : (more place : ℕ) (op : List ℕ) (request : Request) → Began (world_of old) (world_of new) place request → Opens old new place op request → Then 0 more
    opens_then more place op (requests.New client label payload) began (draw, drew, opened) = begun_then more op _ label old.state.chain opened.begun began.drew.state
    opens_then more place op (requests.Append client label height payload) began (draw, drew, opened) = begun_then more op _ label old.state.chain opened.begun began.drew.state
    opens_then more place op (requests.Latest client label) began (draw, drew, opened) = begun_then more op _ label old.state.chain opened.begun began.drew.state
    opens_then more place op (requests.At client label height) began opened = begun_then more op _ label old.state.chain opened.begun (ap (λ (w : World (CellBank S C) C). w.state) began)
    opens_then more place op (requests.Reconfigure ids) began opens = absurd opens

    pub step_then : (said : List (List ℕ)) (op : List ℕ) (n more : ℕ) → DidStep key left size signs fit accepts checks old new said op n → Then 0 more
    step_then said op n more did = by did.stepped
      where
        by : Stepped key left accepts checks old new op n → Then 0 more
        by (inr (none, operations, state)) =
            let d : due new.state.store new.state.link ≡ due old.state.store old.state.link = ap (λ (s : Held). due s.store s.link) state in
            fell 0 more (ap (λ (o : Operations). o.all) operations) (omega (arith, d), subst (λ (s : Held). Fits s.store s.link) (sym state) invariant.fits) (ap (λ (s : Held). accepts s.checker) state)
        by (inl stepped) =
            let at = spent_at checks weigh old.operations.all stepped.place stepped.begun invariant.total stepped.found.is.stands invariant.spent in
            let steps = subst (λ (a : Accepts). Steps lying_view (bank_view key left accepts) old.state new.state a stepped.begun.progress stepped.progress n) invariant.checker stepped.steps in
            let w = steps_went key left accepts tells weigh due Fits is checks old.state new.state stepped.begun.progress stepped.progress n at.n steps invariant.fits at.spent in
            let f = w.falls.0 in
            let s = at.sum in
            let m = w.sum in
            goes 0 more (w.now + at.rest)
            (subst (λ (a : List Begun). AllSpent checks weigh a (w.now + at.rest)) (sym (ap (λ (o : Operations). o.all) stepped.stands)) (at.with_other stepped.progress w.now w.spent))
            w.falls.1 (ap accepts did.goes.checker) (omega (arith, f, s, m))

    finished_then : (op line : List ℕ) (more : ℕ) → GoesWithin old new → (finished : Finished key left accepts checks old new op line) → Then (told_by tells finished.end.answer) more
    finished_then op line more rest finished =
        let begun = finished.begun in
        let end = finished.end in
        let at = spent_at checks weigh old.operations.all finished.place begun invariant.total finished.found.is.stands invariant.spent in
        let came = subst (λ (a : Accepts). CameTo lying_view (bank_view key left accepts) old.state end.middle (λ events. Ends a begun.progress events end.answer)) invariant.checker end.came in
        let c = ends_came key left accepts tells weigh due Fits is checks begun.progress old.state end.middle end.answer at.n came invariant.fits at.spent in
        let next = learned_falls key left accepts tells weigh due Fits is end.middle new.state end.learned c.falls.1 in
        let a = c.falls.0 in
        let b = next.0 in
        let s = at.sum in
        let t = c.tells_less in
        goes (told_by tells end.answer) more (0 + at.rest)
        (subst (λ (x : List Begun). AllSpent checks weigh x (0 + at.rest)) (sym (ap (λ (o : Operations). o.all) finished.closed)) (at.with_other Closed 0 refl))
        next.1 (ap accepts rest.goes.checker) (omega (arith, a, b, s, t))

    pub finish_then : (said : List (List ℕ)) (op : List ℕ) (more : ℕ) (did : DidFinish key left size signs fit accepts checks old new said op)
        → Then (told_said tells (λ line finished. told_by tells finished.end.answer) did.told) more
    finish_then said op more did = by did.told
      where
        by : (told : ((line : List ℕ) × (said ≡ line ∷ []) × Finished key left accepts checks old new op line) ⊎ ((said ≡ []) × (NoneIsOpen old.operations op × (new ≡ old))))
            → Then (told_said tells (λ line finished. told_by tells finished.end.answer) told) more
        by (inl (line, says, finished)) = finished_then op line more did.rest finished
        by (inr (says, none)) = nothing more none.1

    pub retried_then : (op line : List ℕ) (more : ℕ) (task : Task) (label : List ℕ) → GoesWithin old new → KeepsNames old new
        → (asked : Asks accepts lying_view (bank_view key left accepts) checks op (acts_of old) (acts_of new) old.state new.state task label line)
        → Then (told_anew tells accepts lying_view (bank_view key left accepts) checks op (acts_of old) (acts_of new) old.state new.state task label line asked) more
    retried_then op line more task label rest keeps (inl done) =
        let state = done.quiet in
        let d : due new.state.store new.state.link ≡ due old.state.store old.state.link = ap (λ (s : Held). due s.store s.link) state in
        fell 0 more (ap (λ (o : Operations). o.all) keeps.operations) (omega (arith, d), subst (λ (s : Held). Fits s.store s.link) (sym state) invariant.fits) (ap accepts rest.goes.checker)
    retried_then op line more task label rest keeps (inr anew) =
        let first = says_falls key left accepts tells weigh due Fits is (call_of task) old.state anew.middle anew.answer (rows_of task) anew.says invariant.fits in
        let next = learned_falls key left accepts tells weigh due Fits is anew.middle new.state anew.learned first.1 in
        fell (told_by tells anew.answer) more (ap (λ (o : Operations). o.all) keeps.operations)
        (next_falls key left accepts tells weigh due Fits is old.state.store anew.middle.store new.state.store old.state.link anew.middle.link new.state.link (told_by tells anew.answer) first next)
        (ap accepts rest.goes.checker)
