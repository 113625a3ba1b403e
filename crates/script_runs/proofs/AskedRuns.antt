-- Along a whole run no more is told than lines asked for.
use Rattle.std.proofs.Common.{◌≡◌, ◌⊎◌, ◌+◌, inl, inr, ℕ, Bool, true, false, if◌then◌else◌, List, [], ◌∷◌, Option, Some, None, is_some, refl, sym, ap, subst, arith}
use Rattle.std.specs.Option.{option_map}
use Rattle.blob_store.specs.declared.lying_store.LyingStore.{LyingStore}
use Rattle.blob_store.specs.LyingStore.{held_in, lying_view}
use Rattle.blob_store.specs.MemStore.{itself, never}
use Rattle.fault_script.specs.Command.{Request, Command, Genesis, Plain, Restart, Begin, Step, Finish, Retry, LoseRequest, LoseReply, StoreFail, StoreHide, StoreStale, StoreFork, StoreHonest, RawAppend, RawLatest, RawShow, RawFinalize, Offer, Forge, End}
use Rattle.port.specs.Answer.{Answer}
use Rattle.port.specs.Call.{Call}
use Rattle.port.specs.Cause.{Cause}
use Rattle.port.specs.Contents.{nothing as nothing_stands}
use Rattle.port.specs.Link.{Told}
use Rattle.port.specs.Store.{Truth}
use Rattle.port.specs.Trace.{Event}
use Rattle.view_ledger.specs.Receipts.{Accepts}
use Rattle.endorser_cell.specs.Asking.{AsksRaw}
use Rattle.endorser_cell.specs.CellBank.{CellBank, bank_of, bank_view, has_cell, loses_none, told_of}
use Rattle.endorser_cell.specs.Cells.{cell_of}
use Rattle.endorser_cell.specs.EndorserCell.{EndorserCell}
use Rattle.script_operations.specs.Giving.{NoneReads}
use Rattle.script_operations.specs.Operations.{NoneIsNamed, Operations}
use Rattle.script_world.specs.Carried.{NothingOffered, Offered, ReplyOffered, Retried}
use Rattle.script_world.specs.Raw.{OnlyLink, OnlyStore}
use Rattle.script_world.specs.Running.{Running, acts_of, world_of}
use Rattle.script_runs.specs.AskedFor.{AreAskedFor, LossesWereAskedFor, StoreFaultsWereAskedFor, faults_asked, faults_told, losses_asked, losses_told, told_anew, told_at_once, told_in, told_said}
use Rattle.script_runs.specs.Begins.{Begins}
use Rattle.script_runs.specs.Runs.{DidBegin, DidForge, DidLine, DidOffer, DidRequest, DidRetry, Forges, Runs, client_in}
use Rattle.script_runs.proofs.AskedFacts.{Invariant, IsAsking, Rises, by_link, by_store, restarted, same}
use Rattle.script_runs.proofs.AskedLines.{came_facts, closed, does_then, finish_then, genesis_then, opens_then, retried_then, step_then}
use Rattle.script_runs.proofs.FaultsDue.{ShownLaws, fault_of, faults_asking, faults_measure}
use Rattle.script_runs.proofs.LossesDue.{losses_asking, losses_measure, none_due}
use Rattle.script_runs.proofs.Measured.{IsMeasure}
use Rattle.script_runs.proofs.RoundLosses.{loss_of}
use Rattle.script_runs.proofs.SpentCalls.{AllSpent}

module _ {S C : Type 0} (key : S → List ℕ) (left size : S → ℕ) (signs : S → List ℕ → List ℕ → S → Type 0) (fit : S → C → Type 0) (accepts : C → Accepts) (key_of : ℕ → List ℕ) (left_of : ℕ → ℕ) (checks : Accepts) where
  abbrev Run : Type 0
  Run = Running (CellBank S C) C

  abbrev RunsSo : List Command → Run → Run → List (List ℕ) → Type 0
  RunsSo = Runs key left size signs fit accepts key_of left_of checks

  module _ (tells : Cause → ℕ) (weigh : Event → ℕ) (due : LyingStore → CellBank S C → ℕ) (Fits : LyingStore → CellBank S C → Type 0) (asks : Command → ℕ) (is : IsMeasure key left accepts tells weigh due Fits)
      (asking : IsAsking key left size signs fit accepts checks weigh due Fits asks) where
    abbrev Facts : ℕ → ℕ → Run → Type 0
    Facts told asked run = Invariant key left size signs fit accepts checks weigh due Fits asks told asked run

    module _ (told asked : ℕ) (old new : Run) (said : List (List ℕ)) (invariant : Facts told asked old) where
      -- what is known after a line that tells so much and asks for so much
      abbrev Then : ℕ → ℕ → Type 0
      Then tell more = Facts (told + tell) (asked + more) new

      plain_then : (request : Request) (more : ℕ) (did : DidRequest key left size signs fit accepts checks old new said request)
          → Then (told_at_once tells accepts (bank_view key left accepts) (world_of did.asking) (world_of new) did.place request did.line did.does) more
      plain_then request more did =
          does_then key left size signs fit accepts checks tells weigh due Fits asks is told asked did.asking new
          (came_facts key left size signs fit accepts checks tells weigh due Fits asks is told asked old did.asking (client_in request) did.place did.came invariant)
          more did.place request did.line did.does did.keeps

      begin_then : (op : List ℕ) (request : Request) (more : ℕ) → DidBegin key left size signs fit accepts checks old new said op request → Then 0 more
      begin_then op request more did =
          opens_then key left size signs fit accepts checks tells weigh due Fits asks is told asked did.asking new
          (came_facts key left size signs fit accepts checks tells weigh due Fits asks is told asked old did.asking (client_in request) did.place did.came invariant)
          more did.place op request did.began did.opens

      nothing : (more : ℕ) → new ≡ old → Then 0 more
      nothing = same key left size signs fit accepts checks weigh due Fits asks told asked old new invariant

      retry_then : (op : List ℕ) (more : ℕ) (did : DidRetry key left size signs fit accepts checks old new said op)
          → Then (told_said tells
          (λ line retried. told_anew tells accepts lying_view (bank_view key left accepts) checks op (acts_of old) (acts_of new) old.state new.state retried.begun.task retried.begun.label line retried.asked)
          did.told) more
      retry_then op more did = by did.told
        where
          by : (told_so : ((line : List ℕ) × (said ≡ line ∷ []) × Retried key left accepts checks old new op line) ⊎ ((said ≡ []) × (NoneIsNamed old.operations op × (new ≡ old))))
              → Then (told_said tells
              (λ line retried. told_anew tells accepts lying_view (bank_view key left accepts) checks op (acts_of old) (acts_of new) old.state new.state retried.begun.task retried.begun.label line retried.asked)
              told_so) more
          by (inl (line, says, retried)) =
              retried_then key left size signs fit accepts checks tells weigh due Fits asks is told asked old new invariant op line more retried.begun.task retried.begun.label did.rest did.keeps retried.asked
          by (inr (says, none)) = nothing more none.1

      -- ---- lines that give a client a reply

      offer_then : (op ids : List ℕ) (more : ℕ) → DidOffer key left size signs fit accepts checks old new said op ids → Then 0 more
      offer_then op ids more did = by did.told
        where
          given : (line : List ℕ) (offered : Offered key left accepts checks old new op ids line)
              → NothingOffered key left accepts checks old new op offered.handle offered.nonce ids line ⊎ ReplyOffered key left accepts checks old new op offered.handle offered.nonce ids line → Then 0 more
          given line offered (inl none) =
              closed key left size signs fit accepts checks tells weigh due Fits asks is told asked old new invariant more offered.reading.place _ (inl (ap (λ (r : Run). r.state) none.rest))
              offered.reading.found.is.stands (ap (λ (o : Operations). o.all) (none.closed offered.reading.place _ offered.reading.found)) (ap accepts did.rest.goes.checker)
          given line offered (inr reply) =
              closed key left size signs fit accepts checks tells weigh due Fits asks is told asked old new invariant more reply.given.place reply.given.begun reply.given.learned
              reply.given.found.is.stands (ap (λ (o : Operations). o.all) reply.given.closed) (ap accepts did.rest.goes.checker)

          by : ((line : List ℕ) × (said ≡ line ∷ []) × Offered key left accepts checks old new op ids line) ⊎ ((said ≡ []) × (NoneReads old.operations op × (new ≡ old))) → Then 0 more
          by (inl (line, says, offered)) = given line offered offered.told
          by (inr (says, none)) = nothing more none.1

      forge_then : (op : List ℕ) (count : ℕ) (ids : List ℕ) (more : ℕ) → DidForge key left size signs fit accepts key_of left_of checks old new said op count ids → Then 0 more
      forge_then op count ids more did = by did.told
        where
          by : ((line : List ℕ) × (said ≡ line ∷ []) × Forges key left size signs fit accepts key_of left_of checks old new said op count ids line) ⊎ ((said ≡ []) × (NoneReads old.operations op × (new ≡ old))) → Then 0 more
          by (inl (line, says, forges)) =
              let given = forges.forged.given in
              closed key left size signs fit accepts checks tells weigh due Fits asks is told asked old new invariant more given.place given.begun given.learned
              given.found.is.stands (ap (λ (o : Operations). o.all) given.closed) (ap accepts did.rest.goes.checker)
          by (inr (says, none)) = nothing more none.1

      -- ---- any line

      -- a line that changes the endorsers alone, or the store alone, and adds nothing to what is due
      linked : (more : ℕ) → OnlyLink old new → Rises key left size signs fit accepts checks weigh due Fits asks old.state.store old.state.link old.state.store new.state.link more → Then 0 more
      linked = by_link key left size signs fit accepts checks weigh due Fits asks told asked old new invariant

      stored : (more : ℕ) → OnlyStore old new → Rises key left size signs fit accepts checks weigh due Fits asks old.state.store old.state.link new.state.store old.state.link more → Then 0 more
      stored = by_store key left size signs fit accepts checks weigh due Fits asks told asked old new invariant

      lied : (more : ℕ) → OnlyStore old new → (held_in new.state.store).due ≡ (held_in old.state.store).due → Then 0 more
      lied more rest due_same =
          let rises = asking.lie old.state.link old.state.store new.state.store due_same invariant.fits in
          let less = rises.0 in
          stored more rest (omega (arith, less), rises.1)

      raw : (more id : ℕ) (call : Call) (answer : Answer) → OnlyLink old new → AsksRaw key left size signs fit old.state.link.cells new.state.link.cells old.state.link.log new.state.link.log id call answer → Then 0 more
      raw more id call answer rest asked_so =
          let rises = asking.raw old.state.store old.state.link new.state.link id call answer asked_so invariant.fits in
          let less = rises.0 in
          linked more rest (omega (arith, less), rises.1)

      line_then : (command : Command) (did : DidLine key left size signs fit accepts key_of left_of checks old new said command)
          → Then (told_in key left size signs fit accepts key_of left_of checks tells old new said command did) (asks command)
      line_then (Genesis ids) did = genesis_then key left size signs fit accepts checks tells weigh due Fits asks is told asked old new invariant said ids _ did
      line_then (Plain request) did = plain_then request _ did
      line_then Restart did = restarted key left size signs fit accepts checks weigh due Fits asks told asked old new invariant _ did.0
      line_then (Begin op request) did = begin_then op request _ did
      line_then (Step op n) did = step_then key left size signs fit accepts checks tells weigh due Fits asks is told asked old new invariant said op n _ did
      line_then (Finish op) did = finish_then key left size signs fit accepts checks tells weigh due Fits asks is told asked old new invariant said op _ did
      line_then (Retry op) did = retry_then op _ did
      line_then (LoseRequest id n) did = linked _ did.rest (asking.request old.state.store old.state.link new.state.link id n did.cells invariant.fits)
      line_then (LoseReply id n) did = linked _ did.rest (asking.reply old.state.store old.state.link new.state.link id n did.cells invariant.fits)
      line_then (StoreFail n) did = stored _ did.0.rest (asking.fail old.state.link old.state.store new.state.store n did.0.due invariant.fits)
      line_then (StoreHide label height) did = lied _ did.0.0 did.0.1.due
      line_then (StoreStale label height from) did = lied _ did.0.0 did.0.1.due
      line_then (StoreFork label height) did = lied _ did.0.0 did.0.1.due
      line_then StoreHonest did = lied _ did.0.rest did.0.due
      line_then (RawAppend id label height payload number) did = raw _ id _ did.answers.answered.answer did.rest did.answers.answered.asks
      line_then (RawLatest id label number) did = raw _ id _ did.answers.answer did.rest did.answers.asks
      line_then (RawShow id label) did = raw _ id _ did.answers.answer did.rest did.answers.asks
      line_then (RawFinalize id ids) did = absurd did
      line_then (Offer op ids) did = offer_then op ids _ did
      line_then (Forge op count ids) did = forge_then op count ids _ did
      line_then End did = nothing _ did.0

    asked_run : (told asked : ℕ) (script : List Command) (old new : Run) (printed : List (List ℕ)) → Facts told asked old → (runs : RunsSo script old new printed)
        → AreAskedFor key left size signs fit accepts key_of left_of checks tells asks told asked script old new printed runs
    asked_run told asked [] old new printed invariant runs = tt
    asked_run told asked (command ∷ commands) old new printed invariant (middle, said, rest, did, runs, split) =
        let after = line_then told asked old middle said invariant command did in
        let b = after.bound in
        (omega (arith, b), asked_run (told + told_in key left size signs fit accepts key_of left_of checks tells old middle said command did) (asked + asks command) commands middle new rest after runs)

    -- at first nothing was told, and nothing is due
    unasked : (ids : List ℕ) (first : Run) → Begins key left accepts key_of left_of checks ids first → due first.state.store first.state.link ≡ 0 → Fits first.state.store first.state.link → Facts 0 0 first
    unasked ids first begins none fits = record {
      total = 0;
      spent = subst (λ (o : Operations). AllSpent checks weigh o.all 0) (sym begins.operations) refl;
      fits = fits;
      bound = omega (arith, none);
      checker = begins.checker;
    }

  -- ---- both laws

  has_id : (cells : List (EndorserCell S C)) (id : ℕ) (told : Told) → bank_of key left accepts cells id ≡ Some told → has_cell cells id ≡ true
  has_id cells id told is = by (cell_of cells id) is
    where
      by : (cell : Option (EndorserCell S C)) → option_map (told_of key left accepts) cell ≡ Some told → is_some cell ≡ true
      by None none = absurd (cc none)
      by (Some cell) some = refl

  module _ (script : List Command) (ids : List ℕ) (first last : Run) (printed : List (List ℕ)) (begins : Begins key left accepts key_of left_of checks ids first) (runs : RunsSo script first last printed) where
    pub losses_asked_for : LossesWereAskedFor key left size signs fit accepts key_of left_of checks script first last printed runs
    losses_asked_for id within =
        asked_run (losses_told id) (loss_of id) _ _ (losses_asked id) (losses_measure key left size signs fit accepts id) (losses_asking key left size signs fit accepts id checks) 0 0 script first last printed
        (unasked (losses_told id) (loss_of id) _ _ (losses_asked id) (losses_measure key left size signs fit accepts id) (losses_asking key left size signs fit accepts id checks) ids first begins
        (none_due first.state.link.cells id (lossless (loses_none first.state.link.cells) begins.bank.told))
        (has_id first.state.link.cells id (begins.bank.each id within).told (begins.bank.each id within).known))
        runs
      where
        lossless : (none : Bool) → (if none then Some (bank_of key left accepts first.state.link.cells) else None) ≡ Some (bank_of key left accepts first.state.link.cells) → none ≡ true
        lossless true is = refl
        lossless false is = absurd (cc is)

    pub store_faults_asked_for : ShownLaws → StoreFaultsWereAskedFor key left size signs fit accepts key_of left_of checks script first last printed runs
    store_faults_asked_for laws =
        asked_run faults_told fault_of _ _ faults_asked (faults_measure key left size signs fit accepts checks laws) (faults_asking key left size signs fit accepts checks) 0 0 script first last printed
        (unasked faults_told fault_of _ _ faults_asked (faults_measure key left size signs fit accepts checks laws) (faults_asking key left size signs fit accepts checks) ids first begins none tt)
        runs
      where
        none : (held_in first.state.store).due ≡ 0
        none =
            let empty : Truth = record { contents = nothing_stands; source = itself; forks = never; due = 0 } in
            let same : held_in first.state.store ≡ empty = cc begins.store in
            ap (λ (t : Truth). t.due) same
