-- Each line of a script adds its own calls to those that were served, and so the rules hold of the whole run.
use Rattle.std.proofs.Common.{◌≡◌, ◌⊎◌, inl, inr, ℕ, List, [], ◌∷◌, ◌++◌, length, Some, refl, sym, ap, subst, ◌∙◌}
use Rattle.blob_store.specs.declared.lying_store.LyingStore.{LyingStore}
use Rattle.blob_store.specs.LyingStore.{held_in}
use Rattle.blob_store.specs.MemStore.{itself, never}
use Rattle.chain_block.specs.declared.entry.Entry.{Entry}
use Rattle.fault_script.specs.Command.{Request, Command, Genesis, Plain, Restart, Begin, Step, Finish, Retry, LoseRequest, LoseReply, StoreFail, StoreHide, StoreStale, StoreFork, StoreHonest, RawAppend, RawLatest, RawShow, RawFinalize, Offer, Forge, End}
use Rattle.fault_script.specs.Command as requests
use Rattle.fault_script.specs.Within.{IsRequestWithin}
use Rattle.port.specs.declared.key.Key.{Key}
use Rattle.port.specs.declared.key.Key.TheVariants.{Row}
use Rattle.port.specs.Call.{Append, Call}
use Rattle.port.specs.Contents.{Contents, nothing as nothing_stands}
use Rattle.port.specs.Link.{Served as ServedCall}
use Rattle.port.specs.Row.{Content}
use Rattle.port.specs.Store.{Truth}
use Rattle.port.specs.Stored.{Stored}
use Rattle.view_ledger.specs.Receipts.{Accepts}
use Rattle.view_ledger.specs.Views.{ViewChain}
use Rattle.endorser_cell.specs.BankLine.{served_by}
use Rattle.endorser_cell.specs.CellBank.{CellBank}
use Rattle.coordinator.specs.State.{State}
use Rattle.script_operations.specs.Giving.{NoneReads}
use Rattle.script_operations.specs.Operations.{HasBegun, Operations}
use Rattle.script_operations.specs.Task.{Task}
use Rattle.script_world.specs.Carried.{NothingOffered, Offered, ReplyOffered}
use Rattle.script_world.specs.Labels.{Labels, handle_for}
use Rattle.script_world.specs.Nonce.{nonce}
use Rattle.script_world.specs.Running.{AreTurnsCounted, Running, world_of}
use Rattle.script_world.specs.World.{World}
use Rattle.script_runs.specs.Begins.{Begins}
use Rattle.script_runs.specs.CallRules.{AllAlike, AppendedOnce, AreAlike, EntriesWereDrawn, IsForked, IsSameAppend, OthersAreOwn, forks_by, outside}
use Rattle.script_runs.specs.OwnCalls.{WasDrawn, is_raw, served_in}
use Rattle.statement.specs.Config.{ids as ids_of}
use Rattle.script_runs.specs.Roster.{all_members}
use Rattle.script_runs.specs.Stamps.{AllInOrder}
use Rattle.script_runs.specs.Runs.{AllCanRun, Began, CanRun, DidBegin, DidForge, DidLine, DidOffer, Forges, Opens, Runs, client_in}
use Rattle.script_runs.proofs.AskingLines.{came_facts, came_state, finish_did, genesis_did, learned_did, plain_did, retry_did, step_did}
use Rattle.script_runs.proofs.CoordinatorCalls.{IsOwnTask, OwnLaws}
use Rattle.script_runs.proofs.DrawnEntries.{HandlesFit, first_stored, grow_on, handle_size, handles_with, later_stored}
use Rattle.script_runs.proofs.InOrder.{in_order, none_counted, upto_now}
use Rattle.script_runs.proofs.KeptCalls.{all_append, all_lift}
use Rattle.script_runs.proofs.LineTurns.{line_counted, line_wrote}
use Rattle.script_runs.proofs.Ordered.{AllUpto}
use Rattle.script_runs.proofs.LinkCalls.{AllOf}
use Rattle.script_runs.proofs.OpenCalls.{AllGo, IsGoing, going_fresh}
use Rattle.script_runs.proofs.RunFacts.{Did, HeldCall, Invariant}
use Rattle.script_runs.proofs.StandingRows.{IsHeld, OneRow, StandsAs}
use Rattle.script_runs.proofs.StillLines.{Still, fail_did, fork_did, hide_did, honest_did, lose_did, raw_append_did, raw_latest_did, raw_show_did, restart_did, same_did, stale_did, still_did}

-- ---- two appends of one row

module _ (law : OneRow) (drawn : Entry → Type 0) (forked : List Key) (contents : Contents) where
  both_stand : (handle prev entry tail digest : List ℕ) (height : ℕ) → StandsAs contents handle prev entry height → StandsAs contents handle tail digest height → (tail ≡ prev) × (digest ≡ entry)
  both_stand handle prev entry tail digest height (row, body, (stored, stood, is), good, p, e) (other, text, (found, there, same), fine, t, d) =
      let equal : Some stored ≡ Some found = sym stood ∙ there in
      let content : stored ≡ found = cc equal in
      let bytes : body ≡ text = sym is ∙ ap (λ (s : Stored). s.body) content ∙ same in
      let rows : row ≡ other = law row other good.whole fine.whole (sym good.written ∙ bytes ∙ fine.written) in
      (t ∙ ap (λ (r : Content). r.metablock.prev) (sym rows) ∙ sym p, d ∙ ap (λ (r : Content). r.metablock.entry) (sym rows) ∙ sym e)

  held_alike : (handle prev entry ledger tail digest : List ℕ) (height k : ℕ) → IsHeld drawn forked contents handle prev entry height → IsHeld drawn forked contents ledger tail digest k
      → ledger ≡ handle → k ≡ height → IsForked forked (Row handle height) ⊎ ((tail ≡ prev) × (digest ≡ entry))
  held_alike handle prev entry ledger tail digest height k one other h n =
      by one.1 (subst (λ (x : ℕ). IsHeld drawn forked contents handle tail digest x) n (subst (λ (x : List ℕ). IsHeld drawn forked contents x tail digest k) h other)).1
    where
      by : IsForked forked (Row handle height) ⊎ StandsAs contents handle prev entry height → IsForked forked (Row handle height) ⊎ StandsAs contents handle tail digest height
          → IsForked forked (Row handle height) ⊎ ((tail ≡ prev) × (digest ≡ entry))
      by (inl is) second = inl is
      by (inr stands) (inl is) = inl is
      by (inr stands) (inr stood) = inr (both_stand handle prev entry tail digest height stands stood)

  alike_to : (handle prev entry : List ℕ) (height : ℕ) → IsHeld drawn forked contents handle prev entry height → (other : Call) → HeldCall drawn forked contents other → IsSameAppend forked handle prev entry height other
  alike_to handle prev entry height held (Append ledger tail digest k) other = held_alike handle prev entry ledger tail digest height k held other
  alike_to handle prev entry height held other is = tt

  alike : (one other : Call) → HeldCall drawn forked contents one → HeldCall drawn forked contents other → AreAlike forked one other
  alike (Append handle prev entry height) other held is = alike_to handle prev entry height held other is
  alike one other held is = tt

  all_alike : (calls : List ServedCall) → AllOf (HeldCall drawn forked contents) calls → AllAlike forked calls
  all_alike calls held =
      all_lift _ _ (λ (one : ServedCall) h. all_lift _ _ (λ (other : ServedCall) g. alike one.call other.call h g) calls held) calls held

module _ {S C : Type 0} (key : S → List ℕ) (left size : S → ℕ) (signs : S → List ℕ → List ℕ → S → Type 0) (fit : S → C → Type 0) (accepts : C → Accepts) (key_of : ℕ → List ℕ) (left_of : ℕ → ℕ) (checks : Accepts)
    (laws : OwnLaws) where
  abbrev Run : Type 0
  Run = Running (CellBank S C) C

  -- ---- operations that are begun

  began_state : (asking new : Run) (place : ℕ) (request : Request) → Began (world_of asking) (world_of new) place request → new.state ≡ asking.state
  began_state asking new place (requests.New client label payload) began = began.drew.state
  began_state asking new place (requests.Append client label height payload) began = began.drew.state
  began_state asking new place (requests.Latest client label) began = began.drew.state
  began_state asking new place (requests.At client label height) began = ap (λ (w : World (CellBank S C) C). w.state) began
  began_state asking new place (requests.Reconfigure ids) began = absurd began

  began_handles : (asking new : Run) (place : ℕ) (request : Request) → Began (world_of asking) (world_of new) place request → HandlesFit (world_of asking).labels → HandlesFit (world_of new).labels
  began_handles asking new place (requests.New client label payload) began fits = handles_with (world_of asking).labels (world_of new).labels label (nonce asking.draws) payload began.labels fits
  began_handles asking new place (requests.Append client label height payload) began fits = subst HandlesFit (sym began.labels) fits
  began_handles asking new place (requests.Latest client label) began fits = subst HandlesFit (sym began.labels) fits
  began_handles asking new place (requests.At client label height) began fits = subst HandlesFit (sym (ap (λ (w : World (CellBank S C) C). w.labels) began)) fits
  began_handles asking new place (requests.Reconfigure ids) began fits = absurd began

  begun_more : (drawn : Entry → Type 0) (forked : List Key) (contents : Contents) (was now : Operations) (op : List ℕ) (task : Task) (label : List ℕ) (chain : ViewChain) → HasBegun was now op task label chain
      → IsOwnTask drawn task → AllGo checks drawn forked contents was.all → AllGo checks drawn forked contents now.all
  begun_more drawn forked contents was now op task label chain begun own going =
      subst (AllGo checks drawn forked contents) (sym begun.more.all)
      (all_append (IsGoing checks drawn forked contents) was.all _ going (going_fresh checks drawn forked contents chain task begun.progress label begun.fresh own, tt))

  opens_more : (forked : List Key) (contents : Contents) (asking new : Run) (place : ℕ) (op : List ℕ) (request : Request) → IsRequestWithin request → HandlesFit (world_of asking).labels → Opens asking new place op request
      → AllGo checks (WasDrawn new.clients) forked contents asking.operations.all → AllGo checks (WasDrawn new.clients) forked contents new.operations.all
  opens_more forked contents asking new place op (requests.New client label payload) within fits (draw, drew, opened) =
      begun_more (WasDrawn new.clients) forked contents asking.operations new.operations op _ label asking.state.chain opened.begun (first_stored asking.draws payload within, (place, draw, drew))
  opens_more forked contents asking new place op (requests.Append client label height payload) within fits (draw, drew, opened) =
      begun_more (WasDrawn new.clients) forked contents asking.operations new.operations op _ label asking.state.chain opened.begun
      (later_stored (handle_for (world_of asking).labels label) height asking.draws payload (handle_size (world_of asking).labels label fits) within.0.0 within.0.1 within.1, (place, draw, drew))
  opens_more forked contents asking new place op (requests.Latest client label) within fits (draw, drew, opened) =
      begun_more (WasDrawn new.clients) forked contents asking.operations new.operations op _ label asking.state.chain opened.begun tt
  opens_more forked contents asking new place op (requests.At client label height) within fits opened =
      begun_more (WasDrawn new.clients) forked contents asking.operations new.operations op _ label asking.state.chain opened.begun tt
  opens_more forked contents asking new place op (requests.Reconfigure ids) within fits opens = absurd opens

  module _ (forked : List Key) (earlier : List ServedCall) (old new : Run) (said : List (List ℕ)) (invariant : Invariant key left accepts checks forked earlier old) where
    abbrev After : Command → Type 0
    After command = Did key left accepts checks forked earlier command old new

    begin_did : (op : List ℕ) (request : Request) → IsRequestWithin request → DidBegin key left size signs fit accepts checks old new said op request → After (Begin op request)
    begin_did op request within did =
        let asking = did.asking in
        let same = came_state key left accepts checks laws old asking did.place did.came.came in
        let asked = came_facts key left accepts checks laws forked earlier old asking (client_in request) did.place did.came invariant in
        let state = began_state asking new did.place request did.began in
        let still : Still key left accepts checks forked forked asking new = record {
          clients = grow_on (world_of asking) (world_of new) did.goes;
          contents = ap (λ (s : State LyingStore (CellBank S C) C). (held_in s.store).contents) state;
          more = λ key is. is;
          forks = λ key is. asked.facts.seen.sound.forks key (ap (λ (s : State LyingStore (CellBank S C) C). (held_in s.store).forks key) (sym state) ∙ is);
          fresh = ap (λ (s : State LyingStore (CellBank S C) C). s.link.fresh) state ∙ asked.facts.seen.fresh;
          operations = opens_more forked (held_in new.state.store).contents asking new did.place op request within asked.handles did.opens;
          handles = began_handles asking new did.place request did.began asked.handles;
          checker = ap (λ (s : State LyingStore (CellBank S C) C). accepts s.checker) state ∙ asked.checker;
        } in
        let served : served_in new ≡ served_in asking = ap (λ (s : State LyingStore (CellBank S C) C). served_by [] s.link.log) state in
        let before : served_in asking ≡ served_in old = ap (λ (s : State LyingStore (CellBank S C) C). served_by [] s.link.log) same.0 in
        let d = still_did key left accepts checks forked earlier (Begin op request) asking new refl refl served still asked in
        record { more = d.more; served = d.served ∙ ap (λ (l : List ServedCall). d.more ++ l) before; own = d.own; drawn = d.drawn; held = d.held; invariant = d.invariant }

    -- ---- replies that are given

    offer_did : (op ids : List ℕ) → DidOffer key left size signs fit accepts checks old new said op ids → After (Offer op ids)
    offer_did op ids did = by did.told
      where
        offered_did : (line : List ℕ) → Offered key left accepts checks old new op ids line → After (Offer op ids)
        offered_did line offered = given offered.told
          where
            given : NothingOffered key left accepts checks old new op offered.handle offered.nonce ids line ⊎ ReplyOffered key left accepts checks old new op offered.handle offered.nonce ids line → After (Offer op ids)
            given (inl nothing) =
                learned_did key left accepts checks laws size signs fit forked earlier old new said invariant (Offer op ids) refl refl refl did.rest (inl (ap (λ (r : Run). r.state) nothing.rest))
                offered.reading.place _ offered.reading.found.is.stands (ap (λ (o : Operations). o.all) (nothing.closed offered.reading.place _ offered.reading.found))
            given (inr reply) =
                learned_did key left accepts checks laws size signs fit forked earlier old new said invariant (Offer op ids) refl refl refl did.rest reply.given.learned
                reply.given.place reply.given.begun reply.given.found.is.stands (ap (λ (o : Operations). o.all) reply.given.closed)

        by : ((line : List ℕ) × (said ≡ line ∷ []) × Offered key left accepts checks old new op ids line) ⊎ ((said ≡ []) × (NoneReads old.operations op × (new ≡ old))) → After (Offer op ids)
        by (inl (line, is, offered)) = offered_did line offered
        by (inr (is, none)) = same_did key left accepts checks forked earlier old new invariant (Offer op ids) refl refl refl none.1

    forge_did : (op : List ℕ) (count : ℕ) (ids : List ℕ) → DidForge key left size signs fit accepts key_of left_of checks old new said op count ids → After (Forge op count ids)
    forge_did op count ids did = by did.told
      where
        by : ((line : List ℕ) × (said ≡ line ∷ []) × Forges key left size signs fit accepts key_of left_of checks old new said op count ids line) ⊎ ((said ≡ []) × (NoneReads old.operations op × (new ≡ old))) → After (Forge op count ids)
        by (inl (line, is, forges)) =
            let given = forges.forged.given in
            learned_did key left accepts checks laws size signs fit forked earlier old new said invariant (Forge op count ids) refl refl refl did.rest given.learned
            given.place given.begun given.found.is.stands (ap (λ (o : Operations). o.all) given.closed)
        by (inr (is, none)) = same_did key left accepts checks forked earlier old new invariant (Forge op count ids) refl refl refl none.1

    -- ---- any line

    line_did : (command : Command) → CanRun command → DidLine key left size signs fit accepts key_of left_of checks old new said command → After command
    line_did (Genesis ids) can did = genesis_did key left accepts checks laws forked earlier old new ids did.answer did.says did.others invariant
    line_did (Plain request) can did = plain_did key left accepts checks laws size signs fit forked earlier old new said invariant request can.0 did
    line_did Restart can did = restart_did key left accepts checks forked earlier old new invariant did.0
    line_did (Begin op request) can did = begin_did op request can.0 did
    line_did (Step op n) can did = step_did key left accepts checks laws size signs fit forked earlier old new said invariant op n did
    line_did (Finish op) can did = finish_did key left accepts checks laws size signs fit forked earlier old new said invariant op did
    line_did (Retry op) can did = retry_did key left accepts checks laws size signs fit forked earlier old new said invariant op did
    line_did (LoseRequest id n) can did = lose_did key left accepts checks forked earlier old new invariant size signs fit said (LoseRequest id n) id n _ refl refl refl did
    line_did (LoseReply id n) can did = lose_did key left accepts checks forked earlier old new invariant size signs fit said (LoseReply id n) id n _ refl refl refl did
    line_did (StoreFail n) can did = fail_did key left accepts checks forked earlier old new invariant n did.0
    line_did (StoreHide label height) can did = hide_did key left accepts checks forked earlier old new invariant label height did.0
    line_did (StoreStale label height from) can did = stale_did key left accepts checks forked earlier old new invariant label height from did.0
    line_did (StoreFork label height) can did = fork_did key left accepts checks forked earlier old new invariant label height did.0
    line_did StoreHonest can did = honest_did key left accepts checks forked earlier old new invariant did.0
    line_did (RawAppend id label height payload number) can did = raw_append_did key left accepts checks forked earlier old new invariant size signs fit said id label height payload number did
    line_did (RawLatest id label number) can did = raw_latest_did key left accepts checks forked earlier old new invariant size signs fit said id label number did
    line_did (RawShow id label) can did = raw_show_did key left accepts checks forked earlier old new invariant size signs fit said id label did
    line_did (RawFinalize id ids) can did = absurd did
    line_did (Offer op ids) can did = offer_did op ids did
    line_did (Forge op count ids) can did = forge_did op count ids did
    line_did End can did = same_did key left accepts checks forked earlier old new invariant End refl refl refl did.0

  -- ---- the whole run

  pub begins_so : (ids : List ℕ) (first : Run) → Begins key left accepts key_of left_of checks ids first → Invariant key left accepts checks [] [] first
  begins_so ids first begins =
      let empty : Truth = record { contents = nothing_stands; source = itself; forks = never; due = 0 } in
      let same : held_in first.state.store ≡ empty = cc begins.store in
      record {
        facts = record {
          seen = record {
            sound = record {
              rows = λ key stored stood. absurd (let none = ap (λ (t : Truth). t.contents key) same in cc (none, stood));
              forks = λ key is. absurd (let none = ap (λ (t : Truth). t.forks key) same in cc (none, is));
            };
            fresh = begins.bank.fresh;
          };
          going = subst (λ (o : Operations). AllGo checks (WasDrawn first.clients) [] (held_in first.state.store).contents o.all) (sym begins.operations) tt;
          held = tt;
        };
        handles = λ label handle is. absurd (let none = ap (λ (l : Labels). l label) begins.unbegun.labels in cc (none, is));
        checker = begins.checker;
      }

  abbrev RunsSo : List Command → Run → Run → List (List ℕ) → Type 0
  RunsSo = Runs key left size signs fit accepts key_of left_of checks

  drawn_run : (forked : List Key) (earlier : List ServedCall) (script : List Command) (old new : Run) (printed : List (List ℕ)) → AllCanRun script → Invariant key left accepts checks forked earlier old
      → (runs : RunsSo script old new printed) → EntriesWereDrawn key left size signs fit accepts key_of left_of checks script old new printed runs
  drawn_run forked earlier [] old new printed can invariant runs = tt
  drawn_run forked earlier (command ∷ commands) old new printed (first, can) invariant (middle, said, rest, did, runs, split) =
      let d = line_did forked earlier old middle said invariant command first did in
      (λ raw. record { more = d.more; served = d.served; each = d.drawn raw }, drawn_run (forks_by old command forked) (outside (is_raw command) d.more earlier) commands middle new rest can d.invariant runs)

  once_run : (forked : List Key) (earlier : List ServedCall) (script : List Command) (old new : Run) (printed : List (List ℕ)) → AllCanRun script → Invariant key left accepts checks forked earlier old
      → (runs : RunsSo script old new printed) → AppendedOnce key left size signs fit accepts key_of left_of checks forked earlier script old new printed runs
  once_run forked earlier [] old new printed can invariant runs = tt
  once_run forked earlier (command ∷ commands) old new printed (first, can) invariant (middle, said, rest, did, runs, split) =
      let d = line_did forked earlier old middle said invariant command first did in (
        d.more,
        d.served,
        all_alike laws.rows (WasDrawn middle.clients) forked (held_in middle.state.store).contents (outside (is_raw command) d.more earlier) d.held,
        once_run (forks_by old command forked) (outside (is_raw command) d.more earlier) commands middle new rest can d.invariant runs,
      )

  own_run : (forked : List Key) (earlier : List ServedCall) (script : List Command) (old new : Run) (printed : List (List ℕ)) → AllCanRun script → Invariant key left accepts checks forked earlier old
      → (runs : RunsSo script old new printed) → OthersAreOwn key left size signs fit accepts key_of left_of checks script old new printed runs
  own_run forked earlier [] old new printed can invariant runs = tt
  own_run forked earlier (command ∷ commands) old new printed (first, can) invariant (middle, said, rest, did, runs, split) =
      let d = line_did forked earlier old middle said invariant command first did in
      ((d.more, d.served, d.own), own_run (forks_by old command forked) (outside (is_raw command) d.more earlier) commands middle new rest can d.invariant runs)

  ordered_run : (forked : List Key) (earlier : List ServedCall) (script : List Command) (old new : Run) (printed : List (List ℕ)) → AllCanRun script → Invariant key left accepts checks forked earlier old
      → AllUpto (length (served_in old)) old.turns → AreTurnsCounted old → (runs : RunsSo script old new printed) → AllInOrder key left size signs fit accepts key_of left_of checks script old new printed runs
  ordered_run forked earlier [] old new printed can invariant upto was runs = tt
  ordered_run forked earlier (command ∷ commands) old new printed (first, can) invariant upto was (middle, said, rest, did, runs, split) =
      let d = line_did forked earlier old middle said invariant command first did in
      let line = line_wrote key left accepts checks size signs fit key_of left_of old middle said invariant.facts.seen.fresh d.invariant.facts.seen.fresh command did in
      let counted = line_counted key left accepts checks size signs fit key_of left_of old middle said invariant.facts.seen.fresh d.invariant.facts.seen.fresh command did was in (
        in_order command old middle d.more d.served line upto counted (ids_of (all_members key_of)),
        ordered_run (forks_by old command forked) (outside (is_raw command) d.more earlier) commands middle new rest can d.invariant (upto_now command old middle d.more d.served line upto counted) counted runs,
      )

  module _ (script : List Command) (ids : List ℕ) (first last : Run) (printed : List (List ℕ)) (can : AllCanRun script) (begins : Begins key left accepts key_of left_of checks ids first)
      (runs : RunsSo script first last printed) where
    pub entries_drawn : EntriesWereDrawn key left size signs fit accepts key_of left_of checks script first last printed runs
    entries_drawn = drawn_run [] [] script first last printed can (begins_so ids first begins) runs

    pub appends_one : AppendedOnce key left size signs fit accepts key_of left_of checks [] [] script first last printed runs
    appends_one = once_run [] [] script first last printed can (begins_so ids first begins) runs

    pub others_own : OthersAreOwn key left size signs fit accepts key_of left_of checks script first last printed runs
    others_own = own_run [] [] script first last printed can (begins_so ids first begins) runs

    pub all_ordered : AllInOrder key left size signs fit accepts key_of left_of checks script first last printed runs
    all_ordered =
        ordered_run [] [] script first last printed can (begins_so ids first begins) (subst (AllUpto (length (served_in first))) (sym begins.turns) tt)
        (none_counted first begins.unbegun.clients begins.turns) runs
