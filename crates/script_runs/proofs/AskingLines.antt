-- Lines that make calls: the first one, requests that are run at once, and operations.
use Rattle.std.proofs.Common.{◌≡◌, ◌⊎◌, inl, inr, ℕ, false, List, [], ◌∷◌, slice_get, slice_set, Option, Some, Result, refl, sym, ap, subst, ◌∙◌}
use Rattle.blob_store.specs.declared.lying_store.LyingStore.{LyingStore}
use Rattle.blob_store.specs.LyingStore.{held_in, lying_view}
use Rattle.chain_block.specs.declared.entry.Entry.{Entry}
use Rattle.chain_block.specs.declared.entry.Entry.TheVariants as entries
use Rattle.fault_script.specs.Command.{Begin, Command, Finish, Forge, Genesis, Offer, Plain, Request, Retry, Step}
use Rattle.fault_script.specs.Command as requests
use Rattle.fault_script.specs.Within.{IsRequestWithin}
use Rattle.port.specs.declared.key.Key.{Key}
use Rattle.port.specs.Cause.{Cause}
use Rattle.port.specs.Link.{Served as ServedCall}
use Rattle.port.specs.Service.{Append, At, Latest, NewLedger, ServiceAnswer, ServiceCall, Views}
use Rattle.port.specs.View.{ViewRow}
use Rattle.view_ledger.specs.Receipts.{Accepts}
use Rattle.client_pass.specs.Act.{Act}
use Rattle.endorser_cell.specs.BankLine.{served_by}
use Rattle.endorser_cell.specs.CellBank.{CellBank, bank_view}
use Rattle.coordinator.specs.Entries.{first_entry, later_entry}
use Rattle.coordinator.specs.First.{SaysOfFirst}
use Rattle.coordinator.specs.Says.{coordinator_says}
use Rattle.coordinator.specs.State.{State}
use Rattle.answer_lines.specs.Asking.{call_for}
use Rattle.answer_lines.specs.Giving.{OnlyLearned}
use Rattle.answer_lines.specs.Taken.{Sides}
use Rattle.script_operations.specs.Ending.{CameTo, Ends}
use Rattle.script_operations.specs.Giving.{Asks}
use Rattle.script_operations.specs.Operations.{Begun, Closed, IsNamed, NoneIsNamed, NoneIsOpen, Operations, Progress, at_progress}
use Rattle.script_operations.specs.Stepping.{Steps}
use Rattle.script_operations.specs.Task.{Height, Newest, Own, Task, call_of}
use Rattle.name_map.specs.NameMap.{means}
use Rattle.script_world.specs.Carried.{CameAs, Finished, KeepsNames, Retried, Stepped}
use Rattle.script_world.specs.Labels.{Labels, handle_for}
use Rattle.script_world.specs.Lines.{Asked, ClientCame}
use Rattle.script_world.specs.Nonce.{nonce}
use Rattle.script_world.specs.Running.{Running, acts_of, world_of}
use Rattle.script_runs.specs.CallRules.{OwnAdds, ReadsFor, ReadsNow, forks_by}
use Rattle.script_runs.specs.OwnCalls.{IsOfDrawn, WasDrawn, is_raw, served_in}
use Rattle.script_runs.specs.Runs.{DidFinish, DidRequest, DidRetry, DidStep, Does, GoesWithin, client_in}
use Rattle.script_runs.proofs.CoordinatorCalls.{IsOwnTask, MayAsk, OwnLaws, ReadsBy, learned_goes, says_goes}
use Rattle.script_runs.proofs.DrawnEntries.{HandlesFit, drew_then, first_stored, grow_at, grow_came, grow_not, grow_on, handle_size, handles_with, later_stored, took_more}
use Rattle.script_runs.proofs.FirstCalls.{first_puts, first_serves, set_up_none}
use Rattle.script_runs.proofs.KeptCalls.{all_append, kept}
use Rattle.script_runs.proofs.LinkCalls.{Went, ran_follows, ran_serves, went_not, went_on}
use Rattle.script_runs.proofs.OpenCalls.{AllGo, IsGoing, all_go_on, end_goes, going_at, going_set, steps_go}
use Rattle.script_runs.proofs.OperationCalls.{IsOwnEntry}
use Rattle.script_runs.proofs.RunFacts.{Did, Facts, HeldCall, Invariant, all_held, did_by, facts_went, invariant_drawn, owns_append}
use Rattle.script_runs.proofs.StillLines.{same_did}

module _ {S C : Type 0} (key : S → List ℕ) (left : S → ℕ) (accepts : C → Accepts) (checks : Accepts) (laws : OwnLaws) where
  abbrev Run : Type 0
  Run = Running (CellBank S C) C

  abbrev Held : Type 0
  Held = State LyingStore (CellBank S C) C

  -- ---- the checker stays

  says_checker : (call : ServiceCall) (old new : Held) (answer : ServiceAnswer) → coordinator_says accepts lying_view (bank_view key left accepts) old new call answer → new.checker ≡ old.checker
  says_checker (NewLedger number payload) old new answer says = says.checker
  says_checker (Append handle height number payload) old new answer says = says.checker
  says_checker (Latest handle number) old new answer says = says.checker
  says_checker (At handle height) old new answer says = says.checker
  says_checker (Views number) old new answer says = says.checker

  learned_checker : (old new : Held) → OnlyLearned accepts lying_view (bank_view key left accepts) old new → new.checker ≡ old.checker
  learned_checker old new (inl same) = ap (λ (s : Held). s.checker) same
  learned_checker old new (inr (number, answer, says)) = says.checker

  -- ---- the first line

  pub genesis_did : (forked : List Key) (earlier : List ServedCall) (old new : Run) (ids : List ℕ) (answer : Result ViewRow Cause) → SaysOfFirst accepts lying_view (bank_view key left accepts) old.state new.state answer
      → new ≡ record old { state = new.state } → Invariant key left accepts checks forked earlier old → Did key left accepts checks forked earlier (Genesis ids) old new
  genesis_did forked earlier old new ids answer says others invariant =
      let drawn = WasDrawn new.clients in
      let clients : new.clients ≡ old.clients = ap (λ (r : Run). r.clients) others in
      let facts = invariant_drawn key left accepts checks forked earlier old new (grow_not old.clients new.clients clients) invariant in
      let served = says.served in
      let own = served.did.own in
      let holds = kept laws.rows drawn forked served.events (held_in old.state.store) (held_in new.state.store) facts.seen.sound
      (ran_follows key left accepts old.state.store new.state.store old.state.link new.state.link served.events served.ran) (first_puts drawn old.state.chain served.events own) in
      let serving = ran_serves key left accepts old.state.store new.state.store old.state.link new.state.link served.events served.ran facts.seen.fresh in
      let up = first_serves old.state.chain served.events serving.more own serving.serves in
      let contents = (held_in new.state.store).contents in
      let held = all_append (λ (one : ServedCall). HeldCall drawn forked contents one.call) serving.more earlier
      (set_up_none (HeldCall drawn forked contents) (λ block config map. tt) (λ view proof. tt) serving.more up)
      (all_held drawn drawn forked forked (held_in old.state.store).contents contents holds.lifts earlier facts.held) in
      let going = all_go_on checks drawn drawn forked forked (held_in old.state.store).contents contents (λ entry was. was) holds.lifts old.operations.all facts.going in
      record {
        more = serving.more;
        served = serving.served;
        own = up;
        drawn = λ is. set_up_none (IsOfDrawn drawn) (λ block config map. tt) (λ view proof. tt) serving.more up;
        held = held;
        invariant = record {
          facts = record {
            seen = record { sound = holds.sound; fresh = serving.fresh };
            going = subst (λ (a : List Begun). AllGo checks drawn forked contents a) (sym (ap (λ (r : Run). r.operations.all) others)) going;
            held = held;
          };
          handles = subst HandlesFit (sym (ap (λ (r : Run). (world_of r).labels) others)) invariant.handles;
          checker = ap accepts served.checker ∙ invariant.checker;
        };
      }

  -- ---- a client that came

  pub came_state : (old asking : Run) (place : ℕ) → ClientCame accepts checks (world_of old) (world_of asking) place
      → (asking.state ≡ old.state) × ((world_of asking).labels ≡ (world_of old).labels) × (asking.draws ≡ old.draws)
  came_state old asking place (inl (same, within)) = (ap (λ w. w.state) same, ap (λ w. w.labels) same, ap (λ w. w.draws) same)
  came_state old asking place (inr (more, at)) = (more.state, more.labels, more.draws)

  pub came_facts : (forked : List Key) (earlier : List ServedCall) (old asking : Run) (name : List ℕ) (place : ℕ) → CameAs accepts checks old asking name place → Invariant key left accepts checks forked earlier old
      → Invariant key left accepts checks forked earlier asking
  came_facts forked earlier old asking name place came invariant =
      let same = came_state old asking place came.came in
      let facts = invariant_drawn key left accepts checks forked earlier old asking (grow_came accepts checks (world_of old) (world_of asking) place came.came) invariant in
      record {
        facts = subst (λ (s : Held). Facts key left accepts checks (WasDrawn asking.clients) forked earlier s asking.operations.all) (sym same.0)
            (subst (λ (o : Operations). Facts key left accepts checks (WasDrawn asking.clients) forked earlier old.state o.all) (sym came.operations) facts);
        handles = subst HandlesFit (sym same.1) invariant.handles;
        checker = ap (λ (s : Held). accepts s.checker) same.0 ∙ invariant.checker;
      }

  -- ---- requests that are run at once

  module _ (forked : List Key) (earlier : List ServedCall) (request : Request) (old asking new : Run) (same : served_in asking ≡ served_in old) (invariant : Invariant key left accepts checks forked earlier asking)
      (keeps : KeepsNames asking new) (place : ℕ) (draw : Option Act) (call : ServiceCall) (took : Accepts → Sides LyingStore (CellBank S C) C → ServiceAnswer → Type 0)
      (asked : Asked accepts (bank_view key left accepts) (world_of asking) (world_of new) place draw call took) where
    asked_did : MayAsk key left accepts laws (WasDrawn new.clients) forked (ReadsNow old request) call → HandlesFit (world_of new).labels → Did key left accepts checks forked earlier (Plain request) old new
    asked_did may handles =
        let drawn = WasDrawn new.clients in
        let reads = ReadsNow old request in
        let facts = invariant_drawn key left accepts checks forked earlier asking new (grow_at asking.clients new.clients place asked.from asked.to asked.stood asked.stands asked.grows) invariant in
        let first = says_goes key left accepts laws drawn forked reads call asking.state asked.middle asked.answer asked.says facts.seen may in
        let next = learned_goes key left accepts laws drawn forked reads asked.middle new.state asked.learned first.seen in
        let went = went_on key left accepts drawn forked reads asking.state.store asked.middle.store new.state.store asking.state.link asked.middle.link new.state.link first next.goes in
        let after = facts_went key left accepts checks drawn forked earlier reads asking.state new.state asking.operations.all facts went in
        did_by key left accepts checks forked earlier (Plain request) reads old asking new refl refl same facts went
        (owns_append drawn forked (held_in new.state.store).contents reads reads (λ handle number read. read) went.more went.each)
        (subst (λ (o : Operations). AllGo checks drawn forked (held_in new.state.store).contents o.all) (sym keeps.operations) after.going)
        handles
        (ap accepts (learned_checker asked.middle new.state asked.learned ∙ says_checker call asking.state asked.middle asked.answer asked.says) ∙ invariant.checker)

  request_did : (forked : List Key) (earlier : List ServedCall) (request : Request) (old asking new : Run) (place : ℕ) (line : List ℕ) → IsRequestWithin request → served_in asking ≡ served_in old
      → (world_of asking).labels ≡ (world_of old).labels → asking.draws ≡ old.draws
      → Invariant key left accepts checks forked earlier asking → KeepsNames asking new → Does accepts (bank_view key left accepts) (world_of asking) (world_of new) place request line
      → Did key left accepts checks forked earlier (Plain request) old new
  request_did forked earlier (requests.New client label payload) old asking new place line within same labels draws invariant keeps does =
      let asked = does.asked in
      let entry = first_entry (nonce asking.draws) payload in
      let drew = drew_then asking.clients new.clients place asked.from asked.drawn asked.to (nonce asking.draws) entry asked.stood asked.stands asked.drew
      (took_more (accepts asked.from.checker) (record { from = asked.drawn; to = asked.to; before = asked.middle; after = new.state }) label entry asked.answer line asked.taken) in
      asked_did forked earlier (requests.New client label payload) old asking new same invariant keeps place _ _ _ asked (first_stored asking.draws payload within, drew)
      (handles_with (world_of asking).labels (world_of new).labels label (nonce asking.draws) payload does.labels invariant.handles)
  request_did forked earlier (requests.Append client label height payload) old asking new place line within same labels draws invariant keeps does =
      let asked = does.asked in
      let handle = handle_for (world_of asking).labels label in
      let entry = later_entry handle height (nonce asking.draws) payload in
      let drew = drew_then asking.clients new.clients place asked.from asked.drawn asked.to (nonce asking.draws) entry asked.stood asked.stands asked.drew
      (took_more (accepts asked.from.checker) (record { from = asked.drawn; to = asked.to; before = asked.middle; after = new.state }) label entry asked.answer line asked.taken) in
      asked_did forked earlier (requests.Append client label height payload) old asking new same invariant keeps place _ _ _ asked
      (later_stored handle height asking.draws payload (handle_size (world_of asking).labels label invariant.handles) within.0.0 within.0.1 within.1, drew)
      (subst HandlesFit (sym does.labels) invariant.handles)
  request_did forked earlier (requests.Latest client label) old asking new place line within same labels draws invariant keeps does =
      asked_did forked earlier (requests.Latest client label) old asking new same invariant keeps place _ _ _ does.asked
      (ap (λ (l : Labels). handle_for l label) labels, ap nonce draws)
      (subst HandlesFit (sym does.labels) invariant.handles)
  request_did forked earlier (requests.At client label height) old asking new place line within same labels draws invariant keeps does =
      asked_did forked earlier (requests.At client label height) old asking new same invariant keeps place _ _ _ does.asked tt (subst HandlesFit (sym does.labels) invariant.handles)
  request_did forked earlier (requests.Reconfigure ids) old asking new place line within same labels draws invariant keeps does = absurd does

  module _ (size : S → ℕ) (signs : S → List ℕ → List ℕ → S → Type 0) (fit : S → C → Type 0) (forked : List Key) (earlier : List ServedCall) (old new : Run) (said : List (List ℕ))
      (invariant : Invariant key left accepts checks forked earlier old) where
    pub plain_did : (request : Request) → IsRequestWithin request → DidRequest key left size signs fit accepts checks old new said request → Did key left accepts checks forked earlier (Plain request) old new
    plain_did request within did =
        let same = came_state old did.asking did.place did.came.came in
        request_did forked earlier request old did.asking new did.place did.line within (ap (λ (s : Held). served_by [] s.link.log) same.0) same.1 same.2
        (came_facts forked earlier old did.asking (client_in request) did.place did.came invariant) did.keeps did.does

    -- ---- operations

    reads_named : (op : List ℕ) (place : ℕ) (begun : Begun) → IsNamed old.operations op place begun → (handle number : List ℕ) → ReadsBy begun.task handle number → ReadsFor old.operations op handle number
    reads_named op place begun named handle number by = (place, begun, named, by)

    -- the operations afterwards, of which one has come further
    going_with : (drawn : Entry → Type 0) (place : ℕ) (begun : Begun) (progress : Progress) → slice_get old.operations.all place ≡ Some begun → AllGo checks drawn forked (held_in new.state.store).contents old.operations.all
        → IsGoing checks drawn forked (held_in new.state.store).contents (at_progress begun progress)
        → new.operations.all ≡ slice_set old.operations.all place (at_progress begun progress) → AllGo checks drawn forked (held_in new.state.store).contents new.operations.all
    going_with drawn place begun progress stood all one is =
        subst (λ (a : List Begun). AllGo checks drawn forked (held_in new.state.store).contents a) (sym is)
        (going_set checks drawn forked (held_in new.state.store).contents old.operations.all place (at_progress begun progress) one all)

    pub step_did : (op : List ℕ) (n : ℕ) → DidStep key left size signs fit accepts checks old new said op n → Did key left accepts checks forked earlier (Step op n) old new
    step_did op n did = by did.stepped
      where
        by : Stepped key left accepts checks old new op n → Did key left accepts checks forked earlier (Step op n) old new
        by (inr (none, operations, state)) =
            same_did key left accepts checks forked earlier old new invariant (Step op n) refl refl tt
            (did.rest ∙ ap (λ (s : Held). let r : Run = record old { state = s; operations = new.operations } in r) state ∙ ap (λ (o : Operations). let r : Run = record old { operations = o } in r) operations)
        by (inl stepped) =
            let drawn = WasDrawn new.clients in
            let reads = ReadsFor old.operations op in
            let facts = invariant_drawn key left accepts checks forked earlier old new (grow_not old.clients new.clients (ap (λ (r : Run). r.clients) did.rest)) invariant in
            let going = going_at checks drawn forked (held_in old.state.store).contents old.operations.all stepped.place stepped.begun stepped.found.is.stands facts.going in
            let steps = subst (λ (a : Accepts). Steps lying_view (bank_view key left accepts) old.state new.state a stepped.begun.progress stepped.progress n) invariant.checker stepped.steps in
            let goes = steps_go key left accepts laws checks drawn forked reads stepped.begun.task old.state new.state stepped.begun.progress stepped.progress n
            (reads_named op stepped.place stepped.begun stepped.found.is) steps facts.seen going.task going.progress in
            let after = facts_went key left accepts checks drawn forked earlier reads old.state new.state old.operations.all facts goes.0 in
            did_by key left accepts checks forked earlier (Step op n) reads old old new refl refl refl facts goes.0
            (owns_append drawn forked (held_in new.state.store).contents reads reads (λ handle number read. read) goes.0.more goes.0.each)
            (going_with drawn stepped.place stepped.begun stepped.progress stepped.found.is.stands after.going (record { task = going.task; progress = goes.1 }) (ap (λ (o : Operations). o.all) stepped.stands))
            (subst HandlesFit (sym (ap (λ (r : Run). (world_of r).labels) did.rest)) invariant.handles)
            (ap accepts did.goes.checker ∙ invariant.checker)

    abbrev Within : Type 0
    Within = GoesWithin old new

    within_facts : Within → Facts key left accepts checks (WasDrawn new.clients) forked earlier old.state old.operations.all
    within_facts rest = invariant_drawn key left accepts checks forked earlier old new (grow_on (world_of old) (world_of new) rest.goes) invariant

    within_handles : Within → HandlesFit (world_of new).labels
    within_handles rest = subst HandlesFit (sym (ap means rest.ledgers)) invariant.handles

    pub finish_did : (op : List ℕ) → DidFinish key left size signs fit accepts checks old new said op → Did key left accepts checks forked earlier (Finish op) old new
    finish_did op did = by did.told
      where
        ended : (line : List ℕ) → Finished key left accepts checks old new op line → Did key left accepts checks forked earlier (Finish op) old new
        ended line finished =
            let drawn = WasDrawn new.clients in
            let reads = ReadsFor old.operations op in
            let facts = within_facts did.rest in
            let begun = finished.begun in
            let end = finished.end in
            let going = going_at checks drawn forked (held_in old.state.store).contents old.operations.all finished.place begun finished.found.is.stands facts.going in
            let came = subst (λ (a : Accepts). CameTo lying_view (bank_view key left accepts) old.state end.middle (λ events. Ends a begun.progress events end.answer)) invariant.checker end.came in
            let first = end_goes key left accepts laws checks drawn forked reads begun.task begun.progress old.state end.middle end.answer
            (reads_named op finished.place begun finished.found.is) came facts.seen going.task going.progress in
            let next = learned_goes key left accepts laws drawn forked reads end.middle new.state end.learned first.seen in
            let went = went_on key left accepts drawn forked reads old.state.store end.middle.store new.state.store old.state.link end.middle.link new.state.link first next.goes in
            let after = facts_went key left accepts checks drawn forked earlier reads old.state new.state old.operations.all facts went in
            did_by key left accepts checks forked earlier (Finish op) reads old old new refl refl refl facts went
            (owns_append drawn forked (held_in new.state.store).contents reads reads (λ handle number read. read) went.more went.each)
            (going_with drawn finished.place begun Closed finished.found.is.stands after.going (record { task = going.task; progress = tt }) (ap (λ (o : Operations). o.all) finished.closed))
            (within_handles did.rest)
            (ap accepts did.rest.goes.checker ∙ invariant.checker)

        by : ((line : List ℕ) × (said ≡ line ∷ []) × Finished key left accepts checks old new op line) ⊎ ((said ≡ []) × (NoneIsOpen old.operations op × (new ≡ old))) → Did key left accepts checks forked earlier (Finish op) old new
        by (inl (line, is, finished)) = ended line finished
        by (inr (is, none)) = same_did key left accepts checks forked earlier old new invariant (Finish op) refl refl tt none.1

    may_task : (drawn : Entry → Type 0) (reads : List ℕ → List ℕ → Type 0) (task : Task) → IsOwnTask drawn task → ((handle number : List ℕ) → ReadsBy task handle number → reads handle number)
        → MayAsk key left accepts laws drawn forked reads (call_of task)
    may_task drawn reads (Own client draw entry) own read = may_entry entry own
      where
        may_entry : (entry : Entry) → IsOwnEntry drawn entry → MayAsk key left accepts laws drawn forked reads (call_for entry)
        may_entry (entries.Genesis number payload) own = subst (IsOwnEntry drawn) (sym own.0.1) own
        may_entry (entries.Later handle height number payload) own = subst (IsOwnEntry drawn) (sym own.0.1) own
    may_task drawn reads (Newest client draw handle number) own read = read handle number (client, draw, refl)
    may_task drawn reads (Height client handle height) own read = tt

    went_did : (op : List ℕ) → Within → KeepsNames old new
        → (went : Went key left accepts (WasDrawn new.clients) forked (ReadsFor old.operations op) old.state.store old.state.link new.state.store new.state.link) → Did key left accepts checks forked earlier (Retry op) old new
    went_did op rest keeps went =
        let drawn = WasDrawn new.clients in
        let reads = ReadsFor old.operations op in
        let facts = within_facts rest in
        let after = facts_went key left accepts checks drawn forked earlier reads old.state new.state old.operations.all facts went in
        did_by key left accepts checks forked earlier (Retry op) reads old old new refl refl refl facts went
        (owns_append drawn forked (held_in new.state.store).contents reads reads (λ handle number read. read) went.more went.each)
        (subst (λ (o : Operations). AllGo checks drawn forked (held_in new.state.store).contents o.all) (sym keeps.operations) after.going)
        (within_handles rest)
        (ap accepts rest.goes.checker ∙ invariant.checker)

    retried_did : (op line : List ℕ) → Within → KeepsNames old new → (retried : Retried key left accepts checks old new op line)
        → Asks accepts lying_view (bank_view key left accepts) checks op (acts_of old) (acts_of new) old.state new.state retried.begun.task retried.begun.label line
        → Did key left accepts checks forked earlier (Retry op) old new
    retried_did op line rest keeps retried (inl done) =
        let facts = within_facts rest in
        went_did op rest keeps
        (subst (λ (s : Held). Went key left accepts (WasDrawn new.clients) forked (ReadsFor old.operations op) old.state.store old.state.link s.store s.link) (sym done.quiet)
        (went_not key left accepts (WasDrawn new.clients) forked (ReadsFor old.operations op) old.state.store old.state.link facts.seen))
    retried_did op line rest keeps retried (inr anew) =
        let drawn = WasDrawn new.clients in
        let reads = ReadsFor old.operations op in
        let facts = within_facts rest in
        let begun = retried.begun in
        let going = going_at checks drawn forked (held_in old.state.store).contents old.operations.all retried.place begun retried.is.stands facts.going in
        let first = says_goes key left accepts laws drawn forked reads (call_of begun.task) old.state anew.middle anew.answer anew.says facts.seen
        (may_task drawn reads begun.task going.task (reads_named op retried.place begun retried.is)) in
        let next = learned_goes key left accepts laws drawn forked reads anew.middle new.state anew.learned first.seen in
        went_did op rest keeps (went_on key left accepts drawn forked reads old.state.store anew.middle.store new.state.store old.state.link anew.middle.link new.state.link first next.goes)

    pub retry_did : (op : List ℕ) → DidRetry key left size signs fit accepts checks old new said op → Did key left accepts checks forked earlier (Retry op) old new
    retry_did op did = by did.told
      where
        by : ((line : List ℕ) × (said ≡ line ∷ []) × Retried key left accepts checks old new op line) ⊎ ((said ≡ []) × (NoneIsNamed old.operations op × (new ≡ old))) → Did key left accepts checks forked earlier (Retry op) old new
        by (inl (line, is, retried)) = retried_did op line did.rest did.keeps retried retried.asked
        by (inr (is, none)) = same_did key left accepts checks forked earlier old new invariant (Retry op) refl refl tt none.1

    -- ---- lines that give a client a reply

    -- views alone were asked for, and the operations are so
    pub learned_did : (command : Command) → is_raw command ≡ false → forks_by old command forked ≡ forked → OwnAdds old command [] → Within → OnlyLearned accepts lying_view (bank_view key left accepts) old.state new.state
        → (place : ℕ) (begun : Begun) → slice_get old.operations.all place ≡ Some begun → new.operations.all ≡ slice_set old.operations.all place (at_progress begun Closed)
        → Did key left accepts checks forked earlier command old new
    learned_did command raw fork own rest learned place begun stood closed =
        let drawn = WasDrawn new.clients in
        let reads = ReadsFor old.operations [] in
        let facts = within_facts rest in
        let going = going_at checks drawn forked (held_in old.state.store).contents old.operations.all place begun stood facts.going in
        let next = learned_goes key left accepts laws drawn forked reads old.state new.state learned facts.seen in
        let after = facts_went key left accepts checks drawn forked earlier reads old.state new.state old.operations.all facts next.goes in
        did_by key left accepts checks forked earlier command reads old old new raw fork refl facts next.goes
        (subst (OwnAdds old command) (sym next.none) own)
        (going_with drawn place begun Closed stood after.going (record { task = going.task; progress = tt }) closed)
        (within_handles rest)
        (ap accepts rest.goes.checker ∙ invariant.checker)
