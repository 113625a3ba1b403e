-- The turns of clients that each line of a script adds, and when they come.
use Rattle.std.proofs.Common.{◌≡◌, ◌⊎◌, inl, inr, ℕ, Bool, true, List, [], ◌∷◌, ◌++◌, if◌then◌else◌, length, slice_get, Option, Some, None, refl, sym, ap, subst, ◌∙◌, append-nil}
use Rattle.std.specs.List.{AllByRecursion}
use Rattle.std.specs.Option.{option_map_or}
use Rattle.blob_store.specs.declared.lying_store.LyingStore.{LyingStore}
use Rattle.blob_store.specs.LyingStore.{lying_view}
use Rattle.fault_script.specs.Command.{Request, Command, Genesis, Plain, Restart, Begin, Step, Finish, Retry, LoseRequest, LoseReply, StoreFail, StoreHide, StoreStale, StoreFork, StoreHonest, RawAppend, RawLatest, RawShow, RawFinalize, Offer, Forge, End}
use Rattle.fault_script.specs.Command as requests
use Rattle.port.specs.Link.{LinkView, Served}
use Rattle.port.specs.Service.{Knew, Refused, Replied, ServiceAnswer, ServiceCall, Stood}
use Rattle.port.specs.Store.{StoreView}
use Rattle.port.specs.Trace.{AtLink, AtStore, Event, Had, Ran}
use Rattle.op_entry.specs.Laws.{IsRefreshGet}
use Rattle.view_ledger.specs.Receipts.{Accepts}
use Rattle.client_pass.specs.Act.{Act}
use Rattle.endorser_cell.specs.BankLine.{served_by}
use Rattle.endorser_cell.specs.CellBank.{CellBank, bank_view}
use Rattle.coordinator.specs.Calls.{OfViews}
use Rattle.coordinator.specs.State.{State}
use Rattle.coordinator.specs.Views.{ViewsServed}
use Rattle.answer_lines.specs.Giving.{OnlyLearned}
use Rattle.answer_lines.specs.Taken.{Sides}
use Rattle.client_acts.specs.declared.turn.Turn.{Turn}
use Rattle.client_acts.specs.ClientActs.{line_count}
use Rattle.client_acts.specs.Turns.{TurnsAt, lines_by, turn_of}
use Rattle.client_pass.specs.ClientPass.{ClientPass}
use Rattle.roster_bank.specs.Counting.{served_count}
use Rattle.script_operations.specs.Giving.{Asks, NoneReads}
use Rattle.script_operations.specs.Operations.{NoneIsNamed, NoneIsOpen}
use Rattle.script_operations.specs.Task.{client_of}
use Rattle.script_world.specs.Carried.{CameAs, Finished, NothingOffered, Offered, ReplyOffered, Retried}
use Rattle.script_world.specs.Lines.{Asked, ClientCame}
use Rattle.script_world.specs.Raw.{OnlyLink, OnlyStore}
use Rattle.script_world.specs.Running.{AreTurnsCounted, Running, acts_of, world_of}
use Rattle.script_runs.specs.OwnCalls.{served_in}
use Rattle.script_runs.specs.Runs.{DidLine, Does, Forges, Opens, client_in, turns_begun}
use Rattle.script_runs.specs.Stamps.{Draws, DrawsFor, IsAsker, MayWrite}
use Rattle.script_runs.proofs.Ordered.{draw_of, turns_of}

-- ---- while views alone were asked for, no endorser was

module _ {X L : Type 0} (sv : X → StoreView) (lv : L → LinkView) where
  gets_only : (s s' : X) (l l' : L) (events : List Event) → Ran sv lv s l events s' l' → ((event : Event) → Had events event → IsRefreshGet event) → l' ≡ l
  gets_only s s' l l' [] ran own = ran.1
  gets_only s s' l l' (AtStore call answer ∷ past) (m, k, ran, step) own = step.1 ∙ gets_only s m l k past ran (λ event had. own event (inr had))
  gets_only s s' l l' (AtLink id call heard ∷ past) (m, k, ran, step) own = absurd (linked (own (AtLink id call heard) (inl refl))) where
    linked : IsRefreshGet (AtLink id call heard) → ⊥
    linked (number, got, inl is) = absurd cc is
    linked (number, got, inr is) = absurd cc is

  whole : {C : Type 0} (accepted : Accepts) (number : ℕ) (old new : State X L C) (answer : ServiceAnswer) (events : List Event) → OfViews (ViewsServed accepted number old.chain new.chain events) answer
      → (event : Event) → Had events event → IsRefreshGet event
  whole accepted number old new (Knew rows) events did = did.own
  whole accepted number old new (Refused cause) events did = did.own
  whole accepted number old new (Stood standing) events did = absurd did
  whole accepted number old new (Replied reply) events did = absurd did

  pub learned_link : {C : Type 0} (accepts : C → Accepts) (old new : State X L C) → OnlyLearned accepts sv lv old new → new.link ≡ old.link
  learned_link {C} accepts old new (inl same) = ap (λ (s : State X L C). s.link) same
  learned_link accepts old new (inr (number, answer, says)) =
      gets_only old.store new.store old.link new.link says.events says.ran (whole (accepts old.checker) number old new answer says.events says.did)

-- ---- what a line adds

of_place : (P : ℕ → Type 0) (place calls n : ℕ) (turns : List Turn) → P place → calls ≡ n → AllByRecursion (λ (turn : Turn). (turn.client ≡ place) × (turn.calls ≡ calls)) turns
    → AllByRecursion (λ (turn : Turn). P turn.client × (turn.calls ≡ n)) turns
of_place P place calls n [] may same all = tt
of_place P place calls n (turn ∷ turns) may same all = ((subst P (sym all.0.0) may, all.0.1 ∙ same), of_place P place calls n turns may same all.1)

module _ {S C : Type 0} where
  -- A line added such a draw when the calls before it had been served, and these turns when all of its own had.
  pub record Wrote (command : Command) (old new : Running (CellBank S C) C) : Type 0 where
    pub drawn : Option ℕ
    pub draws : Draws new command (draw_of drawn)
    pub took : List Turn
    pub turns : new.turns ≡ (old.turns ++ turns_of drawn (length (served_in old))) ++ took
    pub each : AllByRecursion (λ (turn : Turn). MayWrite old new command turn.client × (turn.calls ≡ length (served_in new))) took

  nobody : (command : Command) (old new : Running (CellBank S C) C) → Draws new command [] → new.turns ≡ old.turns → Wrote command old new
  nobody command old new draws same =
      record { drawn = None; draws = draws; took = []; turns = same ∙ sym (append-nil old.turns) ∙ sym (append-nil (old.turns ++ [])); each = tt }

  by_client : (command : Command) (old new : Running (CellBank S C) C) (drawn : Option ℕ) (place calls : ℕ) → Draws new command (draw_of drawn) → MayWrite old new command place → calls ≡ length (served_in new)
      → TurnsAt place calls (old.turns ++ turns_of drawn (length (served_in old))) new.turns → Wrote command old new
  by_client command old new drawn place calls draws may same (took, turns, at) =
      record { drawn = drawn; draws = draws; took = took; turns = turns; each = of_place (MayWrite old new command) place calls (length (served_in new)) took may same at }

  -- no draw
  by_taker : (command : Command) (old new : Running (CellBank S C) C) (place calls : ℕ) → Draws new command [] → MayWrite old new command place → calls ≡ length (served_in new)
      → TurnsAt place calls old.turns new.turns → Wrote command old new
  by_taker command old new place calls draws may same turned =
      by_client command old new None place calls draws may same (subst (λ (turns : List Turn). TurnsAt place calls turns new.turns) (sym (append-nil old.turns)) turned)

module _ {S C : Type 0} (key : S → List ℕ) (left : S → ℕ) (accepts : C → Accepts) (checks : Accepts) where
  abbrev View : CellBank S C → LinkView
  View = bank_view key left accepts

  abbrev Run : Type 0
  Run = Running (CellBank S C) C

  abbrev Held : Type 0
  Held = State LyingStore (CellBank S C) C

  count_is : (link : CellBank S C) → link.fresh ≡ true → served_count (View link) ≡ length (served_by [] link.log)
  count_is link fresh = ap (λ (b : Bool). option_map_or (length {A = Served}) (if b then Some (served_by [] link.log) else None) 0) fresh

  -- the count after all calls of a line, where views alone were asked for since
  count_then : (middle : Held) (new : Run) → new.state.link.fresh ≡ true → OnlyLearned accepts lying_view View middle new.state → served_count (View middle.link) ≡ length (served_in new)
  count_then middle new fresh learned =
      ap (λ (link : CellBank S C). served_count (View link)) (sym (learned_link lying_view View accepts middle new.state learned)) ∙ count_is new.state.link fresh

  module _ (old new : Run) (before : old.state.link.fresh ≡ true) (now : new.state.link.fresh ≡ true) where
    came_link : (asking : Run) (place : ℕ) → ClientCame accepts checks (world_of old) (world_of asking) place → asking.state ≡ old.state
    came_link asking place (inl (same, within)) = ap (λ w. w.state) same
    came_link asking place (inr (more, at)) = more.state

    came_count : (asking : Run) (name : List ℕ) (place : ℕ) → CameAs accepts checks old asking name place → served_count (View asking.state.link) ≡ length (served_in old)
    came_count asking name place came = ap (λ (s : Held). served_count (View s.link)) (came_link asking place came.came) ∙ count_is old.state.link before

    asker : (asking : Run) (request : Request) (place : ℕ) → CameAs accepts checks old asking (client_in request) place → new.names ≡ asking.names → IsAsker new request place
    asker asking request place came names = ap (λ (all : List (List ℕ)). slice_get all place) names ∙ came.named

    -- ---- requests that are run at once

    module _ (request : Request) (asking : Run) (place : ℕ) (came : CameAs accepts checks old asking (client_in request) place) (names : new.names ≡ asking.names) (call : ServiceCall)
        (took : Accepts → Sides LyingStore (CellBank S C) C → ServiceAnswer → Type 0) where
      asked_with_draw : (act : Act) → Asked accepts View (world_of asking) (world_of new) place (Some act) call took → DrawsFor new request (draw_of (Some place)) → Wrote (Plain request) old new
      asked_with_draw act asked draws =
          by_client (Plain request) old new (Some place) place (served_count (View asked.middle.link)) draws (asker asking request place came names) (count_then asked.middle new now asked.learned)
          (subst (λ (n : ℕ). TurnsAt place (served_count (View asked.middle.link)) (old.turns ++ turn_of place n 1 ∷ []) new.turns) (came_count asking (client_in request) place came)
          (subst (λ (turns : List Turn). TurnsAt place (served_count (View asked.middle.link)) (turns ++ turn_of place (served_count (View asking.state.link)) 1 ∷ []) new.turns) came.turns asked.turns))

      asked_at_once : Asked accepts View (world_of asking) (world_of new) place None call took → DrawsFor new request [] → Wrote (Plain request) old new
      asked_at_once asked draws =
          by_taker (Plain request) old new place (served_count (View asked.middle.link)) draws (asker asking request place came names) (count_then asked.middle new now asked.learned)
          (subst (λ (turns : List Turn). TurnsAt place (served_count (View asked.middle.link)) turns new.turns) (append-nil asking.turns ∙ came.turns) asked.turns)

    plain_wrote : (request : Request) (asking : Run) (place : ℕ) (line : List ℕ) → CameAs accepts checks old asking (client_in request) place → new.names ≡ asking.names
        → Does accepts View (world_of asking) (world_of new) place request line → Wrote (Plain request) old new
    plain_wrote (requests.New client label payload) asking place line came names does =
        let request = requests.New client label payload in
        asked_with_draw request asking place came names _ _ _ does.asked (place, asker asking request place came names, refl)
    plain_wrote (requests.Append client label height payload) asking place line came names does =
        let request = requests.Append client label height payload in
        asked_with_draw request asking place came names _ _ _ does.asked (place, asker asking request place came names, refl)
    plain_wrote (requests.Latest client label) asking place line came names does =
        let request = requests.Latest client label in
        asked_with_draw request asking place came names _ _ _ does.asked (place, asker asking request place came names, refl)
    plain_wrote (requests.At client label height) asking place line came names does =
        asked_at_once (requests.At client label height) asking place came names _ _ does.asked refl
    plain_wrote (requests.Reconfigure ids) asking place line came names does = absurd does

    -- ---- operations that are begun

    opened_names : (asking : Run) (place : ℕ) (op : List ℕ) (request : Request) → Opens asking new place op request → new.names ≡ asking.names
    opened_names asking place op (requests.New client label payload) (draw, drew, opened) = opened.names
    opened_names asking place op (requests.Append client label height payload) (draw, drew, opened) = opened.names
    opened_names asking place op (requests.Latest client label) (draw, drew, opened) = opened.names
    opened_names asking place op (requests.At client label height) opened = opened.names
    opened_names asking place op (requests.Reconfigure ids) opens = absurd opens

    module _ (op : List ℕ) (request : Request) (asking : Run) (place : ℕ) (came : CameAs accepts checks old asking (client_in request) place) where
      begun_with_draw : DrawsFor new request (draw_of (Some place)) → new.turns ≡ asking.turns ++ turn_of place (served_count (View asking.state.link)) 1 ∷ [] → Wrote (Begin op request) old new
      begun_with_draw draws is = record {
        drawn = Some place;
        draws = draws;
        took = [];
        turns = is ∙ ap (λ (turns : List Turn). turns ++ turn_of place (served_count (View asking.state.link)) 1 ∷ []) came.turns
            ∙ ap (λ (n : ℕ). old.turns ++ turn_of place n 1 ∷ []) (came_count asking (client_in request) place came)
            ∙ sym (append-nil (old.turns ++ turn_of place (length (served_in old)) 1 ∷ []));
        each = tt;
      }

    begin_wrote : (op : List ℕ) (request : Request) (asking : Run) (place : ℕ) → CameAs accepts checks old asking (client_in request) place → new.names ≡ asking.names
        → new.turns ≡ asking.turns ++ turns_begun place (served_count (View asking.state.link)) request → Wrote (Begin op request) old new
    begin_wrote op (requests.New client label payload) asking place came names is =
        let request = requests.New client label payload in
        begun_with_draw op request asking place came (place, asker asking request place came names, refl) is
    begin_wrote op (requests.Append client label height payload) asking place came names is =
        let request = requests.Append client label height payload in
        begun_with_draw op request asking place came (place, asker asking request place came names, refl) is
    begin_wrote op (requests.Latest client label) asking place came names is =
        let request = requests.Latest client label in
        begun_with_draw op request asking place came (place, asker asking request place came names, refl) is
    begin_wrote op (requests.At client label height) asking place came names is =
        nobody (Begin op (requests.At client label height)) old new refl (is ∙ append-nil asking.turns ∙ came.turns)
    begin_wrote op (requests.Reconfigure ids) asking place came names is =
        nobody (Begin op (requests.Reconfigure ids)) old new refl (is ∙ append-nil asking.turns ∙ came.turns)

    -- ---- operations that come to an answer, or are given a reply

    same_run : (command : Command) → Draws new command [] → new ≡ old → Wrote command old new
    same_run command draws same = nobody command old new draws (ap (λ (r : Run). r.turns) same)

    finish_wrote : (op line : List ℕ) → Finished key left accepts checks old new op line → Wrote (Finish op) old new
    finish_wrote op line finished =
        let end = finished.end in
        by_taker (Finish op) old new (client_of finished.begun.task) (served_count (View end.middle.link)) refl (finished.place, finished.begun, finished.found.is, refl)
        (count_then end.middle new now end.learned) end.turns

    retry_wrote : (op line : List ℕ) → Retried key left accepts checks old new op line → Wrote (Retry op) old new
    retry_wrote op line retried = by retried.asked where
      by : Asks accepts lying_view View checks op (acts_of old) (acts_of new) old.state new.state retried.begun.task retried.begun.label line → Wrote (Retry op) old new
      by (inl done) = nobody (Retry op) old new refl (ap (λ acts. acts.turns) done.same)
      by (inr anew) =
          by_taker (Retry op) old new (client_of retried.begun.task) (served_count (View anew.middle.link)) refl (retried.place, retried.begun, retried.is, refl)
          (count_then anew.middle new now anew.learned) anew.turns

    offer_wrote : (op ids line : List ℕ) → Offered key left accepts checks old new op ids line → Wrote (Offer op ids) old new
    offer_wrote op ids line offered = by offered.told where
      by : NothingOffered key left accepts checks old new op offered.handle offered.nonce ids line ⊎ ReplyOffered key left accepts checks old new op offered.handle offered.nonce ids line → Wrote (Offer op ids) old new
      by (inl nothing) = nobody (Offer op ids) old new refl (ap (λ (r : Run). r.turns) nothing.rest)
      by (inr reply) =
          let given = reply.given in
          by_taker (Offer op ids) old new (client_of given.begun.task) (served_count (View old.state.link)) refl (given.place, given.begun, given.found.is, refl)
          (count_then old.state new now given.learned) given.turns

  -- ---- any line

  module _ (size : S → ℕ) (signs : S → List ℕ → List ℕ → S → Type 0) (fit : S → C → Type 0) (key_of : ℕ → List ℕ) (left_of : ℕ → ℕ) (old new : Run) (said : List (List ℕ))
      (before : old.state.link.fresh ≡ true) (now : new.state.link.fresh ≡ true) where
    finish_line : (op : List ℕ) → ((line : List ℕ) × (said ≡ line ∷ []) × Finished key left accepts checks old new op line) ⊎ ((said ≡ []) × (NoneIsOpen old.operations op × (new ≡ old))) → Wrote (Finish op) old new
    finish_line op (inl (line, is, finished)) = finish_wrote old new before now op line finished
    finish_line op (inr (is, none)) = same_run old new before now (Finish op) refl none.1

    retry_line : (op : List ℕ) → ((line : List ℕ) × (said ≡ line ∷ []) × Retried key left accepts checks old new op line) ⊎ ((said ≡ []) × (NoneIsNamed old.operations op × (new ≡ old))) → Wrote (Retry op) old new
    retry_line op (inl (line, is, retried)) = retry_wrote old new before now op line retried
    retry_line op (inr (is, none)) = same_run old new before now (Retry op) refl none.1

    offer_line : (op ids : List ℕ) → ((line : List ℕ) × (said ≡ line ∷ []) × Offered key left accepts checks old new op ids line) ⊎ ((said ≡ []) × (NoneReads old.operations op × (new ≡ old))) → Wrote (Offer op ids) old new
    offer_line op ids (inl (line, is, offered)) = offer_wrote old new before now op ids line offered
    offer_line op ids (inr (is, none)) = same_run old new before now (Offer op ids) refl none.1

    forge_line : (op : List ℕ) (count : ℕ) (ids : List ℕ)
        → ((line : List ℕ) × (said ≡ line ∷ []) × Forges key left size signs fit accepts key_of left_of checks old new said op count ids line) ⊎ ((said ≡ []) × (NoneReads old.operations op × (new ≡ old)))
        → Wrote (Forge op count ids) old new
    forge_line op count ids (inl (line, is, forges)) =
        let given = forges.forged.given in
        by_taker (Forge op count ids) old new (client_of given.begun.task) (served_count (View old.state.link)) refl (given.place, given.begun, given.found.is, refl)
        (count_then old.state new now given.learned) given.turns
    forge_line op count ids (inr (is, none)) = same_run old new before now (Forge op count ids) refl none.1

    link_only : (command : Command) → Draws new command [] → OnlyLink old new → Wrote command old new
    link_only command draws rest = nobody command old new draws (ap (λ (r : Run). r.turns) rest)

    store_only : (command : Command) → Draws new command [] → OnlyStore old new → Wrote command old new
    store_only command draws rest = nobody command old new draws (ap (λ (r : Run). r.turns) rest)

    pub line_wrote : (command : Command) → DidLine key left size signs fit accepts key_of left_of checks old new said command → Wrote command old new
    line_wrote (Genesis ids) did = nobody (Genesis ids) old new refl (ap (λ (r : Run). r.turns) did.others)
    line_wrote (Plain request) did = plain_wrote old new before now request did.asking did.place did.line did.came did.keeps.names did.does
    line_wrote Restart did = nobody Restart old new refl did.0.turns
    line_wrote (Begin op request) did = begin_wrote old new before now op request did.asking did.place did.came (opened_names old new before now did.asking did.place op request did.opens) did.turns
    line_wrote (Step op n) did = nobody (Step op n) old new refl (ap (λ (r : Run). r.turns) did.rest)
    line_wrote (Finish op) did = finish_line op did.told
    line_wrote (Retry op) did = retry_line op did.told
    line_wrote (LoseRequest id n) did = link_only (LoseRequest id n) refl did.rest
    line_wrote (LoseReply id n) did = link_only (LoseReply id n) refl did.rest
    line_wrote (StoreFail n) did = store_only (StoreFail n) refl did.0.rest
    line_wrote (StoreHide label height) did = store_only (StoreHide label height) refl did.0.0
    line_wrote (StoreStale label height from) did = store_only (StoreStale label height from) refl did.0.0
    line_wrote (StoreFork label height) did = store_only (StoreFork label height) refl did.0.0
    line_wrote StoreHonest did = store_only StoreHonest refl did.0.rest
    line_wrote (RawAppend id label height payload number) did = link_only (RawAppend id label height payload number) refl did.rest
    line_wrote (RawLatest id label number) did = link_only (RawLatest id label number) refl did.rest
    line_wrote (RawShow id label) did = link_only (RawShow id label) refl did.rest
    line_wrote (RawFinalize id ids) did = absurd did
    line_wrote (Offer op ids) did = offer_line op ids did.told
    line_wrote (Forge op count ids) did = forge_line op count ids did.told
    line_wrote End did = same_run old new before now End refl did.0

    -- the turns are counted then, too
    line_same : new.turns ≡ old.turns → new.clients ≡ old.clients → AreTurnsCounted old → AreTurnsCounted new
    line_same turns clients counted place =
        ap (lines_by place) turns ∙ counted place ∙ sym (ap (λ (all : List (ClientPass C)). line_count all place) clients)

    run_same : new ≡ old → AreTurnsCounted old → AreTurnsCounted new
    run_same same counted = subst AreTurnsCounted (sym same) counted

    link_same : OnlyLink old new → AreTurnsCounted old → AreTurnsCounted new
    link_same rest = line_same (ap (λ (r : Run). r.turns) rest) (ap (λ (r : Run). r.clients) rest)

    store_same : OnlyStore old new → AreTurnsCounted old → AreTurnsCounted new
    store_same rest = line_same (ap (λ (r : Run). r.turns) rest) (ap (λ (r : Run). r.clients) rest)

    pub line_counted : (command : Command) → DidLine key left size signs fit accepts key_of left_of checks old new said command → AreTurnsCounted old → AreTurnsCounted new
    line_counted (Genesis ids) did was = line_same (ap (λ (r : Run). r.turns) did.others) (ap (λ (r : Run). r.clients) did.others) was
    line_counted (Plain request) did was = did.counted
    line_counted Restart did was = line_same did.0.turns did.0.restarted.clients was
    line_counted (Begin op request) did was = did.counted
    line_counted (Step op n) did was = line_same (ap (λ (r : Run). r.turns) did.rest) (ap (λ (r : Run). r.clients) did.rest) was
    line_counted (Finish op) did was = did.rest.counted
    line_counted (Retry op) did was = did.rest.counted
    line_counted (LoseRequest id n) did was = link_same did.rest was
    line_counted (LoseReply id n) did was = link_same did.rest was
    line_counted (StoreFail n) did was = store_same did.0.rest was
    line_counted (StoreHide label height) did was = store_same did.0.0 was
    line_counted (StoreStale label height from) did was = store_same did.0.0 was
    line_counted (StoreFork label height) did was = store_same did.0.0 was
    line_counted StoreHonest did was = store_same did.0.rest was
    line_counted (RawAppend id label height payload number) did was = link_same did.rest was
    line_counted (RawLatest id label number) did was = link_same did.rest was
    line_counted (RawShow id label) did was = link_same did.rest was
    line_counted (RawFinalize id ids) did was = absurd did
    line_counted (Offer op ids) did was = did.rest.counted
    line_counted (Forge op count ids) did was = did.rest.counted
    line_counted End did was = run_same did.0 was
