-- Lines that give a client an answer of the coordinator, or begin an operation: the clients note only replies whose marks were signed.
use Rattle.std.proofs.Common.{◌≡◌, ◌⊎◌, inl, inr, ℕ, List, [], ◌∷◌, slice_get, Option, Some, None, sym, ap, subst, arith}
use Rattle.sha2.proofs.Facts256.{length-sha256}
use Rattle.blob_store.specs.declared.lying_store.LyingStore.{LyingStore}
use Rattle.blob_store.specs.LyingStore.{lying_view}
use Rattle.chain_block.specs.declared.entry.Entry.{Entry}
use Rattle.fault_script.specs.Command.{Request}
use Rattle.fault_script.specs.Command as requests
use Rattle.fault_script.specs.Within.{IsRequestWithin}
use Rattle.statement.specs.declared.member.Member.{Member}
use Rattle.port.specs.Service.{ServiceAnswer}
use Rattle.view_ledger.specs.Receipts.{Accepts}
use Rattle.view_ledger.specs.Views.{ViewChain}
use Rattle.client_acts.specs.ClientActs.{ClientActs}
use Rattle.client_pass.specs.Act.{Act, Draw}
use Rattle.client_pass.specs.ClientPass.{ClientPass}
use Rattle.endorser_cell.specs.CellBank.{CellBank, bank_view}
use Rattle.coordinator.specs.Entries.{first_entry, later_entry}
use Rattle.coordinator.specs.State.{State}
use Rattle.answer_lines.specs.Giving.{OnlyLearned}
use Rattle.answer_lines.specs.Taken.{Sides}
use Rattle.script_operations.specs.Ending.{CameTo, Ends}
use Rattle.script_operations.specs.Giving.{Asks, Given, NoneReads, TookFor, WasDone, WasGiven}
use Rattle.script_operations.specs.Operations.{Begun, Closed, IsFresh, NoneIsNamed, NoneIsOpen, Operations, at_progress, with_begun}
use Rattle.script_operations.specs.Task.{Height, Newest, Own, Task, call_of, client_of}
use Rattle.script_world.specs.Begun.{DrewOnly}
use Rattle.script_world.specs.Carried.{Finished, KeepsNames, NothingOffered, Offered, Opened, ReplyOffered, Retried}
use Rattle.script_world.specs.Labels.{handle_for}
use Rattle.script_world.specs.Lines.{Asked, ClientCame, Drew}
use Rattle.script_world.specs.Nonce.{nonce}
use Rattle.script_world.specs.Running.{Running, acts_of, world_of}
use Rattle.script_runs.specs.OwnCalls.{served_in}
use Rattle.script_runs.specs.Runs.{Began, DidBegin, DidFinish, DidForge, DidOffer, DidRequest, DidRetry, Does, Forges, Opens}
use Rattle.script_runs.proofs.ClientsNote.{AllWrite, IsAnswerSigned, Writes, answer_on, noted_draw, took_writes, write_at, write_came, write_not, write_then, writes_not, writes_then}
use Rattle.script_runs.proofs.Going.{EntryCallsAreOwn}
use Rattle.script_runs.proofs.KeptCalls.{all_append}
use Rattle.script_runs.proofs.LinesSigned.{Marks, Signed, marks_by, marks_with, nothing_signed}
use Rattle.script_runs.proofs.OneState.{task_good}
use Rattle.script_runs.proofs.OneViewHolds.{Holds, came_holds}
use Rattle.script_runs.proofs.OperationsSigned.{AllHeard, IsHeard, all_heard_on, ends_answer, fresh_heard, heard_at}
use Rattle.script_runs.proofs.OwnAttaches.{HaveIds, Limits}
use Rattle.script_runs.proofs.Standing.{Means}
use Rattle.script_runs.proofs.StatesSigned.{Stays, TaskFits, learned_stays, stays_not, stays_then, task_answers}

module _ {S C : Type 0} (key : S → List ℕ) (left size : S → ℕ) (signs : S → List ℕ → List ℕ → S → Type 0) (fit : S → C → Type 0) (accepts : C → Accepts) (key_of : ℕ → List ℕ) (left_of : ℕ → ℕ) (checks : Accepts)
    (roster config : List Member) (means : Means) (own : EntryCallsAreOwn) (limits : Limits checks) (ids : HaveIds config) where
  abbrev Run : Type 0
  Run = Running (CellBank S C) C

  abbrev Held : Type 0
  Held = State LyingStore (CellBank S C) C

  abbrev IsMarkedRun : Run → Type 0
  IsMarkedRun run = Marks key left accepts checks roster config limits ids own run

  abbrev SignedSo : Run → Run → Type 0
  SignedSo old new = Signed key left accepts checks roster config limits ids own old new

  abbrev StaysSo : Held → Held → Type 0
  StaysSo old new = Stays key left accepts checks roster config limits ids old new

  abbrev AllHold : Run → Type 0
  AllHold run = Holds key left accepts checks roster config run

  abbrev IsOpSigned : Run → Begun → Type 0
  IsOpSigned run begun = IsHeard key left accepts checks roster config limits ids own (served_in run) begun

  -- ---- a client came

  came_state : (old asking : Run) (place : ℕ) → ClientCame accepts checks (world_of old) (world_of asking) place → asking.state ≡ old.state
  came_state old asking place (inl (same, within)) = ap (λ w. w.state) same
  came_state old asking place (inr (more, at)) = more.state

  came_marks : (old asking : Run) (place : ℕ) → ClientCame accepts checks (world_of old) (world_of asking) place → asking.operations ≡ old.operations → IsMarkedRun old → IsMarkedRun asking
  came_marks old asking place came operations marks =
      marks_by key left accepts checks roster config limits ids own old asking marks
      (stays_not key left accepts checks roster config limits ids old.state asking.state (came_state old asking place came) marks.marked) (ap (λ (o : Operations). o.all) operations)

  -- ---- requests that are run at once

  module _ (asking new : Run) (holds : AllHold asking) (marks : IsMarkedRun asking) where
    asked_signed : KeepsNames asking new → (place : ℕ) (draw : Option Act) (task : Task) (label line : List ℕ) → TaskFits task
        → ((from drawn : ClientPass C) → Drew draw from drawn → Writes (served_in new) from drawn)
        → (asked : Asked accepts (bank_view key left accepts) (world_of asking) (world_of new) place draw (call_of task)
        (λ (checks : Accepts) (sides : Sides LyingStore (CellBank S C) C) (answer : ServiceAnswer). TookFor checks task label answer line sides)) → SignedSo asking new
    asked_signed keeps place draw task label line fits drew asked =
        let middle = (task_good key left accepts checks roster config means asking.state asked.middle holds.state task asked.answer asked.says).0 in
        let answers = task_answers key left accepts checks roster config limits ids task asking.state asked.middle asked.answer asked.says holds.state middle fits marks.marked in
        let learned = learned_stays key left accepts checks roster config limits ids asked.middle new.state asked.learned answers.stays.marked in
        let sides : Sides LyingStore (CellBank S C) C = record { from = asked.drawn; to = asked.to; before = asked.middle; after = new.state } in
        let took = took_writes (served_in new) (accepts asked.from.checker) sides label task asked.answer line (answer_on _ (served_in new) learned.signs asked.answer answers.signed) asked.taken in
        record {
          marks = marks_by key left accepts checks roster config limits ids own asking new marks
              (stays_then key left accepts checks roster config limits ids asking.state asked.middle new.state answers.stays learned) (ap (λ (o : Operations). o.all) keeps.operations);
          writes = write_at (served_in new) asking.clients new.clients place asked.from asked.to asked.stood asked.stands
              (writes_then (served_in new) asked.from asked.drawn asked.to (drew asked.from asked.drawn asked.drew) took);
        }

    does_signed : (request : Request) (place : ℕ) (line : List ℕ) → IsRequestWithin request → KeepsNames asking new → Does accepts (bank_view key left accepts) (world_of asking) (world_of new) place request line → SignedSo asking new
    does_signed (requests.New client label payload) place line within keeps does =
        asked_signed keeps place (Some (Draw (nonce asking.draws) (Some (first_entry (nonce asking.draws) payload)))) (Own 0 0 (first_entry (nonce asking.draws) payload)) label line (length-sha256 _, omega arith)
        (λ from drawn drew. noted_draw (served_in new) from drawn _ _ drew) does.asked
    does_signed (requests.Append client label height payload) place line within keeps does =
        let entry = later_entry (handle_for (world_of asking).labels label) height (nonce asking.draws) payload in
        asked_signed keeps place (Some (Draw (nonce asking.draws) (Some entry))) (Own 0 0 entry) label line (omega (arith, within.0.1))
        (λ from drawn drew. noted_draw (served_in new) from drawn _ _ drew) does.asked
    does_signed (requests.Latest client label) place line within keeps does =
        asked_signed keeps place (Some (Draw (nonce asking.draws) None)) (Newest 0 0 (handle_for (world_of asking).labels label) (nonce asking.draws)) label line tt
        (λ from drawn drew. noted_draw (served_in new) from drawn _ _ drew) does.asked
    does_signed (requests.At client label height) place line within keeps does =
        asked_signed keeps place None (Height 0 (handle_for (world_of asking).labels label) height) label line tt (λ from drawn drew. writes_not (served_in new) from drawn drew) does.asked
    does_signed (requests.Reconfigure ids_of) place line within keeps does = absurd does

    -- ---- operations that are begun

    drew_signed : (place : ℕ) (intent : Option Entry) → DrewOnly (world_of asking) (world_of new) place intent → AllWrite (served_in new) asking.clients new.clients
    drew_signed place intent drew = write_at (served_in new) asking.clients new.clients place drew.from drew.to drew.stood drew.stands (noted_draw (served_in new) drew.from drew.to _ _ drew.drew)

    began_writes : (place : ℕ) (request : Request) → Began (world_of asking) (world_of new) place request → AllWrite (served_in new) asking.clients new.clients
    began_writes place (requests.New client label payload) began = drew_signed place _ began.drew
    began_writes place (requests.Append client label height payload) began = drew_signed place _ began.drew
    began_writes place (requests.Latest client label) began = drew_signed place _ began.drew
    began_writes place (requests.At client label height) began = write_not (served_in new) asking.clients new.clients (ap (λ w. w.clients) began)
    began_writes place (requests.Reconfigure ids_of) began = absurd began

    began_state : (place : ℕ) (request : Request) → Began (world_of asking) (world_of new) place request → new.state ≡ asking.state
    began_state place (requests.New client label payload) began = began.drew.state
    began_state place (requests.Append client label height payload) began = began.drew.state
    began_state place (requests.Latest client label) began = began.drew.state
    began_state place (requests.At client label height) began = ap (λ w. w.state) began
    began_state place (requests.Reconfigure ids_of) began = absurd began

    opened_heard : (op : List ℕ) (task : Task) (label : List ℕ) → TaskFits task → Opened asking new op task label → StaysSo asking.state new.state
        → AllHeard key left accepts checks roster config limits ids own (served_in new) new.operations.all
    opened_heard op task label fits opened stays =
        let fresh = subst (λ (chain : ViewChain). IsFresh chain task opened.begun.progress) holds.state.chain opened.begun.fresh in
        let begun : Begun = record { task = task; label = label; progress = opened.begun.progress } in
        subst (AllHeard key left accepts checks roster config limits ids own (served_in new)) (sym opened.begun.more.all)
        (all_append (IsOpSigned new) asking.operations.all (begun ∷ [])
        (all_heard_on key left accepts checks roster config limits ids own (served_in asking) (served_in new) stays.signs asking.operations.all marks.heard)
        (record { fits = fits; progress = fresh_heard key left accepts checks roster config limits ids own (served_in new) task opened.begun.progress fresh }, tt))

    opens_heard : (place : ℕ) (op : List ℕ) (request : Request) → IsRequestWithin request → Opens asking new place op request → StaysSo asking.state new.state
        → AllHeard key left accepts checks roster config limits ids own (served_in new) new.operations.all
    opens_heard place op (requests.New client label payload) within (draw, drew, opened) stays = opened_heard op _ label (length-sha256 _, omega arith) opened stays
    opens_heard place op (requests.Append client label height payload) within (draw, drew, opened) stays = opened_heard op _ label (omega (arith, within.0.1)) opened stays
    opens_heard place op (requests.Latest client label) within (draw, drew, opened) stays = opened_heard op _ label tt opened stays
    opens_heard place op (requests.At client label height) within opened stays = opened_heard op _ label tt opened stays
    opens_heard place op (requests.Reconfigure ids_of) within opens stays = absurd opens

  module _ (old new : Run) (said : List (List ℕ)) (holds : AllHold old) (marks : IsMarkedRun old) where
    -- a client came, whose lines are none yet
    came_signed : (asking : Run) (place : ℕ) → ClientCame accepts checks (world_of old) (world_of asking) place → SignedSo asking new → SignedSo old new
    came_signed asking place came signed = record {
      marks = signed.marks;
      writes = write_then (served_in new) old.clients asking.clients new.clients (write_came (served_in new) accepts checks (world_of old) (world_of asking) place came) signed.writes;
    }

    pub request_signed : (request : Request) → IsRequestWithin request → DidRequest key left size signs fit accepts checks old new said request → SignedSo old new
    request_signed request within did =
        came_signed did.asking did.place did.came.came
        (does_signed did.asking new (came_holds key left accepts checks roster config old did.asking _ did.place did.came holds) (came_marks old did.asking did.place did.came.came did.came.operations marks)
        request did.place did.line within did.keeps did.does)

    pub begin_signed : (op : List ℕ) (request : Request) → IsRequestWithin request → DidBegin key left size signs fit accepts checks old new said op request → SignedSo old new
    begin_signed op request within did =
        let asking = came_holds key left accepts checks roster config old did.asking _ did.place did.came holds in
        let asked = came_marks old did.asking did.place did.came.came did.came.operations marks in
        let stays = stays_not key left accepts checks roster config limits ids did.asking.state new.state (began_state did.asking new asking asked did.place request did.began) asked.marked in
        came_signed did.asking did.place did.came.came
        (record {
          marks = record { marked = stays.marked; heard = opens_heard did.asking new asking asked did.place op request within did.opens stays };
          writes = began_writes did.asking new asking asked did.place request did.began;
        })

    -- ---- answers that are given

    done_writes : (op : List ℕ) (task : Task) (label line : List ℕ) (before after : Held) → WasDone checks op task label (acts_of old) (acts_of new) before after line → AllWrite (served_in new) old.clients new.clients
    done_writes op task label line before after done = write_not (served_in new) old.clients new.clients (ap (λ (a : ClientActs C). a.clients) done.same)

    gave_writes : (op : List ℕ) (task : Task) (label line : List ℕ) (answer : ServiceAnswer) (before after : Held) → IsAnswerSigned (served_in new) answer
        → WasGiven checks op task label (acts_of old) (acts_of new) before after answer line → AllWrite (served_in new) old.clients new.clients
    gave_writes op task label line answer before after signed given =
        let (from, to, acts, took) = given.gave in
        write_at (served_in new) old.clients new.clients (client_of task) from to acts.stood acts.stands
        (took_writes (served_in new) checks (record { from = from; to = to; before = before; after = after }) label task answer line signed took)

    given_writes : (op : List ℕ) (task : Task) (label line : List ℕ) (answer : ServiceAnswer) (before after : Held) → IsAnswerSigned (served_in new) answer
        → Given checks op task label (acts_of old) (acts_of new) before after answer line → AllWrite (served_in new) old.clients new.clients
    given_writes op task label line answer before after signed (inl done) = done_writes op task label line before after done
    given_writes op task label line answer before after signed (inr given) = gave_writes op task label line answer before after signed given

    op_at : (place : ℕ) (begun : Begun) → slice_get old.operations.all place ≡ Some begun → IsOpSigned old begun
    op_at place begun stood = heard_at key left accepts checks roster config limits ids own (served_in old) old.operations.all place begun stood marks.heard

    -- an operation was closed
    closed_marks : (place : ℕ) (begun : Begun) → slice_get old.operations.all place ≡ Some begun → StaysSo old.state new.state → new.operations ≡ with_begun old.operations place (at_progress begun Closed) → IsMarkedRun new
    closed_marks place begun stood stays closed =
        marks_with key left accepts checks roster config limits ids own old new place (at_progress begun Closed) marks stays (record { fits = (op_at place begun stood).fits; progress = tt }) closed

    finished_signed : (op line : List ℕ) → Finished key left accepts checks old new op line → SignedSo old new
    finished_signed op line finished =
        let begun = finished.begun in
        let end = finished.end in
        let is = op_at finished.place begun finished.found.is.stands in
        let came = subst (λ (a : Accepts). CameTo lying_view (bank_view key left accepts) old.state end.middle (λ events. Ends a begun.progress events end.answer)) holds.state.checker end.came in
        let answers = ends_answer key left accepts checks roster config limits ids own old.state end.middle holds.state marks.marked begun.task begun.progress end.answer came is.fits is.progress in
        let learned = learned_stays key left accepts checks roster config limits ids end.middle new.state end.learned answers.stays.marked in
        record {
          marks = closed_marks finished.place begun finished.found.is.stands (stays_then key left accepts checks roster config limits ids old.state end.middle new.state answers.stays learned) finished.closed;
          writes = given_writes op begun.task begun.label line end.answer end.middle new.state (answer_on _ (served_in new) learned.signs end.answer answers.signed) end.given;
        }

    pub finish_signed : (op : List ℕ) → DidFinish key left size signs fit accepts checks old new said op → SignedSo old new
    finish_signed op did = by did.told
      where
        by : ((line : List ℕ) × (said ≡ line ∷ []) × Finished key left accepts checks old new op line) ⊎ ((said ≡ []) × (NoneIsOpen old.operations op × (new ≡ old))) → SignedSo old new
        by (inl (line, is, finished)) = finished_signed op line finished
        by (inr (is, none)) = nothing_signed key left accepts checks roster config limits ids own old new marks none.1

    retried_signed : (op line : List ℕ) → new.operations ≡ old.operations → (retried : Retried key left accepts checks old new op line)
        → Asks accepts lying_view (bank_view key left accepts) checks op (acts_of old) (acts_of new) old.state new.state retried.begun.task retried.begun.label line → SignedSo old new
    retried_signed op line same retried (inl done) = record {
      marks = marks_by key left accepts checks roster config limits ids own old new marks
          (stays_not key left accepts checks roster config limits ids old.state new.state done.quiet marks.marked) (ap (λ (o : Operations). o.all) same);
      writes = done_writes op retried.begun.task retried.begun.label line old.state new.state done;
    }
    retried_signed op line same retried (inr anew) =
        let begun = retried.begun in
        let is = op_at retried.place begun retried.is.stands in
        let middle = (task_good key left accepts checks roster config means old.state anew.middle holds.state begun.task anew.answer anew.says).0 in
        let answers = task_answers key left accepts checks roster config limits ids begun.task old.state anew.middle anew.answer anew.says holds.state middle is.fits marks.marked in
        let learned = learned_stays key left accepts checks roster config limits ids anew.middle new.state anew.learned answers.stays.marked in
        record {
          marks = marks_by key left accepts checks roster config limits ids own old new marks
              (stays_then key left accepts checks roster config limits ids old.state anew.middle new.state answers.stays learned) (ap (λ (o : Operations). o.all) same);
          writes = gave_writes op begun.task begun.label line anew.answer anew.middle new.state (answer_on _ (served_in new) learned.signs anew.answer answers.signed) anew.given;
        }

    pub retry_signed : (op : List ℕ) → DidRetry key left size signs fit accepts checks old new said op → SignedSo old new
    retry_signed op did = by did.told
      where
        by : ((line : List ℕ) × (said ≡ line ∷ []) × Retried key left accepts checks old new op line) ⊎ ((said ≡ []) × (NoneIsNamed old.operations op × (new ≡ old))) → SignedSo old new
        by (inl (line, is, retried)) = retried_signed op line did.keeps.operations retried retried.asked
        by (inr (is, none)) = nothing_signed key left accepts checks roster config limits ids own old new marks none.1

    -- ---- other replies that are given: nothing is said of what the client notes

    learned_marks : OnlyLearned accepts lying_view (bank_view key left accepts) old.state new.state → (place : ℕ) (begun : Begun) → slice_get old.operations.all place ≡ Some begun
        → new.operations ≡ with_begun old.operations place (at_progress begun Closed) → IsMarkedRun new
    learned_marks learned place begun stood closed =
        closed_marks place begun stood (learned_stays key left accepts checks roster config limits ids old.state new.state learned marks.marked) closed

    pub offer_marks : (op ids_of : List ℕ) → DidOffer key left size signs fit accepts checks old new said op ids_of → IsMarkedRun new
    offer_marks op ids_of did = by did.told
      where
        offered_marks : (line : List ℕ) → (offered : Offered key left accepts checks old new op ids_of line)
            → NothingOffered key left accepts checks old new op offered.handle offered.nonce ids_of line ⊎ ReplyOffered key left accepts checks old new op offered.handle offered.nonce ids_of line → IsMarkedRun new
        offered_marks line offered (inl nothing) =
            learned_marks (inl (ap (λ (r : Run). r.state) nothing.rest)) offered.reading.place _ offered.reading.found.is.stands (nothing.closed offered.reading.place _ offered.reading.found)
        offered_marks line offered (inr made) = learned_marks made.given.learned made.given.place made.given.begun made.given.found.is.stands made.given.closed

        by : ((line : List ℕ) × (said ≡ line ∷ []) × Offered key left accepts checks old new op ids_of line) ⊎ ((said ≡ []) × (NoneReads old.operations op × (new ≡ old))) → IsMarkedRun new
        by (inl (line, is, offered)) = offered_marks line offered offered.told
        by (inr (is, none)) = subst IsMarkedRun (sym none.1) marks

    pub forge_marks : (op : List ℕ) (count : ℕ) (ids_of : List ℕ) → DidForge key left size signs fit accepts key_of left_of checks old new said op count ids_of → IsMarkedRun new
    forge_marks op count ids_of did = by did.told
      where
        by : ((line : List ℕ) × (said ≡ line ∷ []) × Forges key left size signs fit accepts key_of left_of checks old new said op count ids_of line) ⊎ ((said ≡ []) × (NoneReads old.operations op × (new ≡ old))) → IsMarkedRun new
        by (inl (line, is, forges)) = let given = forges.forged.given in learned_marks given.learned given.place given.begun given.found.is.stands given.closed
        by (inr (is, none)) = subst IsMarkedRun (sym none.1) marks
