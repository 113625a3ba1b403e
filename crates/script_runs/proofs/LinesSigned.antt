-- Lines that give no client a reply leave only receipts whose marks were signed.
use Rattle.std.proofs.Common.{◌≡◌, inl, inr, ℕ, true, List, [], ◌∷◌, ◌++◌, None, refl, sym, ap, subst, ◌∙◌}
use Rattle.std.proofs.lemmas.List.{append-nil}
use Rattle.blob_store.specs.declared.lie.Lie.TheVariants as lies
use Rattle.blob_store.specs.declared.lying_store.LyingStore.{LyingStore}
use Rattle.blob_store.specs.LyingStore.{held_in, lying_view}
use Rattle.statement.specs.declared.member.Member.{Member}
use Rattle.port.specs.Answer.{kept}
use Rattle.port.specs.Call.{Call}
use Rattle.port.specs.Link.{Served, served_after}
use Rattle.port.specs.Store.{Attach, Get, PutNew}
use Rattle.port.specs.Trace.{AtLink, AtStore, Event}
use Rattle.view_ledger.specs.Receipts.{Accepts}
use Rattle.view_ledger.specs.Views.{ViewChain}
use Rattle.endorser_cell.specs.BankLine.{BankLine, asked_line, served_by, serving}
use Rattle.endorser_cell.specs.CellBank.{CellBank, bank_view}
use Rattle.endorser_cell.specs.declared.losses.Loss.{Loss}
use Rattle.op_reconf.specs.OwnCalls.{IsOwnCall, OwnCalls}
use Rattle.coordinator.specs.State.{State}
use Rattle.script_operations.specs.Operations.{Begun, Operations, at_progress, with_begun}
use Rattle.script_operations.specs.Stepping.{Steps, StepsNamed}
use Rattle.script_world.specs.Running.{Running}
use Rattle.script_runs.specs.OwnCalls.{served_in}
use Rattle.script_runs.specs.Runs.{DidGenesis, DidLose, DidRaw, DidRestart, DidStep, EndsLies, FailsMore, Lies, row_at}
use Rattle.script_world.specs.Raw.{AnsweredRaw, OnlyLink, OnlyStore}
use Rattle.script_runs.proofs.AttachedReceipts.{AllAttach, AllMayHave, Attaches, IsOfReceipt, contents_on, stays_marked}
use Rattle.script_runs.proofs.ClientsNote.{AllWrite, write_not}
use Rattle.script_runs.proofs.Going.{EntryCallsAreOwn}
use Rattle.script_runs.proofs.OneViewHolds.{Holds}
use Rattle.script_runs.proofs.OperationsSigned.{AllHeard, IsHeard, all_heard_on, heard_at, heard_set, steps_heard}
use Rattle.script_runs.proofs.OwnAttaches.{HaveIds, Limits}
use Rattle.script_runs.proofs.SignedCalls.{Signs, served_on, signs_same, signs_then}
use Rattle.script_runs.proofs.StatesSigned.{Marked, Stays, V, stays_not}

served_append : (past : List Served) (log more : List BankLine) → served_by past (log ++ more) ≡ served_by (served_by past log) more
served_append past [] more = refl
served_append past (line ∷ log) more = served_append (serving line line.answer past) log more

-- the mark of a view is no receipt
mark_apart : (view : List ℕ) (served : List Served) (from : ViewChain) (past : List Event) (event : Event) → IsOwnCall from past event → Attaches (IsOfReceipt view served) event
mark_apart view served from past (AtStore (PutNew key body) answer) is = tt
mark_apart view served from past (AtStore (Get key) answer) is = tt
mark_apart view served from past (AtLink id call heard) is = tt
mark_apart view served from past (AtStore (Attach key bytes) answer) (inl (is, none)) = absurd (cc is)
mark_apart view served from past (AtStore (Attach key bytes) answer) (inr (is, set)) = let same : bytes ≡ 1 ∷ [] = cc is in inl (λ receipt written. cc (sym same ∙ written))

first_attaches : (view : List ℕ) (served : List Served) (from : ViewChain) (events : List Event) → OwnCalls from events → AllAttach (IsOfReceipt view served) events
first_attaches view served from [] own = tt
first_attaches view served from (event ∷ past) own = (mark_apart view served from past event own.0, first_attaches view served from past own.1)

module _ {S C : Type 0} (key : S → List ℕ) (left : S → ℕ) (accepts : C → Accepts) (checks : Accepts) (roster config : List Member) (limits : Limits checks) (ids : HaveIds config) (own : EntryCallsAreOwn) where
  abbrev Run : Type 0
  Run = Running (CellBank S C) C

  abbrev Held : Type 0
  Held = State LyingStore (CellBank S C) C

  abbrev Served_of : Held → List Served
  Served_of state = served_by [] state.link.log

  abbrev View : List ℕ
  View = V key left accepts checks roster config limits ids

  abbrev StaysSo : Held → Held → Type 0
  StaysSo old new = Stays key left accepts checks roster config limits ids old new

  -- What is attached to rows, and what operations were told, are receipts whose marks were signed.
  pub record Marks (run : Run) : Type 0 where
    pub marked : Marked key left accepts checks roster config limits ids run.state
    pub heard : AllHeard key left accepts checks roster config limits ids own (served_in run) run.operations.all

  -- It is so then, and the clients noted replies of no other receipts.
  pub record Signed (old new : Run) : Type 0 where
    pub marks : Marks new
    pub writes : AllWrite (served_in new) old.clients new.clients

  -- the operations stay
  pub marks_by : (old new : Run) → Marks old → StaysSo old.state new.state → new.operations.all ≡ old.operations.all → Marks new
  marks_by old new marks stays same = record {
    marked = stays.marked;
    heard = subst (AllHeard key left accepts checks roster config limits ids own (served_in new)) (sym same)
        (all_heard_on key left accepts checks roster config limits ids own (served_in old) (served_in new) stays.signs old.operations.all marks.heard);
  }

  -- one operation went on
  pub marks_with : (old new : Run) (place : ℕ) (begun : Begun) → Marks old → StaysSo old.state new.state → IsHeard key left accepts checks roster config limits ids own (served_in new) begun
      → new.operations ≡ with_begun old.operations place begun → Marks new
  marks_with old new place begun marks stays is same = record {
    marked = stays.marked;
    heard = subst (λ (o : Operations). AllHeard key left accepts checks roster config limits ids own (served_in new) o.all) (sym same)
        (heard_set key left accepts checks roster config limits ids own (served_in new) old.operations.all place begun is
        (all_heard_on key left accepts checks roster config limits ids own (served_in old) (served_in new) stays.signs old.operations.all marks.heard));
  }

  -- more was signed, over the same rows
  stays_over : (old new : Held) → (held_in new.store).contents ≡ (held_in old.store).contents → new.link.fresh ≡ true → Signs (Served_of old) (Served_of new) → Marked key left accepts checks roster config limits ids old → StaysSo old new
  stays_over old new same fresh signs marked = record {
    marked = record {
      attached = subst (AllMayHave (IsOfReceipt View (Served_of new))) (sym same) (contents_on View (Served_of old) (Served_of new) signs (held_in old.store).contents marked.attached);
      fresh = fresh;
    };
    signs = signs;
  }

  module _ (old new : Run) (marks : Marks old) where
    -- no client did anything
    quiet : new.clients ≡ old.clients → Marks new → Signed old new
    quiet same now = record { marks = now; writes = write_not (served_in new) old.clients new.clients same }

    pub nothing_signed : new ≡ old → Signed old new
    nothing_signed same = quiet (ap (λ (r : Run). r.clients) same) (subst Marks (sym same) marks)

    store_signed : OnlyStore old new → (held_in new.state.store).contents ≡ (held_in old.state.store).contents → Signed old new
    store_signed rest same =
        let log : Served_of new.state ≡ Served_of old.state = ap (λ (r : Run). served_in r) rest in
        quiet (ap (λ (r : Run). r.clients) rest)
        (marks_by old new marks
        (stays_over old.state new.state same (ap (λ (r : Run). r.state.link.fresh) rest ∙ marks.marked.fresh) (signs_same (Served_of old.state) (Served_of new.state) log) marks.marked)
        (ap (λ (r : Run). r.operations.all) rest))

    pub fail_signed : (n : ℕ) → FailsMore old new n → Signed old new
    fail_signed n did = store_signed did.rest did.contents

    pub honest_signed : EndsLies old new → Signed old new
    honest_signed did = store_signed did.rest did.contents

    pub hide_signed : (label : List ℕ) (height : ℕ) → Lies old new (lies.Hide (row_at old new label height)) → Signed old new
    hide_signed label height (rest, did) = store_signed rest did.held

    pub stale_signed : (label : List ℕ) (height from : ℕ) → Lies old new (lies.Stale (row_at old new label height) (row_at old new label from)) → Signed old new
    stale_signed label height from (rest, did) = store_signed rest did.held

    pub fork_signed : (label : List ℕ) (height : ℕ) → Lies old new (lies.Fork (row_at old new label height)) → Signed old new
    fork_signed label height (rest, did) = store_signed rest did.held

    link_signed : OnlyLink old new → new.state.link.fresh ≡ old.state.link.fresh → Signs (Served_of old.state) (Served_of new.state) → Signed old new
    link_signed rest fresh signs =
        quiet (ap (λ (r : Run). r.clients) rest)
        (marks_by old new marks
        (stays_over old.state new.state (ap (λ (r : Run). (held_in r.state.store).contents) rest) (fresh ∙ marks.marked.fresh) signs marks.marked)
        (ap (λ (r : Run). r.operations.all) rest))

    pub restart_signed : DidRestart old new → Signed old new
    restart_signed did =
        let store : new.state.store ≡ old.state.store = ap (λ s. s.store) did.restarted.state in
        let link : new.state.link ≡ old.state.link = ap (λ s. s.link) did.restarted.state in
        quiet did.restarted.clients
        (marks_by old new marks
        (stays_over old.state new.state (ap (λ (s : LyingStore). (held_in s).contents) store) (ap (λ (l : CellBank S C). l.fresh) link ∙ marks.marked.fresh)
        (signs_same (Served_of old.state) (Served_of new.state) (ap (λ (l : CellBank S C). served_by [] l.log) link)) marks.marked)
        (ap (λ (o : Operations). o.all) did.closed))

    module _ (size : S → ℕ) (signs : S → List ℕ → List ℕ → S → Type 0) (fit : S → C → Type 0) (said : List (List ℕ)) where
      pub lose_signed : (id n : ℕ) (which : Loss) → DidLose key left size signs fit accepts checks old new said id which n → Signed old new
      lose_signed id n which did = link_signed did.rest did.fresh (signs_same (Served_of old.state) (Served_of new.state) (ap (λ (log : List BankLine). served_by [] log) did.log))

      -- an endorser was asked directly
      pub raw_signed : (answered : List ℕ → Type 0) → (did : DidRaw key left size signs fit accepts checks old new said answered) (id : ℕ) (call : Call) → AnsweredRaw key left size signs fit old.state.link new.state.link id call did.line
          → Signed old new
      raw_signed answered did id call is =
          let line = asked_line None id call is.answer true in
          let log : Served_of new.state ≡ served_after (Served_of old.state) id call (kept is.answer) =
          ap (λ (log : List BankLine). served_by [] log) is.asks.noted ∙ served_append [] old.state.link.log (line ∷ []) in
          link_signed did.rest did.fresh
          (signs_then (Served_of old.state) (served_after (Served_of old.state) id call (kept is.answer)) (Served_of new.state) (served_on (Served_of old.state) id call (kept is.answer))
          (signs_same (served_after (Served_of old.state) id call (kept is.answer)) (Served_of new.state) log))

      -- the coordinator was asked to set up view 0
      pub genesis_signed : (ids_of : List ℕ) → DidGenesis key left size signs fit accepts checks old new said ids_of → Signed old new
      genesis_signed ids_of did =
          let served = did.says.served in
          let nil : served.events ++ [] ≡ served.events = append-nil served.events in
          let by = stays_marked key left accepts View old.state.store new.state.store old.state.link new.state.link served.events [] served.ran marks.marked (record { links = tt; gots = tt })
          (λ links. first_attaches View (Served_of new.state) old.state.chain served.events served.did.own) in
          quiet (ap (λ (r : Run). r.clients) did.others) (marks_by old new marks (record { marked = by.marked; signs = by.signs }) (ap (λ (r : Run). r.operations.all) did.others))

      -- an open operation made calls
      pub step_signed : Holds key left accepts checks roster config old → (op : List ℕ) (n : ℕ) → DidStep key left size signs fit accepts checks old new said op n → Signed old new
      step_signed holds op n did = quiet (ap (λ (r : Run). r.clients) did.rest) (by did.stepped)
        where
          by : StepsNamed lying_view (bank_view key left accepts) old.state new.state (accepts old.state.checker) old.operations new.operations op n → Marks new
          by (inr (none, operations, state)) =
              marks_by old new marks (stays_not key left accepts checks roster config limits ids old.state new.state state marks.marked) (ap (λ (o : Operations). o.all) operations)
          by (inl stepped) =
              let begun = stepped.begun in
              let is = heard_at key left accepts checks roster config limits ids own (served_in old) old.operations.all stepped.place begun stepped.found.is.stands marks.heard in
              let steps = subst (λ (a : Accepts). Steps lying_view (bank_view key left accepts) old.state new.state a begun.progress stepped.progress n) holds.state.checker stepped.steps in
              let went = steps_heard key left accepts checks roster config limits ids own old.state new.state holds.state marks.marked begun.task begun.progress stepped.progress n steps is.fits is.progress in
              marks_with old new stepped.place (at_progress begun stepped.progress) marks went.0 (record { fits = is.fits; progress = went.1 }) stepped.stands
