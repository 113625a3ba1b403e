-- Calls of a coordinator, and of an operation that is run by hand, leave only receipts whose marks were signed, and answer with no others.
use Rattle.std.proofs.Common.{◌≡◌, ◌⊎◌, inl, inr, ℕ, List, [], ◌++◌, Result, Ok, Err, refl, sym, ap, subst}
use Rattle.std.proofs.lemmas.List.{append-nil}
use Rattle.blob_store.specs.declared.lying_store.LyingStore.{LyingStore}
use Rattle.blob_store.specs.LyingStore.{lying_view}
use Rattle.chain_block.specs.declared.entry.Entry.TheVariants as entries
use Rattle.statement.specs.declared.member.Member.{Member}
use Rattle.port.specs.Cause.{Cause, Conflict, Gap, NoQuorum, ViewMoved, StoreFault, BadRow, Contended, Full, TooFar, Reused, NoMemory}
use Rattle.port.specs.Link.{Served}
use Rattle.port.specs.Reply.{Standing}
use Rattle.port.specs.Service.{Knew, Refused, Replied, ServiceAnswer, Stood}
use Rattle.port.specs.Store.{Attach, Get, PutNew}
use Rattle.port.specs.Trace.{AtLink, AtStore, Event, Had, Ran}
use Rattle.view_ledger.specs.Receipts.{Accepts}
use Rattle.view_ledger.specs.Views.{ViewChain}
use Rattle.endorser_cell.specs.CellBank.{CellBank, bank_view}
use Rattle.op_entry.specs.Ask.{AppendEntry, Ask, NewLedger, ReadAt}
use Rattle.op_entry.specs.Laws.{IsRefreshGet, OwnCalls}
use Rattle.op_entry.specs.Sound.{IsAnswered}
use Rattle.op_latest.specs.LatestAsked.{LatestAsk, asking_of}
use Rattle.op_latest.specs.LatestOwn.{OwnCalls as LatestCalls}
use Rattle.op_latest.specs.LatestSays.{LatestSays}
use Rattle.coordinator.specs.Calls.{IsUnbegun, OfReply, OfStanding, OfViews}
use Rattle.coordinator.specs.Entries.{EntryServed, first_entry, later_entry}
use Rattle.coordinator.specs.Latest.{LatestServed}
use Rattle.coordinator.specs.Says.{SaysOfEntry, SaysOfLatest, SaysOfViews, coordinator_says}
use Rattle.coordinator.specs.State.{State}
use Rattle.coordinator.specs.Views.{ViewsServed}
use Rattle.answer_lines.specs.Giving.{OnlyLearned}
use Rattle.script_operations.specs.Task.{Height, Newest, Own, Task, ask_for, call_of}
use Rattle.script_runs.proofs.AnswersSigned.{IsResultSigned, answered_signed, latest_signed}
use Rattle.script_runs.proofs.AttachedReceipts.{AllAttach, AreHeard, Attaches, IsMarked, IsOfReceipt, StaysMarked, served_at, stays_marked}
use Rattle.script_runs.proofs.ClientsNote.{IsAnswerSigned}
use Rattle.script_runs.proofs.KeptCalls.{had_all, had_left}
use Rattle.script_runs.proofs.OneState.{OneState, alone, of_reply, reply_more}
use Rattle.script_runs.proofs.OperationCalls.{IsReadCall, ReadCalls, read_calls}
use Rattle.script_runs.proofs.OwnAttaches.{AskFits, HaveIds, Limits, View, own_attach}
use Rattle.script_runs.proofs.SignedCalls.{Signs, signs_same}

-- an entry for which an operation was begun stands at a height of eight bytes
abbrev pub TaskFits : Task → Type 0
TaskFits (Own client draw entry) = AskFits (ask_for entry)
TaskFits (Newest client draw handle nonce) = Unit {0}
TaskFits (Height client handle height) = Unit {0}

unbegun_signed : (served : List Served) (events : List Event) (answer : Result Standing Cause) → IsUnbegun events answer → IsResultSigned served answer
unbegun_signed served events (Ok standing) is = absurd is
unbegun_signed served events (Err (Conflict standing)) is = absurd is
unbegun_signed served events (Err (Gap handle missing)) is = tt
unbegun_signed served events (Err (NoQuorum need reasons)) is = tt
unbegun_signed served events (Err (ViewMoved view id statement sig)) is = tt
unbegun_signed served events (Err StoreFault) is = tt
unbegun_signed served events (Err (BadRow key bytes)) is = tt
unbegun_signed served events (Err (Contended id first later)) is = tt
unbegun_signed served events (Err (Full id)) is = tt
unbegun_signed served events (Err (TooFar needed)) is = tt
unbegun_signed served events (Err (Reused id)) is = tt
unbegun_signed served events (Err NoMemory) is = tt

-- ---- calls that attach nothing

read_attaches : (may : List ℕ → Type 0) (ask : LatestAsk) (past : List Event) (event : Event) → IsReadCall ask past event → Attaches may event
read_attaches may ask past (AtStore (PutNew key body) answer) is = tt
read_attaches may ask past (AtStore (Get key) answer) is = tt
read_attaches may ask past (AtStore (Attach key bytes) answer) is = absurd is
read_attaches may ask past (AtLink id call heard) is = tt

pub read_attach : (may : List ℕ → Type 0) (ask : LatestAsk) (events past : List Event) → ReadCalls ask (events ++ past) → AllAttach may events
read_attach may ask events past own = had_all (Attaches may) events (λ event had. read_attaches may ask (events ++ past) event (own event (had_left events past event had)))

refresh_attaches : (may : List ℕ → Type 0) (event : Event) → IsRefreshGet event → Attaches may event
refresh_attaches may (AtStore (PutNew key body) answer) is = tt
refresh_attaches may (AtStore (Get key) answer) is = tt
refresh_attaches may (AtStore (Attach key bytes) answer) (number, got, inl is) = absurd (cc is)
refresh_attaches may (AtStore (Attach key bytes) answer) (number, got, inr is) = absurd (cc is)
refresh_attaches may (AtLink id call heard) is = tt

views_attach : (may : List ℕ → Type 0) (events : List Event) → ((event : Event) → Had events event → IsRefreshGet event) → AllAttach may events
views_attach may events own = had_all (Attaches may) events (λ event had. refresh_attaches may event (own event had))

-- ---- a coordinator

module _ {S C : Type 0} (key : S → List ℕ) (left : S → ℕ) (accepts : C → Accepts) (checks : Accepts) (roster config : List Member) (limits : Limits checks) (ids : HaveIds config) where
  abbrev Held : Type 0
  Held = State LyingStore (CellBank S C) C

  abbrev pub V : List ℕ
  V = View checks config limits ids

  abbrev pub Marked : Held → Type 0
  Marked state = IsMarked key left accepts V state.store state.link

  abbrev pub served_by_now : Held → List Served
  served_by_now state = served_at key left accepts V state.link

  abbrev One : Held → Type 0
  One state = OneState key left accepts checks roster config state

  -- Calls were made: what is attached is so still, and whatever was signed is.
  pub record Stays (old new : Held) : Type 0 where
    pub marked : Marked new
    pub signs : Signs (served_by_now old) (served_by_now new)

  pub stays_not : (old new : Held) → new ≡ old → Marked old → Stays old new
  stays_not old new same marked = record {
    marked = subst Marked (sym same) marked;
    signs = signs_same (served_by_now old) (served_by_now new) (ap served_by_now same);
  }

  pub stays_then : (old middle new : Held) → Stays old middle → Stays middle new → Stays old new
  stays_then old middle new first next = record { marked = next.marked; signs = λ id statement sig was. next.signs id statement sig (first.signs id statement sig was) }

  -- The calls told what is so, too.
  abbrev pub StaysBy : Held → Held → List Event → Type 0
  StaysBy old new past = StaysMarked key left accepts V old.store old.link new.store new.link past

  -- calls of an operation that knows the view alone
  pub entry_stays : (ask : Ask) (old new : Held) (events past : List Event) (chain : ViewChain) → Ran lying_view (bank_view key left accepts) old.store old.link events new.store new.link → chain ≡ alone roster config
      → AskFits ask → OwnCalls checks ask chain.configs (events ++ past) → Marked old → AreHeard V (served_by_now old) past → StaysBy old new (events ++ past)
  entry_stays ask old new events past chain ran same fits own marked heard =
      let calls = subst (λ (c : ViewChain). OwnCalls checks ask c.configs (events ++ past)) same own in
      stays_marked key left accepts V old.store new.store old.link new.link events past ran marked heard
      (λ links. own_attach checks config limits ids (served_by_now new) (events ++ past) links ask fits calls events past refl)

  pub read_stays : (ask : LatestAsk) (old new : Held) (events past : List Event) → Ran lying_view (bank_view key left accepts) old.store old.link events new.store new.link
      → ReadCalls ask (events ++ past) → Marked old → AreHeard V (served_by_now old) past → StaysBy old new (events ++ past)
  read_stays ask old new events past ran own marked heard =
      stays_marked key left accepts V old.store new.store old.link new.link events past ran marked heard (λ links. read_attach (IsOfReceipt V (served_by_now new)) ask events past own)

  abbrev none_heard : (served : List Served) → AreHeard V served []
  none_heard served = record { links = tt; gots = tt }

  -- ---- whole calls

  -- the answer of a call has such a receipt, where it has one
  pub record Answers (old new : Held) (answer : ServiceAnswer) : Type 0 where
    pub stays : Stays old new
    pub signed : IsAnswerSigned (served_by_now new) answer

  by_stays : (old new : Held) (past : List Event) → StaysBy old new past → Stays old new
  by_stays old new past by = record { marked = by.marked; signs = by.signs }

  entry_result : (ask : Ask) (old new : Held) (events : List Event) (result : Result Standing Cause) → Ran lying_view (bank_view key left accepts) old.store old.link events new.store new.link
      → new.chain ≡ alone roster config → AskFits ask → Marked old → EntryServed checks ask old.chain new.chain events result → Stays old new × IsResultSigned (served_by_now new) result
  entry_result ask old new events result ran same fits marked served =
      let nil : events ++ [] ≡ events = append-nil events in
      let calls = subst (λ (e : List Event). OwnCalls checks ask new.chain.configs e) (sym nil) served.own in
      let by = subst (StaysBy old new) nil (entry_stays ask old new events [] new.chain ran same fits calls marked (none_heard (served_by_now old))) in
      (by_stays old new events by, came by served.came)
    where
      came : StaysBy old new events → IsUnbegun events result ⊎ IsAnswered checks ask old.chain new.chain result events → IsResultSigned (served_by_now new) result
      came by (inl never) = unbegun_signed (served_by_now new) events result never
      came by (inr answered) =
          answered_signed checks roster config limits ids (served_by_now new) old.chain events by.heard ask result
          (subst (λ (c : ViewChain). IsAnswered checks ask old.chain c result events) same answered)

  entry_says : (ask : Ask) (old new : Held) (answer : ServiceAnswer) → SaysOfEntry accepts lying_view (bank_view key left accepts) old new ask answer → One old → One new → AskFits ask → Marked old → Answers old new answer
  entry_says ask old new answer says holds after fits marked = by answer says.did
    where
      each : (result : Result Standing Cause) → EntryServed (accepts old.checker) ask old.chain new.chain says.events result → Stays old new × IsResultSigned (served_by_now new) result
      each result served =
          entry_result ask old new says.events result says.ran after.chain fits marked (subst (λ (a : Accepts). EntryServed a ask old.chain new.chain says.events result) holds.checker served)

      by : (answer : ServiceAnswer) → OfStanding (EntryServed (accepts old.checker) ask old.chain new.chain says.events) answer → Answers old new answer
      by (Stood standing) did = let both = each (Ok standing) did in record { stays = both.0; signed = both.1 }
      by (Refused cause) did = let both = each (Err cause) did in record { stays = both.0; signed = both.1 }
      by (Replied reply) did = absurd did
      by (Knew rows) did = absurd did

  latest_refused : (ask : LatestAsk) (chain : ViewChain) (past : List Event) (served : List Served) (cause : Cause) → LatestSays checks ask chain past (Err cause) → IsResultSigned served (Err cause)
  latest_refused ask chain past served (Conflict standing) says = absurd says
  latest_refused ask chain past served (Gap handle missing) says = tt
  latest_refused ask chain past served (NoQuorum need reasons) says = tt
  latest_refused ask chain past served (ViewMoved view id statement sig) says = tt
  latest_refused ask chain past served StoreFault says = tt
  latest_refused ask chain past served (BadRow row bytes) says = tt
  latest_refused ask chain past served (Contended id first later) says = tt
  latest_refused ask chain past served (Full id) says = tt
  latest_refused ask chain past served (TooFar needed) says = tt
  latest_refused ask chain past served (Reused id) says = tt
  latest_refused ask chain past served NoMemory says = tt

  -- what a read of a newest row answers, by all its calls
  pub reply_signed : (ask : LatestAsk) (chain : ViewChain) (past : List Event) (new : Held) → AreHeard V (served_by_now new) past → (answer : ServiceAnswer) → OfReply (LatestSays checks ask chain past) answer
      → IsAnswerSigned (served_by_now new) answer
  reply_signed ask chain past new heard (Replied reply) says = latest_signed checks ask chain (served_by_now new) past heard.links (Ok reply) says
  reply_signed ask chain past new heard (Refused cause) says = latest_refused ask chain past (served_by_now new) cause says
  reply_signed ask chain past new heard (Stood standing) says = absurd says
  reply_signed ask chain past new heard (Knew rows) says = absurd says

  latest_says : (ask : LatestAsk) (old new : Held) (answer : ServiceAnswer) → SaysOfLatest accepts lying_view (bank_view key left accepts) old new ask answer → One old → Marked old → Answers old new answer
  latest_says ask old new answer says holds marked =
      let nil : says.events ++ [] ≡ says.events = append-nil says.events in
      let did = reply_more (LatestServed (accepts old.checker) ask old.chain new.chain says.events) (λ result. LatestCalls checks (asking_of ask new.chain) says.events × LatestSays checks ask new.chain says.events result)
      (λ result served. (subst (λ (a : Accepts). LatestCalls a (asking_of ask new.chain) says.events) holds.checker served.own, subst (λ (a : Accepts). LatestSays a ask new.chain says.events result) holds.checker served.says))
      answer says.did in
      let own = of_reply (λ result. LatestCalls checks (asking_of ask new.chain) says.events × LatestSays checks ask new.chain says.events result) (λ result both. read_calls checks ask new.chain says.events both.0) answer did in
      let by = subst (StaysBy old new) nil (read_stays ask old new says.events [] says.ran (subst (ReadCalls ask) (sym nil) own) marked (none_heard (served_by_now old))) in
      let said = reply_more (λ result. LatestCalls checks (asking_of ask new.chain) says.events × LatestSays checks ask new.chain says.events result) (LatestSays checks ask new.chain says.events) (λ result both. both.1) answer did in
      record { stays = by_stays old new says.events by; signed = reply_signed ask new.chain says.events new by.heard answer said }

  views_own : (number : ℕ) (old new : Held) (answer : ServiceAnswer) (events : List Event) → OfViews (ViewsServed (accepts old.checker) number old.chain new.chain events) answer → (event : Event) → Had events event → IsRefreshGet event
  views_own number old new (Knew rows) events did = did.own
  views_own number old new (Refused cause) events did = did.own
  views_own number old new (Stood standing) events did = absurd did
  views_own number old new (Replied reply) events did = absurd did

  views_stay : (number : ℕ) (old new : Held) (answer : ServiceAnswer) → SaysOfViews accepts lying_view (bank_view key left accepts) old new number answer → Marked old → Stays old new
  views_stay number old new answer says marked =
      let nil : says.events ++ [] ≡ says.events = append-nil says.events in
      by_stays old new (says.events ++ [])
      (stays_marked key left accepts V old.store new.store old.link new.link says.events [] says.ran marked (none_heard (served_by_now old))
      (λ links. views_attach (IsOfReceipt V (served_by_now new)) says.events (views_own number old new answer says.events says.did)))

  -- nothing was asked, or views were
  pub learned_stays : (old new : Held) → OnlyLearned accepts lying_view (bank_view key left accepts) old new → Marked old → Stays old new
  learned_stays old new (inl same) marked = stays_not old new same marked
  learned_stays old new (inr (number, answer, says)) marked = views_stay number old new answer says marked

  -- what a coordinator answers for a task
  pub task_answers : (task : Task) (old new : Held) (answer : ServiceAnswer) → coordinator_says accepts lying_view (bank_view key left accepts) old new (call_of task) answer → One old → One new → TaskFits task → Marked old
      → Answers old new answer
  task_answers (Own client draw (entries.Genesis nonce payload)) old new answer says holds after fits marked = entry_says (NewLedger (first_entry nonce payload.bytes)) old new answer says holds after fits marked
  task_answers (Own client draw (entries.Later handle height nonce payload)) old new answer says holds after fits marked =
      entry_says (AppendEntry (later_entry handle height nonce payload.bytes)) old new answer says holds after fits marked
  task_answers (Newest client draw handle nonce) old new answer says holds after fits marked = latest_says (record { handle = handle; nonce = nonce }) old new answer says holds marked
  task_answers (Height client handle height) old new answer says holds after fits marked = entry_says (ReadAt handle height) old new answer says holds after tt marked
