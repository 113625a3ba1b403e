-- What the calls of a coordinator, and of an operation that is run by hand, add to what was served, and what they leave.
use Rattle.std.proofs.Common.{◌≡◌, ◌⊎◌, inl, inr, ℕ, List, [], refl, sym, subst}
use Rattle.std.proofs.lemmas.List.{append-nil}
use Rattle.blob_store.specs.declared.lying_store.LyingStore.{LyingStore}
use Rattle.blob_store.specs.LyingStore.{held_in, lying_view}
use Rattle.chain_block.specs.declared.entry.Entry.{Entry}
use Rattle.port.specs.declared.key.Key.{Key}
use Rattle.port.specs.Call.{Call, Append, Latest}
use Rattle.port.specs.Contents.{Contents}
use Rattle.port.specs.Heard.{Heard}
use Rattle.port.specs.Service.{Append as AppendCall, At, Knew, Latest as LatestCall, NewLedger as NewLedgerCall, Refused, Replied, ServiceAnswer, ServiceCall, Stood, Views}
use Rattle.port.specs.Store.{StoreAnswer, StoreCall}
use Rattle.port.specs.Trace.{AtLink, AtStore, Event, Had}
use Rattle.view_ledger.specs.Receipts.{Accepts}
use Rattle.view_ledger.specs.Views.{ViewChain}
use Rattle.endorser_cell.specs.CellBank.{CellBank, bank_view}
use Rattle.op_entry.specs.Ask.{AppendEntry, Ask, NewLedger, ReadAt}
use Rattle.op_entry.specs.Laws.{IsRefreshGet, OwnCalls}
use Rattle.op_entry.specs.Sound.{Sound}
use Rattle.op_entry.specs.State.{State as EntryState}
use Rattle.op_latest.specs.LatestAsked.{LatestAsk, asking_of}
use Rattle.op_latest.specs.LatestOwn.{GaveRow, IsOwnGet, OwnCalls as LatestCalls}
use Rattle.op_latest.specs.LatestSays.{IsIdIn}
use Rattle.op_latest.specs.LatestSound.{LatestSound}
use Rattle.op_latest.specs.LatestState.{State as LatestState}
use Rattle.coordinator.specs.Calls.{OfReply, OfStanding, OfViews}
use Rattle.coordinator.specs.Entries.{EntryServed, first_entry, later_entry}
use Rattle.coordinator.specs.Latest.{LatestServed}
use Rattle.coordinator.specs.Says.{SaysOfEntry, SaysOfLatest, SaysOfViews, coordinator_says}
use Rattle.coordinator.specs.State.{State}
use Rattle.coordinator.specs.Views.{ViewsServed}
use Rattle.answer_lines.specs.Giving.{OnlyLearned}
use Rattle.script_operations.specs.Operations.{Closed, InEntry, InNewest, Progress}
use Rattle.script_operations.specs.Task.{Height, Newest, Own, Task, ask_for}
use Rattle.script_runs.proofs.KeptCalls.{all_append}
use Rattle.script_runs.proofs.LinkCalls.{IsSeen, OwnCall, Went, none_of, went_by, went_not}
use Rattle.script_runs.proofs.OperationCalls.{IsOwnAsk, IsOwnEntry, ReadCalls, entry_asks, entry_puts, read_asks, read_calls, read_puts, views_ask, views_put}
use Rattle.script_runs.proofs.StandingRows.{AllKnown, OneRow}

-- What lower parts promise of rows and of operations' own calls.
pub record OwnLaws : Type 0 where
  pub rows : OneRow
  pub entry : (accepts : Accepts) (ask : Ask) (from : ViewChain) (state : EntryState) (past : List Event) → Sound accepts ask from state past → OwnCalls accepts ask state.chain.configs past
  pub read_store : (accepts : Accepts) (ask : LatestAsk) (from : ViewChain) (state : LatestState) (past : List Event) → LatestSound accepts ask from state past
      → (call : StoreCall) (answer : StoreAnswer) → Had past (AtStore call answer) → IsOwnGet ask.handle call
  pub read_link : (accepts : Accepts) (ask : LatestAsk) (from : ViewChain) (state : LatestState) (past : List Event) → LatestSound accepts ask from state past
      → (id : ℕ) (call : Call) (heard : Heard) → Had past (AtLink id call heard)
      → IsIdIn (asking_of ask state.chain) id
      × ((call ≡ Latest ask.handle ask.nonce)
      ⊎ ((prev entry : List ℕ) × (height : ℕ) × (call ≡ Append ask.handle prev entry height) × GaveRow past ask.handle prev entry height))

pub sound_reads : OwnLaws → (accepts : Accepts) (ask : LatestAsk) (from : ViewChain) (state : LatestState) (past : List Event) → LatestSound accepts ask from state past → ReadCalls ask past
sound_reads laws accepts ask from state past sound (AtStore call answer) had = laws.read_store accepts ask from state past sound call answer had
sound_reads laws accepts ask from state past sound (AtLink id call heard) had = (laws.read_link accepts ask from state past sound id call heard had).1

module _ {S C : Type 0} (key : S → List ℕ) (left : S → ℕ) (accepts : C → Accepts) (laws : OwnLaws) (drawn : Entry → Type 0) (forked : List Key) (reads : List ℕ → List ℕ → Type 0) where
  abbrev Held : Type 0
  Held = State LyingStore (CellBank S C) C

  abbrev pub Seen : Held → Type 0
  Seen state = IsSeen key left accepts drawn forked state.store state.link

  abbrev pub Goes : Held → Held → Type 0
  Goes old new = Went key left accepts drawn forked reads old.store old.link new.store new.link

  -- ---- calls of a coordinator

  whole_entry : (accepted : Accepts) (ask : Ask) (old new : Held) (answer : ServiceAnswer) (events : List Event) → OfStanding (EntryServed accepted ask old.chain new.chain events) answer
      → OwnCalls accepted ask new.chain.configs events
  whole_entry accepted ask old new (Stood standing) events did = did.own
  whole_entry accepted ask old new (Refused cause) events did = did.own
  whole_entry accepted ask old new (Replied reply) events did = absurd did
  whole_entry accepted ask old new (Knew rows) events did = absurd did

  entry_says : (ask : Ask) (old new : Held) (answer : ServiceAnswer) → SaysOfEntry accepts lying_view (bank_view key left accepts) old new ask answer → Seen old → IsOwnAsk drawn ask → Goes old new
  entry_says ask old new answer says seen own =
      let calls = subst (λ (e : List Event). OwnCalls (accepts old.checker) ask new.chain.configs e) (sym (append-nil says.events)) (whole_entry (accepts old.checker) ask old new answer says.events says.did) in
      (went_by key left accepts drawn forked laws.rows reads old.store new.store old.link new.link says.events says.ran seen
      (entry_puts (accepts old.checker) drawn ask new.chain.configs says.events [] own calls)
      (λ holds. entry_asks (accepts old.checker) drawn forked (held_in new.store).contents reads ask new.chain.configs says.events []
      (all_append _ says.events [] holds.known tt) calls)).went

  whole_read : (accepted : Accepts) (ask : LatestAsk) (old new : Held) (answer : ServiceAnswer) (events : List Event) → OfReply (LatestServed accepted ask old.chain new.chain events) answer
      → LatestCalls accepted (asking_of ask new.chain) events
  whole_read accepted ask old new (Replied reply) events did = did.own
  whole_read accepted ask old new (Refused cause) events did = did.own
  whole_read accepted ask old new (Stood standing) events did = absurd did
  whole_read accepted ask old new (Knew rows) events did = absurd did

  read_says : (ask : LatestAsk) (old new : Held) (answer : ServiceAnswer) → SaysOfLatest accepts lying_view (bank_view key left accepts) old new ask answer → Seen old → reads ask.handle ask.nonce → Goes old new
  read_says ask old new answer says seen read =
      let own = read_calls (accepts old.checker) ask new.chain says.events (whole_read (accepts old.checker) ask old new answer says.events says.did) in
      let calls = subst (ReadCalls ask) (sym (append-nil says.events)) own in
      (went_by key left accepts drawn forked laws.rows reads old.store new.store old.link new.link says.events says.ran seen
      (read_puts drawn forked (held_in new.store).contents reads ask says.events [] calls)
      (λ holds. read_asks drawn forked (held_in new.store).contents reads ask says.events [] (all_append _ says.events [] holds.known tt) read calls)).went

  whole_views : (accepted : Accepts) (number : ℕ) (old new : Held) (answer : ServiceAnswer) (events : List Event) → OfViews (ViewsServed accepted number old.chain new.chain events) answer
      → (event : Event) → Had events event → IsRefreshGet event
  whole_views accepted number old new (Knew rows) events did = did.own
  whole_views accepted number old new (Refused cause) events did = did.own
  whole_views accepted number old new (Stood standing) events did = absurd did
  whole_views accepted number old new (Replied reply) events did = absurd did

  -- Views were asked for: no endorser was asked.
  pub record Learned (old new : Held) : Type 0 where
    pub goes : Goes old new
    pub none : goes.more ≡ []

  views_say : (number : ℕ) (old new : Held) (answer : ServiceAnswer) → SaysOfViews accepts lying_view (bank_view key left accepts) old new number answer → Seen old → Learned old new
  views_say number old new answer says seen =
      let own = whole_views (accepts old.checker) number old new answer says.events says.did in
      let by = went_by key left accepts drawn forked laws.rows reads old.store new.store old.link new.link says.events says.ran seen
      (views_put drawn forked (held_in new.store).contents reads says.events own)
      (λ holds. views_ask drawn forked (held_in new.store).contents reads (OwnCall drawn forked (held_in new.store).contents reads) says.events own) in
      record { goes = by.went; none = none_of says.events by.went.more by.serves (views_ask drawn forked (held_in new.store).contents reads (λ call. ⊥) says.events own) }

  -- nothing was asked, or views were
  pub learned_goes : (old new : Held) → OnlyLearned accepts lying_view (bank_view key left accepts) old new → Seen old → Learned old new
  learned_goes old new (inl same) seen = subst (λ (x : Held). Learned old x) (sym same) (record { goes = went_not key left accepts drawn forked reads old.store old.link seen; none = refl })
  learned_goes old new (inr (number, answer, says)) seen = views_say number old new answer says seen

  -- the call is for an entry that was drawn, or it reads what may be read
  abbrev pub MayAsk : ServiceCall → Type 0
  MayAsk (NewLedgerCall nonce payload) = IsOwnEntry drawn (first_entry nonce payload)
  MayAsk (AppendCall handle height nonce payload) = IsOwnEntry drawn (later_entry handle height nonce payload)
  MayAsk (LatestCall handle nonce) = reads handle nonce
  MayAsk (At handle height) = Unit {0}
  MayAsk (Views number) = Unit {0}

  pub says_goes : (call : ServiceCall) (old new : Held) (answer : ServiceAnswer) → coordinator_says accepts lying_view (bank_view key left accepts) old new call answer → Seen old → MayAsk call → Goes old new
  says_goes (NewLedgerCall nonce payload) old new answer says seen may = entry_says (NewLedger (first_entry nonce payload)) old new answer says seen may
  says_goes (AppendCall handle height nonce payload) old new answer says seen may = entry_says (AppendEntry (later_entry handle height nonce payload)) old new answer says seen may
  says_goes (LatestCall handle nonce) old new answer says seen may = read_says (record { handle = handle; nonce = nonce }) old new answer says seen may
  says_goes (At handle height) old new answer says seen may = entry_says (ReadAt handle height) old new answer says seen tt
  says_goes (Views number) old new answer says seen may = (views_say number old new answer says seen).goes

-- ---- operations

-- the operation was begun for this, and it has come so far by calls of which is known what they told
module _ (checks : Accepts) (drawn : Entry → Type 0) (forked : List Key) (contents : Contents) where
  abbrev pub InProgress : Task → Progress → Type 0
  InProgress task Closed = Unit {0}
  InProgress (Own client draw entry) (InEntry state) = (from : ViewChain) × (past : List Event) × Sound checks (ask_for entry) from state past × AllKnown drawn forked contents past
  InProgress (Own client draw entry) (InNewest state) = ⊥
  InProgress (Newest client draw handle nonce) (InNewest state) =
      (from : ViewChain) × (past : List Event) × LatestSound checks (record { handle = handle; nonce = nonce }) from state past × AllKnown drawn forked contents past
  InProgress (Newest client draw handle nonce) (InEntry state) = ⊥
  InProgress (Height client handle height) (InEntry state) = (from : ViewChain) × (past : List Event) × Sound checks (ReadAt handle height) from state past × AllKnown drawn forked contents past
  InProgress (Height client handle height) (InNewest state) = ⊥

-- an entry for which an operation was begun was drawn
abbrev pub IsOwnTask : (Entry → Type 0) → Task → Type 0
IsOwnTask drawn (Own client draw entry) = IsOwnEntry drawn entry
IsOwnTask drawn (Newest client draw handle nonce) = Unit {0}
IsOwnTask drawn (Height client handle height) = Unit {0}

-- what an operation reads
abbrev pub ReadsBy : Task → List ℕ → List ℕ → Type 0
ReadsBy task handle number = (client : ℕ) × (draw : ℕ) × (task ≡ Newest client draw handle number)
