-- A coordinator that knows one view, over a store and endorsers that know no other.
use Rattle.std.proofs.Common.{◌≡◌, inl, inr, ℕ, List, [], ◌∷◌, Result, Ok, Err, refl, sym, ap, subst, ◌∙◌}
use Rattle.statement.specs.declared.member.Member.{Member}
use Rattle.blob_store.specs.declared.lying_store.LyingStore.{LyingStore}
use Rattle.blob_store.specs.LyingStore.{held_in, lying_view}
use Rattle.chain_block.specs.declared.entry.Entry.{Entry}
use Rattle.chain_block.specs.declared.entry.Entry.TheVariants as entries
use Rattle.port.specs.Cause.{Cause}
use Rattle.port.specs.Reply.{LatestReply, Standing}
use Rattle.port.specs.Service.{Knew, Refused, Replied, ServiceAnswer, Stood}
use Rattle.port.specs.Trace.{Event, Ran}
use Rattle.port.specs.View.{ViewRow}
use Rattle.view_ledger.specs.Views.{ViewChain, newest_tail, tail_at}
use Rattle.view_ledger.specs.Receipts.{Accepts}
use Rattle.endorser_cell.specs.CellBank.{CellBank, bank_view}
use Rattle.op_entry.specs.Ask as asks
use Rattle.op_entry.specs.Ask.{Ask}
use Rattle.op_latest.specs.LatestSays.{LatestSays}
use Rattle.op_latest.specs.LatestAsked.{LatestAsk, asking_of}
use Rattle.coordinator.specs.Calls.{OfReply, OfStanding, OfViews}
use Rattle.coordinator.specs.Entries.{EntryServed, first_entry, later_entry}
use Rattle.coordinator.specs.First.{SaysOfFirst}
use Rattle.coordinator.specs.Latest.{LatestServed}
use Rattle.coordinator.specs.Says.{SaysOfEntry, SaysOfLatest, SaysOfViews, coordinator_says}
use Rattle.coordinator.specs.State.{State}
use Rattle.coordinator.specs.Views.{ViewsServed}
use Rattle.answer_lines.specs.Giving.{OnlyLearned}
use Rattle.script_operations.specs.Task.{Height, Newest, Own, Task, call_of}
use Rattle.script_runs.proofs.NoFinals.{HasNoFinals, ran_none}
use Rattle.script_runs.proofs.OwnStill.{entry_still, first_still, latest_still, views_still}
use Rattle.script_runs.proofs.ServedStill.{ServedIn, ran_in}
use Rattle.script_runs.proofs.Standing.{AsksFor, AtGood, LatestGood, Means, OwnGood, SaysSo, at_good, latest_good, own_good}
use Rattle.script_runs.proofs.Still.{AreDry, AreStill, grown_none}
use Rattle.script_runs.proofs.Taking.{GoodFor}

-- this holds of each answer, of the kind that the call has
module _ {Q : Type 0} where
  pub of_standing : (P : Result Standing Cause → Type 0) → ((result : Result Standing Cause) → P result → Q) → (answer : ServiceAnswer) → OfStanding P answer → Q
  of_standing P then (Stood standing) is = then (Ok standing) is
  of_standing P then (Replied reply) is = absurd is
  of_standing P then (Knew rows) is = absurd is
  of_standing P then (Refused cause) is = then (Err cause) is

  pub of_reply : (P : Result LatestReply Cause → Type 0) → ((result : Result LatestReply Cause) → P result → Q) → (answer : ServiceAnswer) → OfReply P answer → Q
  of_reply P then (Stood standing) is = absurd is
  of_reply P then (Replied reply) is = then (Ok reply) is
  of_reply P then (Knew rows) is = absurd is
  of_reply P then (Refused cause) is = then (Err cause) is

  of_views : (P : Result (List ViewRow) Cause → Type 0) → ((result : Result (List ViewRow) Cause) → P result → Q) → (answer : ServiceAnswer) → OfViews P answer → Q
  of_views P then (Stood standing) is = absurd is
  of_views P then (Replied reply) is = absurd is
  of_views P then (Knew rows) is = then (Ok rows) is
  of_views P then (Refused cause) is = then (Err cause) is

pub standing_more : (P Q : Result Standing Cause → Type 0) → ((result : Result Standing Cause) → P result → Q result) → (answer : ServiceAnswer) → OfStanding P answer → OfStanding Q answer
standing_more P Q more (Stood standing) is = more (Ok standing) is
standing_more P Q more (Replied reply) is = absurd is
standing_more P Q more (Knew rows) is = absurd is
standing_more P Q more (Refused cause) is = more (Err cause) is

pub reply_more : (P Q : Result LatestReply Cause → Type 0) → ((result : Result LatestReply Cause) → P result → Q result) → (answer : ServiceAnswer) → OfReply P answer → OfReply Q answer
reply_more P Q more (Stood standing) is = absurd is
reply_more P Q more (Replied reply) is = more (Ok reply) is
reply_more P Q more (Knew rows) is = absurd is
reply_more P Q more (Refused cause) is = more (Err cause) is

-- the tail of the newest view
abbrev pub view_in : ViewChain → List ℕ
view_in chain = newest_tail chain.configs

-- the chain that has one view alone
abbrev pub alone : List Member → List Member → ViewChain
alone roster config = record { roster = roster; configs = config ∷ [] }

module _ {S C : Type 0} (key : S → List ℕ) (left : S → ℕ) (accepts : C → Accepts) (checks : Accepts) (roster config : List Member) where
  pub record OneState (state : State LyingStore (CellBank S C) C) : Type 0 where
    pub chain : state.chain ≡ alone roster config
    pub checker : accepts state.checker ≡ checks
    pub store : HasNoFinals (held_in state.store)
    pub link : ServedIn (newest_tail (config ∷ [])) state.link

  -- such calls were made over its store and link
  pub after_calls : (old new : State LyingStore (CellBank S C) C) (events : List Event) → OneState old → Ran lying_view (bank_view key left accepts) old.store old.link events new.store new.link
      → AreStill (newest_tail (config ∷ [])) events → new.checker ≡ old.checker → (AreDry events → new.chain ≡ old.chain) → OneState new
  after_calls old new events holds ran still checker chain =
      let went = ran_none (bank_view key left accepts) (newest_tail (config ∷ [])) old.store new.store old.link new.link events ran still holds.store in
      record {
        chain = chain went.1 ∙ holds.chain;
        checker = ap accepts checker ∙ holds.checker;
        store = went.0;
        link = ran_in key left accepts (newest_tail (config ∷ [])) lying_view old.store new.store old.link new.link events ran still holds.link;
      }

  module _ (means : Means) (old new : State LyingStore (CellBank S C) C) (holds : OneState old) where
    served_still : (ask : Ask) (events : List Event) (result : Result Standing Cause) → EntryServed (accepts old.checker) ask old.chain new.chain events result
        → AreStill (newest_tail (config ∷ [])) events × (AreDry events → new.chain ≡ old.chain)
    served_still ask events result served =
        (entry_still (newest_tail (config ∷ [])) (accepts old.checker) ask new.chain.configs events served.own, λ dry. grown_none (accepts old.checker) old.chain new.chain events dry served.grown)

    entry_stays : (ask : Ask) (answer : ServiceAnswer) → SaysOfEntry accepts lying_view (bank_view key left accepts) old new ask answer → OneState new
    entry_stays ask answer says =
        let both = of_standing (EntryServed (accepts old.checker) ask old.chain new.chain says.events) (served_still ask says.events) answer says.did in
        after_calls old new says.events holds says.ran both.0 says.checker both.1

    entry_so : (ask : Ask) (answer : ServiceAnswer) → (says : SaysOfEntry accepts lying_view (bank_view key left accepts) old new ask answer)
        → OfStanding (SaysSo (accepts old.checker) ask old.chain new.chain says.events) answer
    entry_so ask answer says =
        standing_more (EntryServed (accepts old.checker) ask old.chain new.chain says.events) (SaysSo (accepts old.checker) ask old.chain new.chain says.events) (λ result served. served.says) answer says.did

    -- what is good by the coordinator's checker and views is so by these
    here : (P : Accepts → List (List Member) → Type 0) → OneState new → P (accepts old.checker) new.chain.configs → P checks (config ∷ [])
    here P stays is =
        subst (λ (c : List (List Member)). P checks c) (ap (λ (c : ViewChain). c.configs) stays.chain) (subst (λ (a : Accepts). P a new.chain.configs) holds.checker is)

    entry_good : (ask : Ask) (entry : Entry) (answer : ServiceAnswer) → AsksFor ask entry
        → SaysOfEntry accepts lying_view (bank_view key left accepts) old new ask answer → OneState new × OwnGood checks (config ∷ []) entry answer
    entry_good ask entry answer is says =
        let stays = entry_stays ask answer says in (
          stays,
          here (λ a c. OwnGood a c entry answer) stays (own_good means (accepts old.checker) old.chain new.chain says.events ask entry answer is (entry_so ask answer says)),
        )

    read_good : (handle : List ℕ) (height : ℕ) (answer : ServiceAnswer) → SaysOfEntry accepts lying_view (bank_view key left accepts) old new (asks.ReadAt handle height) answer
        → OneState new × AtGood checks (config ∷ []) handle height answer
    read_good handle height answer says =
        let stays = entry_stays (asks.ReadAt handle height) answer says in (
          stays,
          here (λ a c. AtGood a c handle height answer) stays (at_good means (accepts old.checker) old.chain new.chain says.events handle height answer (entry_so (asks.ReadAt handle height) answer says)),
        )

    latest_stills : (ask : LatestAsk) (events : List Event) (result : Result LatestReply Cause) → LatestServed (accepts old.checker) ask old.chain new.chain events result
        → AreStill (newest_tail (config ∷ [])) events × (AreDry events → new.chain ≡ old.chain)
    latest_stills ask events result served =
        (latest_still (newest_tail (config ∷ [])) (accepts old.checker) (asking_of ask new.chain) events served.own, λ dry. grown_none (accepts old.checker) old.chain new.chain events dry served.grown)

    newest_good : (ask : LatestAsk) (answer : ServiceAnswer) → SaysOfLatest accepts lying_view (bank_view key left accepts) old new ask answer
        → OneState new × LatestGood checks (config ∷ []) ask.handle ask.nonce answer
    newest_good ask answer says =
        let both = of_reply (LatestServed (accepts old.checker) ask old.chain new.chain says.events) (latest_stills ask says.events) answer says.did in
        let stays = after_calls old new says.events holds says.ran both.0 says.checker both.1 in (
          stays,
          here (λ a c. LatestGood a c ask.handle ask.nonce answer) stays
              (latest_good means (accepts old.checker) old.chain new.chain says.events ask answer
              (reply_more (LatestServed (accepts old.checker) ask old.chain new.chain says.events) (LatestSays (accepts old.checker) ask new.chain says.events) (λ result served. served.says) answer says.did)),
        )

    views_stills : (number : ℕ) (events : List Event) (result : Result (List ViewRow) Cause) → ViewsServed (accepts old.checker) number old.chain new.chain events result
        → AreStill (newest_tail (config ∷ [])) events × (AreDry events → new.chain ≡ old.chain)
    views_stills number events result served =
        (views_still (newest_tail (config ∷ [])) events served.own, λ dry. grown_none (accepts old.checker) old.chain new.chain events dry served.grown)

    views_stay : (number : ℕ) (answer : ServiceAnswer) → SaysOfViews accepts lying_view (bank_view key left accepts) old new number answer → OneState new
    views_stay number answer says =
        let both = of_views (ViewsServed (accepts old.checker) number old.chain new.chain says.events) (views_stills number says.events) answer says.did in
        after_calls old new says.events holds says.ran both.0 says.checker both.1

    -- what a coordinator answers for a task is good
    pub task_good : (task : Task) (answer : ServiceAnswer) → coordinator_says accepts lying_view (bank_view key left accepts) old new (call_of task) answer → OneState new × GoodFor checks (config ∷ []) task answer
    task_good (Own client draw (entries.Genesis nonce payload)) answer says =
        entry_good (asks.NewLedger (first_entry nonce payload.bytes)) (entries.Genesis nonce payload) answer refl says
    task_good (Own client draw (entries.Later handle height nonce payload)) answer says =
        entry_good (asks.AppendEntry (later_entry handle height nonce payload.bytes)) (entries.Later handle height nonce payload) answer refl says
    task_good (Newest client draw handle nonce) answer says = newest_good (record { handle = handle; nonce = nonce }) answer says
    task_good (Height client handle height) answer says = read_good handle height answer says

  pub learned_stays : Means → (old new : State LyingStore (CellBank S C) C) → OneState old → OnlyLearned accepts lying_view (bank_view key left accepts) old new → OneState new
  learned_stays means old new holds (inl same) = subst OneState (sym same) holds
  learned_stays means old new holds (inr (number, answer, says)) = views_stay means old new holds number answer says

  -- the coordinator was asked to set up view 0
  pub first_stays : (old new : State LyingStore (CellBank S C) C) (answer : Result ViewRow Cause) → OneState old → SaysOfFirst accepts lying_view (bank_view key left accepts) old new answer → OneState new
  first_stays old new answer holds says =
      let did = says.served.did in
      after_calls old new says.served.events holds says.served.ran
      (first_still (newest_tail (config ∷ [])) old.chain (ap (λ (c : ViewChain). tail_at c.configs 0) holds.chain) says.served.events did.own)
      says.served.checker (λ dry. did.same)
