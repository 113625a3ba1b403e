-- What a line that begins an operation, or gives a client its answer, does to a run in which all know one view alone.
use Rattle.std.proofs.Common.{◌≡◌, ◌⊎◌, inl, inr, ℕ, List, [], ◌∷◌, true, Option, refl, sym, ap, subst, ◌∙◌}
use Rattle.std.specs.List.{AllByRecursion}
use Rattle.fault_script.specs.Command.{Request}
use Rattle.fault_script.specs.Command as requests
use Rattle.statement.specs.declared.member.Member.{Member}
use Rattle.statement.specs.Statement.{view_of}
use Rattle.chain_block.specs.declared.entry.Entry.{Entry}
use Rattle.blob_store.specs.declared.lying_store.LyingStore.{LyingStore}
use Rattle.blob_store.specs.LyingStore.{lying_view}
use Rattle.port.specs.Reply.{LatestReply}
use Rattle.view_ledger.specs.Views.{ViewChain, newest_tail}
use Rattle.view_ledger.specs.Receipts.{Accepts}
use Rattle.verifier.specs.Outcomes.{is_known}
use Rattle.client_pass.specs.ClientPass.{ClientPass}
use Rattle.endorser_cell.specs.CellBank.{AreServed, CellBank, bank_view}
use Rattle.coordinator.specs.State.{State}
use Rattle.script_operations.specs.Ending.{Ends}
use Rattle.script_operations.specs.Giving.{Asks, NoneReads}
use Rattle.script_operations.specs.Operations.{Begun, IsFresh, NoneIsNamed, NoneIsOpen, Operations}
use Rattle.script_operations.specs.Task.{Height, Newest, Own, Task, client_of}
use Rattle.script_world.specs.Begun.{DrewOnly}
use Rattle.script_world.specs.Carried.{Finished, Forged, GivenReply, NothingOffered, Offered, Opened, ReplyOffered, Retried}
use Rattle.script_world.specs.Running.{Running, acts_of, world_of}
use Rattle.script_world.specs.Served.{HasLawfulList}
use Rattle.script_world.specs.World.{World}
use Rattle.script_runs.specs.Accepted.{AsksAccepted, GivenAccepted, GivenJudged, OfferedJudged, OnSaid}
use Rattle.script_runs.specs.Runs.{Began, DidBegin, Forges, Opens, SaysOr}
use Rattle.script_runs.proofs.Going.{EntryCallsAreOwn, IsBare, IsGoing, begins_going, ends_good}
use Rattle.script_runs.proofs.OneState.{OneState, alone, task_good}
use Rattle.script_runs.proofs.OneViewHolds.{AreGoing, AreOne, Holds, IsOne, WorldHolds, all_push, all_set, came_holds, closed_going, done_kept, from_world, gave_accepted, given_accepted, given_judged, in_world, one_of}
use Rattle.script_runs.proofs.SignedIn.{offered_in}
use Rattle.script_runs.proofs.Standing.{Means, newest_known}

module _ {S C : Type 0} (key : S → List ℕ) (left size : S → ℕ) (signs : S → List ℕ → List ℕ → S → Type 0) (fit : S → C → Type 0) (accepts : C → Accepts) (key_of : ℕ → List ℕ) (left_of : ℕ → ℕ) (checks : Accepts)
    (roster config : List Member) (means : Means) (own : EntryCallsAreOwn) where
  abbrev AllHold : Running (CellBank S C) C → Type 0
  AllHold running = Holds key left accepts checks roster config running

  abbrev StateHolds : State LyingStore (CellBank S C) C → Type 0
  StateHolds state = OneState key left accepts checks roster config state

  abbrev InWorld : World (CellBank S C) C → Type 0
  InWorld world = WorldHolds key left accepts checks roster config world

  abbrev Goes : Begun → Type 0
  Goes begun = IsGoing checks (alone roster config) begun.task begun.progress

  going_by : (old new : Operations) → new ≡ old → AreGoing key left accepts checks roster config old.all → AreGoing key left accepts checks roster config new.all
  going_by old new same going = subst (λ (operations : Operations). AreGoing key left accepts checks roster config operations.all) (sym same) going

  drew_holds : (old new : World (CellBank S C) C) (place : ℕ) (intent : Option Entry) → DrewOnly old new place intent → InWorld old → InWorld new
  drew_holds old new place intent drew holds =
      let one = one_of (IsOne key left accepts checks roster config) old.clients place drew.from holds.clients drew.stood in
      record {
        state = subst StateHolds (sym drew.state) holds.state;
        first = drew.first ∙ holds.first;
        clients =
            subst (AreOne key left accepts checks roster config) (sym drew.stands)
            (all_set (IsOne key left accepts checks roster config) old.clients place drew.to holds.clients
            (ap (λ (p : ClientPass C). p.chain) drew.drew.noted ∙ one.0, ap (λ (p : ClientPass C). accepts p.checker) drew.drew.noted ∙ one.1));
      }

  began_holds : (old new : World (CellBank S C) C) (place : ℕ) (request : Request) → Began old new place request → InWorld old → InWorld new
  began_holds old new place (requests.New client label payload) began holds = drew_holds old new place _ began.drew holds
  began_holds old new place (requests.Append client label height payload) began holds = drew_holds old new place _ began.drew holds
  began_holds old new place (requests.Latest client label) began holds = drew_holds old new place _ began.drew holds
  began_holds old new place (requests.At client label height) began holds = subst InWorld (sym began) holds
  began_holds old new place (requests.Reconfigure ids) began holds = absurd began

  opened_going : (old new : Running (CellBank S C) C) (op : List ℕ) (task : Task) (label : List ℕ) → IsBare task → Opened old new op task label → AllHold old → AreGoing key left accepts checks roster config new.operations.all
  opened_going old new op task label is opened holds =
      let fresh = subst (λ (chain : ViewChain). IsFresh chain task opened.begun.progress) holds.state.chain opened.begun.fresh in
      let begun : Begun = record { task = task; label = label; progress = opened.begun.progress } in
      subst (AreGoing key left accepts checks roster config) (sym opened.begun.more.all)
      (all_push Goes old.operations.all begun holds.operations (begins_going checks (alone roster config) task opened.begun.progress is fresh))

  opens_going : (old new : Running (CellBank S C) C) (place : ℕ) (op : List ℕ) (request : Request) → Opens old new place op request → AllHold old → AreGoing key left accepts checks roster config new.operations.all
  opens_going old new place op (requests.New client label payload) (draw, drew, opened) holds = opened_going old new op (Own place draw _) label refl opened holds
  opens_going old new place op (requests.Append client label height payload) (draw, drew, opened) holds = opened_going old new op (Own place draw _) label refl opened holds
  opens_going old new place op (requests.Latest client label) (draw, drew, opened) holds = opened_going old new op (Newest place draw _ _) label tt opened holds
  opens_going old new place op (requests.At client label height) opened holds = opened_going old new op (Height place _ height) label tt opened holds
  opens_going old new place op (requests.Reconfigure ids) opens holds = absurd opens

  module _ (old new : Running (CellBank S C) C) (said : List (List ℕ)) (holds : AllHold old) where
    pub begin_line : (op : List ℕ) (request : Request) → DidBegin key left size signs fit accepts checks old new said op request → AllHold new
    begin_line op request did =
        let asking = came_holds key left accepts checks roster config old did.asking _ did.place did.came holds in
        from_world key left accepts checks roster config new (began_holds (world_of did.asking) (world_of new) did.place request did.began (in_world key left accepts checks roster config did.asking asking))
        (opens_going did.asking new did.place op request did.opens asking)

    abbrev WasKept : Type 0
    WasKept = OneState key left accepts checks roster config new.state × AreOne key left accepts checks roster config new.clients

    held : WasKept → new.first ≡ old.first → AreGoing key left accepts checks roster config new.operations.all → AllHold new
    held kept first going = record { state = kept.0; first = first ∙ holds.first; clients = kept.1; operations = going }

    finished_line : (op line : List ℕ) → new.first ≡ old.first → (finished : Finished key left accepts checks old new op line)
        → AllHold new
        × GivenAccepted checks op finished.begun.task finished.begun.label (acts_of old) (acts_of new) finished.end.middle new.state finished.end.answer line finished.end.given
    finished_line op line first finished =
        let end = finished.end in
        let going = one_of Goes old.operations.all finished.place finished.begun holds.operations finished.found.is.stands in
        let ends = subst (λ (a : Accepts). Ends a finished.begun.progress end.came.events end.answer) holds.state.checker end.came.ended in
        let both =
        ends_good key left accepts checks roster config own old.state end.middle holds.state means end.came.events end.came.calls end.answer finished.begun.task finished.begun.progress going ends in
        let given =
        given_accepted key left accepts checks roster config (acts_of old) (acts_of new) end.middle new.state both.0 holds.clients op finished.begun.task finished.begun.label end.answer line both.1 end.given in
        (held given.1 first (closed_going key left accepts checks roster config old.operations new.operations finished.place finished.begun holds.operations finished.closed), given.0)

    pub finish_told : (op : List ℕ) → new.first ≡ old.first → (told : SaysOr (NoneIsOpen old.operations op × (new ≡ old)) (Finished key left accepts checks old new op) said)
        → AllHold new
        × OnSaid
        (λ (line : List ℕ) (finished : Finished key left accepts checks old new op line).
        GivenAccepted checks op finished.begun.task finished.begun.label (acts_of old) (acts_of new) finished.end.middle new.state finished.end.answer line finished.end.given) told
    finish_told op first (inl (line, one, finished)) = finished_line op line first finished
    finish_told op first (inr (none, (open_none, same))) = (subst AllHold (sym same) holds, tt)

    asked_line : (op : List ℕ) (task : Task) (label line : List ℕ) → new.first ≡ old.first → new.operations ≡ old.operations
        → (asks : Asks accepts lying_view (bank_view key left accepts) checks op (acts_of old) (acts_of new) old.state new.state task label line)
        → AllHold new × AsksAccepted accepts lying_view (bank_view key left accepts) checks op (acts_of old) (acts_of new) old.state new.state task label line asks
    asked_line op task label line first same (inl done) =
        (held (done_kept key left accepts checks roster config (acts_of old) (acts_of new) old.state new.state holds.state holds.clients op task label line done) first (going_by old.operations new.operations same holds.operations), tt)
    asked_line op task label line first same (inr anew) =
        let both = task_good key left accepts checks roster config means old.state anew.middle holds.state task anew.answer anew.says in
        let given = gave_accepted key left accepts checks roster config (acts_of old) (acts_of new) anew.middle new.state both.0 holds.clients (client_of task) task label anew.answer line both.1 anew.given.gave in
        (held given.1 first (going_by old.operations new.operations same holds.operations), given.0)

    pub retry_told : (op : List ℕ) → new.first ≡ old.first → new.operations ≡ old.operations → (told : SaysOr (NoneIsNamed old.operations op × (new ≡ old)) (Retried key left accepts checks old new op) said)
        → AllHold new
        × OnSaid
        (λ (line : List ℕ) (retried : Retried key left accepts checks old new op line).
        AsksAccepted accepts lying_view (bank_view key left accepts) checks op (acts_of old) (acts_of new) old.state new.state retried.begun.task retried.begun.label line retried.asked) told
    retry_told op first same (inl (line, one, retried)) = asked_line op retried.begun.task retried.begun.label line first same retried.asked
    retry_told op first same (inr (none, (named_none, all))) = (subst AllHold (sym all) holds, tt)

    -- the client was given a reply of this view
    reply_line : (op : List ℕ) (reply : LatestReply) (line : List ℕ) → new.first ≡ old.first → view_of reply.receipt.statement ≡ newest_tail (config ∷ []) → (given : GivenReply key left accepts checks old new op reply line)
        → AllHold new × GivenJudged checks (config ∷ []) op given.begun.task given.begun.label (acts_of old) (acts_of new) old.state new.state reply line given.takes.given
    reply_line op reply line first view given =
        let known : is_known (config ∷ []) (view_of reply.receipt.statement) ≡ true = ap (is_known (config ∷ [])) view ∙ newest_known (config ∷ []) 0 refl in
        let (client, draw, handle, nonce, is, goes) = given.takes.reads in
        let judged =
        given_judged key left accepts checks roster config (acts_of old) (acts_of new) old.state new.state holds.state holds.clients op given.begun.task given.begun.label reply line client draw handle nonce is known
        given.takes.given in
        (held judged.1 first (closed_going key left accepts checks roster config old.operations new.operations given.place given.begun holds.operations given.closed), judged.0)

    offered_line : (op ids line : List ℕ) → new.first ≡ old.first → AreServed old.state.link → AllByRecursion (HasLawfulList key accepts old.state.link) ids → (offered : Offered key left accepts checks old new op ids line)
        → AllHold new × OfferedJudged key left size signs fit accepts key_of left_of checks (config ∷ []) old new op offered.handle offered.nonce ids line offered.told
    offered_line op ids line first served lists offered = judged offered.told
      where
        judged : (told : NothingOffered key left accepts checks old new op offered.handle offered.nonce ids line ⊎ ReplyOffered key left accepts checks old new op offered.handle offered.nonce ids line)
            → AllHold new × OfferedJudged key left size signs fit accepts key_of left_of checks (config ∷ []) old new op offered.handle offered.nonce ids line told
        judged (inl nothing) =
            let reading = offered.reading in
            let begun : Begun = record { task = Newest offered.client reading.draw offered.handle offered.nonce; label = reading.label; progress = reading.progress } in
            let closed = nothing.closed reading.place begun reading.found in
            let same = nothing.rest in (
              record {
                state = subst StateHolds (sym (ap (λ (r : Running (CellBank S C) C). r.state) same)) holds.state;
                first = first ∙ holds.first;
                clients = subst (AreOne key left accepts checks roster config) (sym (ap (λ (r : Running (CellBank S C) C). r.clients) same)) holds.clients;
                operations = closed_going key left accepts checks roster config old.operations new.operations reading.place begun holds.operations closed;
              },
              tt,
            )
        judged (inr made) =
            reply_line op made.reply line first
            (offered_in (newest_tail (config ∷ [])) key accepts old.state.link holds.state.link served offered.handle offered.nonce ids made.reply.receipt lists made.offered.receipt)
            made.given

    pub offer_told : (op ids : List ℕ) → new.first ≡ old.first → AreServed old.state.link → AllByRecursion (HasLawfulList key accepts old.state.link) ids
        → (told : SaysOr (NoneReads old.operations op × (new ≡ old)) (Offered key left accepts checks old new op ids) said)
        → AllHold new
        × OnSaid
        (λ (line : List ℕ) (offered : Offered key left accepts checks old new op ids line).
        OfferedJudged key left size signs fit accepts key_of left_of checks (config ∷ []) old new op offered.handle offered.nonce ids line offered.told) told
    offer_told op ids first served lists (inl (line, one, offered)) = offered_line op ids line first served lists offered
    offer_told op ids first served lists (inr (none, (no_read, same))) = (subst AllHold (sym same) holds, tt)

    forged_line : (op : List ℕ) (count : ℕ) (signers : List (ℕ × S)) (line : List ℕ) → new.first ≡ old.first → (forged : Forged key left accepts checks old new op signs count signers line)
        → AllHold new × GivenJudged checks (config ∷ []) op forged.given.begun.task forged.given.begun.label (acts_of old) (acts_of new) old.state new.state forged.reply line forged.given.takes.given
    forged_line op count signers line first forged =
        let one = one_of (IsOne key left accepts checks roster config) old.clients forged.client forged.pass holds.clients forged.stood in
        reply_line op forged.reply line first (ap view_of forged.forged.statement ∙ ap (λ (c : ViewChain). newest_tail c.configs) one.0) forged.given

    pub forge_told : (op : List ℕ) (count : ℕ) (ids : List ℕ) → new.first ≡ old.first
        → (told : SaysOr (NoneReads old.operations op × (new ≡ old)) (Forges key left size signs fit accepts key_of left_of checks old new said op count ids) said)
        → AllHold new
        × OnSaid
        (λ (line : List ℕ) (forges : Forges key left size signs fit accepts key_of left_of checks old new said op count ids line).
        GivenJudged checks (config ∷ []) op forges.forged.given.begun.task forges.forged.given.begun.label (acts_of old) (acts_of new) old.state new.state forges.forged.reply line forges.forged.given.takes.given) told
    forge_told op count ids first (inl (line, one, forges)) = forged_line op count forges.signers line first forges.forged
    forge_told op count ids first (inr (none, (no_read, same))) = (subst AllHold (sym same) holds, tt)
