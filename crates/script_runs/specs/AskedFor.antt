-- Losses and failures that a run tells of were asked for by lines of its script.
use Rattle.std.specs.Prelude.{◌≤◌, ◌+◌, ◌==◌, ℕ, if◌then◌else◌, List, [], ◌∷◌, Result, Ok, Err}
use Rattle.std.proofs.Common.{inl, inr}
use Rattle.fault_script.specs.Command.{Request, Command, Genesis, Plain, Finish, Retry, LoseRequest, LoseReply, StoreFail}
use Rattle.fault_script.specs.Command as requests
use Rattle.blob_store.specs.LyingStore.{lying_view}
use Rattle.port.specs.Cause.{Cause, MemberCause, WasLost, NoQuorum, StoreFault}
use Rattle.port.specs.Link.{LinkView}
use Rattle.port.specs.Service.{ServiceAnswer, Refused}
use Rattle.port.specs.Store.{StoreView}
use Rattle.view_ledger.specs.Receipts.{Accepts}
use Rattle.client_acts.specs.ClientActs.{ClientActs}
use Rattle.endorser_cell.specs.CellBank.{CellBank, bank_view}
use Rattle.coordinator.specs.State.{State}
use Rattle.script_operations.specs.Giving.{Asks}
use Rattle.script_operations.specs.Task.{Task}
use Rattle.script_world.specs.Running.{Running, acts_of, world_of}
use Rattle.script_world.specs.World.{World}
use Rattle.script_runs.specs.Ids.{IsId}
use Rattle.script_runs.specs.Runs.{DidLine, Does, Runs, SaysOr}

-- ---- what a refusal tells

-- the reason of this member is that it was lost: 1 where it is the one of the id, and else 0
abbrev pub is_loss : ℕ → ℕ → MemberCause → ℕ
is_loss id other WasLost = if id == other then 1 else 0
is_loss id other cause = 0

-- how many of these reasons are `E:lost`, for the endorser of the id
abbrev pub losses_in : ℕ → List (ℕ × MemberCause) → ℕ
losses_in id [] = 0
losses_in id (reason ∷ reasons) = is_loss id reason.0 reason.1 + losses_in id reasons

abbrev pub losses_told : ℕ → Cause → ℕ
losses_told id (NoQuorum need reasons) = losses_in id reasons
losses_told id cause = 0

-- whether a refusal is `storefault`
abbrev pub faults_told : Cause → ℕ
faults_told StoreFault = 1
faults_told cause = 0

-- ---- what a line asks for

-- so many more calls of the endorser are to be lost, be it on their way or on their way back
abbrev pub losses_asked : ℕ → Command → ℕ
losses_asked id (LoseRequest other n) = if other == id then n else 0
losses_asked id (LoseReply other n) = if other == id then n else 0
losses_asked id command = 0

-- so many more calls of the store are to fail
abbrev pub faults_asked : Command → ℕ
faults_asked (StoreFail n) = n
faults_asked command = 0

-- ---- what a line tells

module _ (tells : Cause → ℕ) where
  abbrev pub told_by : ServiceAnswer → ℕ
  told_by (Refused cause) = tells cause
  told_by answer = 0

  abbrev pub told_first : {A : Type 0} → Result A Cause → ℕ
  told_first (Ok value) = 0
  told_first (Err cause) = tells cause

  -- what the coordinator answered to a request that was run at once
  abbrev pub told_at_once : {L C : Type 0} (accepts : C → Accepts) (link_view : L → LinkView) (old new : World L C) (place : ℕ) (request : Request) (line : List ℕ)
      → Does accepts link_view old new place request line → ℕ
  told_at_once accepts link_view old new place (requests.New client label payload) line does = told_by does.asked.answer
  told_at_once accepts link_view old new place (requests.Append client label height payload) line does = told_by does.asked.answer
  told_at_once accepts link_view old new place (requests.Latest client label) line does = told_by does.asked.answer
  told_at_once accepts link_view old new place (requests.At client label height) line does = told_by does.asked.answer
  told_at_once accepts link_view old new place (requests.Reconfigure ids) line does = 0

  -- what it answered where it was asked anew
  abbrev pub told_anew : {S L C : Type 0} (accepts : C → Accepts) (store_view : S → StoreView) (link_view : L → LinkView) (checks : Accepts) (name : List ℕ) (old new : ClientActs C) (before after : State S L C) (task : Task)
      (label line : List ℕ) → Asks accepts store_view link_view checks name old new before after task label line → ℕ
  told_anew accepts store_view link_view checks name old new before after task label line (inl done) = 0
  told_anew accepts store_view link_view checks name old new before after task label line (inr anew) = told_by anew.answer

  -- so much of the line that was said, where one was
  abbrev pub told_said : {Q : Type 0} {P : List ℕ → Type 0} {said : List (List ℕ)} → ((line : List ℕ) → P line → ℕ) → SaysOr Q P said → ℕ
  told_said measure (inl told) = measure told.0 told.2
  told_said measure (inr none) = 0

module _ {S C : Type 0} (key : S → List ℕ) (left size : S → ℕ) (signs : S → List ℕ → List ℕ → S → Type 0) (fit : S → C → Type 0) (accepts : C → Accepts) (key_of : ℕ → List ℕ) (left_of : ℕ → ℕ) (checks : Accepts) where
  -- A line tells what the coordinator, or the operation that came to its end, answered, be its client given that or not. All other lines tell
  -- nothing of the kind.
  abbrev pub told_in : (tells : Cause → ℕ) (old new : Running (CellBank S C) C) (said : List (List ℕ)) (command : Command) → DidLine key left size signs fit accepts key_of left_of checks old new said command → ℕ
  told_in tells old new said (Genesis ids) did = told_first tells did.answer
  told_in tells old new said (Plain request) did = told_at_once tells accepts (bank_view key left accepts) (world_of did.asking) (world_of new) did.place request did.line did.does
  told_in tells old new said (Finish op) did = told_said tells (λ line finished. told_by tells finished.end.answer) did.told
  told_in tells old new said (Retry op) did =
      told_said tells
      (λ line retried. told_anew tells accepts lying_view (bank_view key left accepts) checks op (acts_of old) (acts_of new) old.state new.state retried.begun.task retried.begun.label line retried.asked)
      did.told
  told_in tells old new said command did = 0

  -- Up to each line no more is told than lines asked for by then. So much was told before, and so much was asked for.
  abbrev pub AreAskedFor : (tells : Cause → ℕ) (asks : Command → ℕ) (told asked : ℕ) (script : List Command) (old new : Running (CellBank S C) C) (printed : List (List ℕ))
      → Runs key left size signs fit accepts key_of left_of checks script old new printed → Type 0
  AreAskedFor tells asks told asked [] old new printed ran = Unit {0}
  AreAskedFor tells asks told asked (command ∷ commands) old new printed (middle, said, rest, did, ran, split) =
      (told + told_in tells old middle said command did ≤ asked + asks command)
      × AreAskedFor tells asks (told + told_in tells old middle said command did) (asked + asks command) commands middle new rest ran

  -- Up to each line, the printed `E:lost` of each endorser E from 1 to 64 are at most as many as the numbers of the `lose` lines for it add up to.
  abbrev pub LossesWereAskedFor : (script : List Command) (first last : Running (CellBank S C) C) (printed : List (List ℕ)) → Runs key left size signs fit accepts key_of left_of checks script first last printed → Type 0
  LossesWereAskedFor script first last printed ran = (id : ℕ) → IsId id → AreAskedFor (losses_told id) (losses_asked id) 0 0 script first last printed ran

  -- Up to each line, the printed `storefault` are at most as many as the numbers of the `store fail` lines add up to.
  abbrev pub StoreFaultsWereAskedFor : (script : List Command) (first last : Running (CellBank S C) C) (printed : List (List ℕ)) → Runs key left size signs fit accepts key_of left_of checks script first last printed → Type 0
  StoreFaultsWereAskedFor script first last printed ran = AreAskedFor faults_told faults_asked 0 0 script first last printed ran
