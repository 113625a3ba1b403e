-- What the lines of a script make of a run, one after the other, and what it prints.
use Rattle.std.specs.Prelude.{◌≡◌, ◌≢◌, ◌⊎◌, ◌+◌, ◌-◌, ◌^◌, ℕ, min, true, List, [], ◌∷◌, ◌++◌, length, map, Result, Ok, Err, Option, Some, None}
use Rattle.std.specs.List.{AllByRecursion}
use Rattle.nim_base.specs.Text.{Content}
use Rattle.fault_script.specs.Command.{Request, Command, Genesis, Plain, Restart, Begin, Step, Finish, Retry, LoseRequest, LoseReply, StoreFail, StoreHide, StoreStale, StoreFork, StoreHonest, RawAppend, RawLatest, RawShow, RawFinalize, Offer, Forge, End}
use Rattle.fault_script.specs.Command as requests
use Rattle.fault_script.specs.Limits.{is_served}
use Rattle.fault_script.specs.Within.{IsWithin}
use Rattle.port.specs.Call.{Latest, Show}
use Rattle.port.specs.Cause.{Cause, NoMemory}
use Rattle.port.specs.View.{ViewRow}
use Rattle.port.specs.declared.key.Key.{Key}
use Rattle.port.specs.declared.key.Key.TheVariants.{Row}
use Rattle.blob_store.specs.LyingStore.{lying_view, held_in}
use Rattle.blob_store.specs.MemStore.{itself, never}
use Rattle.blob_store.specs.declared.lie.Lie.{Lie}
use Rattle.blob_store.specs.declared.lie.Lie.TheVariants as lies
use Rattle.port.specs.Link.{LinkView}
use Rattle.view_ledger.specs.Receipts.{Accepts}
use Rattle.endorser_cell.specs.Asking.{LosesMore}
use Rattle.endorser_cell.specs.CellBank.{AreServed, CellBank, bank_view}
use Rattle.endorser_cell.specs.declared.losses.Loss.{Loss}
use Rattle.endorser_cell.specs.declared.losses.Loss.TheVariants as losses
use Rattle.client_acts.specs.declared.turn.Turn.{Turn}
use Rattle.client_acts.specs.Turns.{turn_of}
use Rattle.roster_bank.specs.Counting.{served_count}
use Rattle.coordinator.specs.Entries.{first_entry, later_entry}
use Rattle.coordinator.specs.First.{SaysOfFirst}
use Rattle.reply_lines.specs.Causes.{refusal_line}
use Rattle.reply_lines.specs.Lines.{view_line}
use Rattle.answer_lines.specs.Draws.{DrewEntry, DrewRead}
use Rattle.script_operations.specs.Giving.{NoneReads}
use Rattle.script_operations.specs.Operations.{NoneIsNamed, NoneIsOpen}
use Rattle.script_operations.specs.Task.{Own, Newest, Height}
use Rattle.script_world.specs.Begun.{BeganAppend, BeganLatest, BeganNew}
use Rattle.script_world.specs.Faults.{LiesSo}
use Rattle.script_world.specs.Carried.{CameAs, Finished, Forged, KeepsNames, Offered, Opened, Retried, Stepped}
use Rattle.script_world.specs.Going.{GoesOn}
use Rattle.script_world.specs.Labels.{handle_for}
use Rattle.script_world.specs.Lines.{Restarted, MadeLedger, Appended, ReadNewest, ReadHeight}
use Rattle.script_world.specs.Nonce.{nonce}
use Rattle.script_world.specs.Raw.{AnsweredRaw, AppendedRaw, OnlyLink, OnlyStore}
use Rattle.script_world.specs.Running.{AreTurnsCounted, Running, world_of}
use Rattle.script_world.specs.Served.{HasLawfulList}
use Rattle.script_world.specs.World.{World}

-- a line that can be run: it keeps the limits of its words, and lines may say it
abbrev pub CanRun : Command → Type 0
CanRun command = IsWithin command × (is_served command ≡ true)

abbrev pub AllCanRun : List Command → Type 0
AllCanRun [] = Unit {0}
AllCanRun (command ∷ commands) = CanRun command × AllCanRun commands

-- the bytes of a line, where there is one
abbrev pub said_in : Option Content → List (List ℕ)
said_in None = []
said_in (Some line) = line.bytes ∷ []

-- what the first line is answered: view 0 with its ids, or why it wasn't set up
abbrev pub first_line : List ℕ → Result ViewRow Cause → List ℕ
first_line ids (Ok row) = view_line 0 ids
first_line ids (Err cause) = refusal_line [] cause

-- One line is said, of which this holds; or none is, and then that.
abbrev pub SaysOr : Type 0 → (List ℕ → Type 0) → List (List ℕ) → Type 0
SaysOr Q P said = ((line : List ℕ) × (said ≡ line ∷ []) × P line) ⊎ ((said ≡ []) × Q)

-- the name of the client who asks; a reconfigure has none
abbrev pub client_in : Request → List ℕ
client_in (requests.New client label payload) = client
client_in (requests.Append client label height payload) = client
client_in (requests.Latest client label) = client
client_in (requests.At client label height) = client
client_in (requests.Reconfigure ids) = []

-- what the client at this place asked for was done, and this is the line that says so
abbrev pub Does : {L C : Type 0} → (C → Accepts) → (L → LinkView) → World L C → World L C → ℕ → Request → List ℕ → Type 0
Does accepts lv old new place (requests.New client label payload) line = MadeLedger accepts lv old new place label payload line
Does accepts lv old new place (requests.Append client label height payload) line = Appended accepts lv old new place label height payload line
Does accepts lv old new place (requests.Latest client label) line = ReadNewest accepts lv old new place label line
Does accepts lv old new place (requests.At client label height) line = ReadHeight accepts lv old new place label height line
Does accepts lv old new place (requests.Reconfigure ids) line = ⊥

-- what the client at this place asked for was begun as an operation: what it draws, and what its label means then
abbrev pub Began : {L C : Type 0} → World L C → World L C → ℕ → Request → Type 0
Began old new place (requests.New client label payload) = BeganNew old new place label payload
Began old new place (requests.Append client label height payload) = BeganAppend old new place label height payload
Began old new place (requests.Latest client label) = BeganLatest old new place
Began old new place (requests.At client label height) = new ≡ old
Began old new place (requests.Reconfigure ids) = ⊥

-- the turn of what it draws at once, after so many calls
abbrev pub turns_begun : ℕ → ℕ → Request → List Turn
turns_begun place calls (requests.New client label payload) = turn_of place calls 1 ∷ []
turns_begun place calls (requests.Append client label height payload) = turn_of place calls 1 ∷ []
turns_begun place calls (requests.Latest client label) = turn_of place calls 1 ∷ []
turns_begun place calls (requests.At client label height) = []
turns_begun place calls (requests.Reconfigure ids) = []

-- An operation for it was opened under this name: it is of the client at this place, and of the draw that the client made.
abbrev pub Opens : {L C : Type 0} → Running L C → Running L C → ℕ → List ℕ → Request → Type 0
Opens old new place op (requests.New client label payload) =
    (draw : ℕ) × DrewEntry new.clients place draw (first_entry (nonce old.draws) payload)
    × Opened old new op (Own place draw (first_entry (nonce old.draws) payload)) label
Opens old new place op (requests.Append client label height payload) =
    (draw : ℕ) × DrewEntry new.clients place draw (later_entry (handle_for (world_of old).labels label) height (nonce old.draws) payload)
    × Opened old new op (Own place draw (later_entry (handle_for (world_of old).labels label) height (nonce old.draws) payload)) label
Opens old new place op (requests.Latest client label) =
    (draw : ℕ) × DrewRead new.clients place draw (nonce old.draws)
    × Opened old new op (Newest place draw (handle_for (world_of old).labels label) (nonce old.draws)) label
Opens old new place op (requests.At client label height) = Opened old new op (Height place (handle_for (world_of old).labels label) height) label
Opens old new place op (requests.Reconfigure ids) = ⊥

-- what a line does that is none of a service's calls
module _ {L C : Type 0} (old new : Running L C) where
  -- so many more calls of the store fail
  pub record FailsMore (n : ℕ) : Type 0 where
    pub rest : OnlyStore old new
    pub due : (held_in new.state.store).due ≡ min ((held_in old.state.store).due + n) (2 ^ 64 - 1 - (lying_view old.state.store).faults)
    pub contents : (held_in new.state.store).contents ≡ (held_in old.state.store).contents
    pub source : (held_in new.state.store).source ≡ (held_in old.state.store).source
    pub forks : (held_in new.state.store).forks ≡ (held_in old.state.store).forks

  -- all lies of the store end
  pub record EndsLies : Type 0 where
    pub rest : OnlyStore old new
    pub source : (held_in new.state.store).source ≡ itself
    pub forks : (held_in new.state.store).forks ≡ never
    pub contents : (held_in new.state.store).contents ≡ (held_in old.state.store).contents
    pub due : (held_in new.state.store).due ≡ (held_in old.state.store).due

  abbrev pub Lies : Lie → Type 0
  Lies lie = OnlyStore old new × LiesSo old.state.store new.state.store lie

  -- the row that a label and a height mean
  abbrev pub row_at : List ℕ → ℕ → Key
  row_at label height = Row (handle_for (world_of old).labels label) height

  -- The coordinator is a new one over view 0 alone, and all operations are closed.
  pub record DidRestart : Type 0 where
    pub restarted : Restarted (world_of old) (world_of new)
    pub closed : new.operations ≡ record { all = old.operations.all; names = old.operations.names; open_from = length old.operations.all }
    pub names : new.names ≡ old.names
    pub turns : new.turns ≡ old.turns

  -- Besides the coordinator, its clients and the operations nothing changed, and no client came.
  pub record GoesWithin : Type 0 where
    pub goes : GoesOn (world_of old) (world_of new)
    pub counted : AreTurnsCounted new
    pub names : new.names ≡ old.names
    pub ledgers : new.ledgers ≡ old.ledgers
    pub draws : new.draws ≡ old.draws

module _ {S C : Type 0} (key : S → List ℕ) (left size : S → ℕ) (signs : S → List ℕ → List ℕ → S → Type 0) (fit : S → C → Type 0) (accepts : C → Accepts) (checks : Accepts) where
  module _ (old new : Running (CellBank S C) C) (said : List (List ℕ)) where
    -- the coordinator was asked to set up view 0
    pub record DidGenesis (ids : List ℕ) : Type 0 where
      pub answer : Result ViewRow Cause
      pub says : SaysOfFirst accepts lying_view (bank_view key left accepts) old.state new.state answer
      pub others : new ≡ record old { state = new.state }
      pub room : answer ≢ Err NoMemory
      pub one : said ≡ first_line ids answer ∷ []

    -- the client of the line was there or came, and what it asked for was done at once
    pub record DidRequest (request : Request) : Type 0 where
      pub place : ℕ
      pub asking : Running (CellBank S C) C
      pub came : CameAs accepts checks old asking (client_in request) place
      pub line : List ℕ
      pub does : Does accepts (bank_view key left accepts) (world_of asking) (world_of new) place request line
      pub keeps : KeepsNames asking new
      pub counted : AreTurnsCounted new
      pub one : said ≡ line ∷ []

    -- the client of the line was there or came, and an operation was begun under this name; nothing was said
    pub record DidBegin (op : List ℕ) (request : Request) : Type 0 where
      pub place : ℕ
      pub asking : Running (CellBank S C) C
      pub came : CameAs accepts checks old asking (client_in request) place
      pub began : Began (world_of asking) (world_of new) place request
      pub opens : Opens asking new place op request
      pub counted : AreTurnsCounted new
      pub turns : new.turns ≡ asking.turns ++ turns_begun place (served_count (bank_view key left accepts asking.state.link)) request
      pub goes : GoesOn (world_of asking) (world_of new)
      pub none : said ≡ []

    -- the open operation of this name made up to so many calls, and nothing was said
    pub record DidStep (op : List ℕ) (n : ℕ) : Type 0 where
      pub rest : new ≡ record old { state = new.state; operations = new.operations }
      pub stepped : Stepped key left accepts checks old new op n
      pub goes : GoesOn (world_of old) (world_of new)
      pub none : said ≡ []

    -- the open operation of this name came to its answer, which its client was given
    pub record DidFinish (op : List ℕ) : Type 0 where
      pub rest : GoesWithin old new
      pub told : SaysOr (NoneIsOpen old.operations op × (new ≡ old)) (Finished key left accepts checks old new op) said

    -- what the operation of this name was begun for was asked anew, and its client was given the answer
    pub record DidRetry (op : List ℕ) : Type 0 where
      pub rest : GoesWithin old new
      pub keeps : KeepsNames old new
      pub told : SaysOr (NoneIsNamed old.operations op × (new ≡ old)) (Retried key left accepts checks old new op) said

    -- the client of the open read of this name was given a reply of what these endorsers had signed
    pub record DidOffer (op ids : List ℕ) : Type 0 where
      pub rest : GoesWithin old new
      pub served : AreServed old.state.link
      pub lists : AllByRecursion (HasLawfulList key accepts old.state.link) ids
      pub told : SaysOr (NoneReads old.operations op × (new ≡ old)) (Offered key left accepts checks old new op ids) said

    -- so many more calls of the endorser are lost
    pub record DidLose (id : ℕ) (which : Loss) (n : ℕ) : Type 0 where
      pub rest : OnlyLink old new
      pub cells : LosesMore old.state.link.cells new.state.link.cells id which n
      pub log : new.state.link.log ≡ old.state.link.log
      pub fresh : new.state.link.fresh ≡ old.state.link.fresh
      pub none : said ≡ []

    -- an endorser was asked directly, and the line says what it answered
    pub record DidRaw (answered : List ℕ → Type 0) : Type 0 where
      pub rest : OnlyLink old new
      pub served : AreServed old.state.link
      pub fresh : new.state.link.fresh ≡ old.state.link.fresh
      pub line : List ℕ
      pub answers : answered line
      pub one : said ≡ line ∷ []

module _ {S C : Type 0} (key : S → List ℕ) (left size : S → ℕ) (signs : S → List ℕ → List ℕ → S → Type 0) (fit : S → C → Type 0) (accepts : C → Accepts) (key_of : ℕ → List ℕ) (left_of : ℕ → ℕ) (checks : Accepts) where
  module _ (old new : Running (CellBank S C) C) (said : List (List ℕ)) where
    -- new signers of these ids made such a reply
    pub record Forges (op : List ℕ) (count : ℕ) (ids line : List ℕ) : Type 0 where
      pub signers : List (ℕ × S)
      pub by : map (λ signer. signer.0) signers ≡ ids
      pub keys : AllByRecursion (λ (signer : ℕ × S). (key signer.1 ≡ key_of signer.0) × (left signer.1 ≡ left_of signer.0)) signers
      pub forged : Forged key left accepts checks old new op signs count signers line

    pub record DidForge (op : List ℕ) (count : ℕ) (ids : List ℕ) : Type 0 where
      pub rest : GoesWithin old new
      pub told : SaysOr (NoneReads old.operations op × (new ≡ old)) (Forges op count ids) said

    -- what a line made of the run, and what it printed
    abbrev pub DidLine : Command → Type 0
    DidLine (Genesis ids) = DidGenesis key left size signs fit accepts checks old new said ids
    DidLine (Plain request) = DidRequest key left size signs fit accepts checks old new said request
    DidLine Restart = DidRestart old new × (said ≡ [])
    DidLine (Begin op request) = DidBegin key left size signs fit accepts checks old new said op request
    DidLine (Step op n) = DidStep key left size signs fit accepts checks old new said op n
    DidLine (Finish op) = DidFinish key left size signs fit accepts checks old new said op
    DidLine (Retry op) = DidRetry key left size signs fit accepts checks old new said op
    DidLine (LoseRequest id n) = DidLose key left size signs fit accepts checks old new said id losses.Request n
    DidLine (LoseReply id n) = DidLose key left size signs fit accepts checks old new said id losses.Reply n
    DidLine (StoreFail n) = FailsMore old new n × (said ≡ [])
    DidLine (StoreHide label height) = Lies old new (lies.Hide (row_at old new label height)) × (said ≡ [])
    DidLine (StoreStale label height from) = Lies old new (lies.Stale (row_at old new label height) (row_at old new label from)) × (said ≡ [])
    DidLine (StoreFork label height) = Lies old new (lies.Fork (row_at old new label height)) × (said ≡ [])
    DidLine StoreHonest = EndsLies old new × (said ≡ [])
    DidLine (RawAppend id label height payload number) = DidRaw key left size signs fit accepts checks old new said (AppendedRaw key left size signs fit old.state new.state.link id (handle_for (world_of old).labels label) height (nonce number) payload)
    DidLine (RawLatest id label number) = DidRaw key left size signs fit accepts checks old new said (AnsweredRaw key left size signs fit old.state.link new.state.link id (Latest (handle_for (world_of old).labels label) (nonce number)))
    DidLine (RawShow id label) = DidRaw key left size signs fit accepts checks old new said (AnsweredRaw key left size signs fit old.state.link new.state.link id (Show (handle_for (world_of old).labels label)))
    DidLine (RawFinalize id ids) = ⊥
    DidLine (Offer op ids) = DidOffer key left size signs fit accepts checks old new said op ids
    DidLine (Forge op count ids) = DidForge op count ids
    DidLine End = (new ≡ old) × (said ≡ [])

  -- the lines were run one after the other, each on what came of those before, and these lines were printed
  abbrev pub Runs : List Command → Running (CellBank S C) C → Running (CellBank S C) C → List (List ℕ) → Type 0
  Runs [] old new printed = (new ≡ old) × (printed ≡ [])
  Runs (command ∷ commands) old new printed =
      (middle : Running (CellBank S C) C) × (said : List (List ℕ)) × (rest : List (List ℕ)) × DidLine old middle said command × Runs commands middle new rest × (printed ≡ said ++ rest)
