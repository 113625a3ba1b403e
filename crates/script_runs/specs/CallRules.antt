-- The rules of the calls that the endorsers of a run are asked, but for those that `raw` lines ask.
use Rattle.std.specs.Prelude.{◌≡◌, ◌⊎◌, ℕ, Bool, true, false, List, [], ◌∷◌, ◌++◌}
use Rattle.std.specs.List.{AllByRecursion}
use Rattle.chain_block.specs.Entry.{entry_digest}
use Rattle.coordinator.specs.Entries.{later_entry}
use Rattle.fault_script.specs.Command.{Request, Command, Genesis, Plain, Step, Finish, Retry, StoreFork, RawAppend, RawLatest, RawShow}
use Rattle.fault_script.specs.Command as requests
use Rattle.port.specs.declared.key.Key.{Key}
use Rattle.port.specs.declared.key.Key.TheVariants.{Row}
use Rattle.port.specs.Answer.{Done}
use Rattle.port.specs.Call.{Call, Initialize, Activate, Append, Latest, Show}
use Rattle.port.specs.Link.{Served}
use Rattle.view_ledger.specs.Receipts.{Accepts}
use Rattle.endorser_cell.specs.CellBank.{CellBank}
use Rattle.script_operations.specs.Operations.{Begun, IsNamed, Operations}
use Rattle.script_operations.specs.Task.{Newest}
use Rattle.script_world.specs.Labels.{handle_for}
use Rattle.script_world.specs.Nonce.{nonce}
use Rattle.script_world.specs.Running.{Running, world_of}
use Rattle.script_runs.specs.OwnCalls.{IsOfDrawn, Serves, WasDrawn, is_raw, served_in}
use Rattle.script_runs.specs.Runs.{Runs}

-- ---- what a line adds to the calls that were served

-- an append, or a read of a ledger with a nonce of which this holds
abbrev pub IsAppendOr : (List ℕ → List ℕ → Type 0) → Call → Type 0
IsAppendOr reads (Append handle prev entry height) = Unit {0}
IsAppendOr reads (Latest handle number) = reads handle number
IsAppendOr reads call = ⊥

abbrev pub AreAppendsOr : (List ℕ → List ℕ → Type 0) → List Served → Type 0
AreAppendsOr reads more = AllByRecursion (λ (one : Served). IsAppendOr reads one.call) more

-- what a request reads at once: a latest read reads the ledger that its label means, with the nonce that it draws
abbrev pub ReadsNow : {S C : Type 0} → Running (CellBank S C) C → Request → List ℕ → List ℕ → Type 0
ReadsNow old (requests.Latest client label) handle number = (handle ≡ handle_for (world_of old).labels label) × (number ≡ nonce old.draws)
ReadsNow old request handle number = ⊥

-- what an operation of this name reads: the ledger, with the nonce, of the read that it was begun for
abbrev pub ReadsFor : Operations → List ℕ → List ℕ → List ℕ → Type 0
ReadsFor operations op handle number =
    (place : ℕ) × (begun : Begun) × IsNamed operations op place begun × ((client : ℕ) × (draw : ℕ) × (begun.task ≡ Newest client draw handle number))

-- the call by which an endorser comes to belong to a view
abbrev pub IsInitialize : Call → Type 0
IsInitialize (Initialize block config map) = Unit {0}
IsInitialize call = ⊥

-- in these calls the endorser of the id was done with that
abbrev pub WasInitialized : List Served → ℕ → Type 0
WasInitialized [] id = ⊥
WasInitialized (one ∷ past) id = ((one.id ≡ id) × (one.answer ≡ Done) × IsInitialize one.call) ⊎ WasInitialized past id

-- a call of the setting up of view 0 that may be made after these: each endorser begins in the view only once it belongs to it
abbrev pub SetsUp : List Served → ℕ → Call → Type 0
SetsUp past id (Initialize block config map) = Unit {0}
SetsUp past id (Activate view proof) = WasInitialized past id
SetsUp past id call = ⊥

-- each of these calls, the newest first, is such after those before it
abbrev pub AllSetUp : List Served → Type 0
AllSetUp [] = Unit {0}
AllSetUp (one ∷ past) = SetsUp past one.id one.call × AllSetUp past

-- the endorser of the id served one call of which this holds, or, with its list full, none
abbrev pub ServesOnce : ℕ → (Call → Type 0) → List Served → Type 0
ServesOnce id P [] = Unit {0}
ServesOnce id P (one ∷ past) = (one.id ≡ id) × P one.call × (past ≡ [])

-- an append of this entry of a ledger at a height, on whatever tail
abbrev pub IsAppendOf : List ℕ → ℕ → List ℕ → Call → Type 0
IsAppendOf handle height digest (Append ledger prev entry k) = (ledger ≡ handle) × (entry ≡ digest) × (k ≡ height)
IsAppendOf handle height digest call = ⊥

-- `genesis` sets up view 0. A request that is run at once, and an operation, append, and a latest read reads for what it is. A `raw` line
-- asks its endorser its own call. No other line adds a call.
abbrev pub OwnAdds : {S C : Type 0} → Running (CellBank S C) C → Command → List Served → Type 0
OwnAdds old (Genesis ids) more = AllSetUp more
OwnAdds old (Plain request) more = AreAppendsOr (ReadsNow old request) more
OwnAdds old (Step op n) more = AreAppendsOr (ReadsFor old.operations op) more
OwnAdds old (Finish op) more = AreAppendsOr (ReadsFor old.operations op) more
OwnAdds old (Retry op) more = AreAppendsOr (ReadsFor old.operations op) more
OwnAdds old (RawAppend id label height payload number) more =
    ServesOnce id (IsAppendOf (handle_for (world_of old).labels label) height (entry_digest (later_entry (handle_for (world_of old).labels label) height (nonce number) payload))) more
OwnAdds old (RawLatest id label number) more = ServesOnce id (λ call. call ≡ Latest (handle_for (world_of old).labels label) (nonce number)) more
OwnAdds old (RawShow id label) more = ServesOnce id (λ call. call ≡ Show (handle_for (world_of old).labels label)) more
OwnAdds old command more = more ≡ []

-- ---- appends of one row

-- a `store fork` line was for this row
abbrev pub IsForked : List Key → Key → Type 0
IsForked [] key = ⊥
IsForked (forked ∷ earlier) key = (forked ≡ key) ⊎ IsForked earlier key

-- the rows for which such lines were, after this line too
abbrev pub forks_by : {S C : Type 0} → Running (CellBank S C) C → Command → List Key → List Key
forks_by old (StoreFork label height) forked = Row (handle_for (world_of old).labels label) height ∷ forked
forks_by old command forked = forked

-- an append of this row has this tail below it and this entry, unless the row was forked
abbrev pub IsSameAppend : List Key → List ℕ → List ℕ → List ℕ → ℕ → Call → Type 0
IsSameAppend forked handle prev entry height (Append ledger tail digest k) =
    ledger ≡ handle → k ≡ height → IsForked forked (Row handle height) ⊎ ((tail ≡ prev) × (digest ≡ entry))
IsSameAppend forked handle prev entry height call = Unit {0}

abbrev pub AreAlike : List Key → Call → Call → Type 0
AreAlike forked (Append handle prev entry height) other = IsSameAppend forked handle prev entry height other
AreAlike forked call other = Unit {0}

-- any two of these calls are alike
abbrev pub AllAlike : List Key → List Served → Type 0
AllAlike forked calls = AllByRecursion (λ (one : Served). AllByRecursion (λ (other : Served). AreAlike forked one.call other.call) calls) calls

-- the calls that were served outside `raw` lines, after this line too
abbrev pub outside : Bool → List Served → List Served → List Served
outside true more earlier = earlier
outside false more earlier = more ++ earlier

-- ---- the rules

module _ {S C : Type 0} (key : S → List ℕ) (left size : S → ℕ) (signs : S → List ℕ → List ℕ → S → Type 0) (fit : S → C → Type 0) (accepts : C → Accepts) (key_of : ℕ → List ℕ) (left_of : ℕ → ℕ) (checks : Accepts) where
  abbrev pub Ran : List Command → Running (CellBank S C) C → Running (CellBank S C) C → List (List ℕ) → Type 0
  Ran = Runs key left size signs fit accepts key_of left_of checks

  -- Each append that a line other than a `raw` one adds is of an entry that was drawn by then.
  abbrev pub EntriesWereDrawn : (script : List Command) (old new : Running (CellBank S C) C) (printed : List (List ℕ)) → Ran script old new printed → Type 0
  EntriesWereDrawn [] old new printed ran = Unit {0}
  EntriesWereDrawn (command ∷ commands) old new printed (middle, said, rest, did, ran, split) =
      (is_raw command ≡ false → Serves old middle (λ (one : Served). IsOfDrawn (WasDrawn middle.clients) one.call))
      × EntriesWereDrawn commands middle new rest ran

  -- Any two appends of one row outside `raw` lines are of one entry on one tail, unless a `store fork` line for the row stands before the
  -- line of the later one. These rows were forked before, and these calls were served outside `raw` lines.
  abbrev pub AppendedOnce : List Key → List Served → (script : List Command) (old new : Running (CellBank S C) C) (printed : List (List ℕ)) → Ran script old new printed → Type 0
  AppendedOnce forked earlier [] old new printed ran = Unit {0}
  AppendedOnce forked earlier (command ∷ commands) old new printed (middle, said, rest, did, ran, split) =
      (more : List Served) × (served_in middle ≡ more ++ served_in old) × AllAlike forked (outside (is_raw command) more earlier)
      × AppendedOnce (forks_by old command forked) (outside (is_raw command) more earlier) commands middle new rest ran

  -- Each line adds the calls that it may add, and no other.
  abbrev pub OthersAreOwn : (script : List Command) (old new : Running (CellBank S C) C) (printed : List (List ℕ)) → Ran script old new printed → Type 0
  OthersAreOwn [] old new printed ran = Unit {0}
  OthersAreOwn (command ∷ commands) old new printed (middle, said, rest, did, ran, split) =
      ((more : List Served) × (served_in middle ≡ more ++ served_in old) × OwnAdds old command more)
      × OthersAreOwn commands middle new rest ran
