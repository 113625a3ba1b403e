-- What the answer to a step says of the call that was made.
use Rattle.std.specs.Prelude.{◌≡◌, ◌⊎◌, ℕ, ◌<◌, List, Some, Result, Ok, Err}
use Rattle.nim_base.specs.declared.no_memory.NoMemory.{NoMemory as MemoryWanted}
use Rattle.port.specs.declared.key.Key.TheVariants as keys
use Rattle.port.specs.declared.store_answers.Got.TheVariants as gots
use Rattle.port.specs.Answer.{Answer, Refused, Stands}
use Rattle.port.specs.Call.{Call}
use Rattle.port.specs.Cause.{member_cause_of, Cause, StoreFault, Gap, BadRow, cause_of}
use Rattle.port.specs.GoodRow.{IsBadRow}
use Rattle.port.specs.Heard.{Heard, Answered, NoMemory}
use Rattle.port.specs.Row.{Content}
use Rattle.port.specs.Stored.{Stored}
use Rattle.port.specs.Store.{Get, WasGot}
use Rattle.port.specs.Trace.{Event, AtStore, AtLink}
use Rattle.catch_up.specs.declared.progress.Progress.{Progress}
use Rattle.catch_up.specs.declared.progress.Progress.TheVariants.{More, Reached, Ahead, Member, Row}
use Rattle.catch_up.specs.State.{Target}
use Rattle.catch_up.specs.Answers.{ComesTo, IsReason}
use Rattle.catch_up.specs.OwnCalls.{Gave}

-- in this call the member answered so
abbrev pub DidAnswer : ℕ → Event → Answer → Type 0
DidAnswer member event answer = (call : Call) × (event ≡ AtLink member call (Answered answer))

-- by this call the member has come to this count
abbrev pub DidCome : ℕ → ℕ → Event → ℕ → Type 0
DidCome member height event count = (answer : Answer) × DidAnswer member event answer × ComesTo height answer count

-- in this call the store refused the row at the height for this cause
abbrev pub IsRowRefused : List ℕ → ℕ → Event → Cause → Type 0
IsRowRefused handle height event StoreFault = event ≡ AtStore (Get (keys.Row handle height)) (WasGot gots.Failed)
IsRowRefused handle height event (Gap ledger missing) =
    (ledger ≡ handle) × (missing ≡ height) × (event ≡ AtStore (Get (keys.Row handle height)) (WasGot gots.None))
IsRowRefused handle height event (BadRow key (Some bytes)) =
    (key ≡ keys.Row handle height) × ((stored : Stored) × (event ≡ AtStore (Get key) (WasGot (gots.Some stored))) × (stored.body ≡ bytes)) × IsBadRow handle height bytes
IsRowRefused handle height event cause = ⊥

-- a call in which memory may be wanted: the other side wanted it, or a row is to be read
abbrev pub MayLack : Event → Type 0
MayLack (AtStore call (WasGot gots.NoMemory)) = Unit {0}
MayLack (AtStore call (WasGot (gots.Some stored))) = Unit {0}
MayLack (AtLink id call NoMemory) = Unit {0}
MayLack event = ⊥

-- What the answer to a step says of its call, where the member told the height last.
abbrev pub Says : Target → ℕ → Event → Result Progress MemoryWanted → Type 0
Says target height event (Ok More) =
    ((row : Content) × Gave target.handle height event row) ⊎ ((count : ℕ) × (count < target.count) × DidCome target.member height event count)
Says target height event (Ok Reached) = DidCome target.member height event target.count
Says target height event (Ok (Ahead count tail)) = (target.count < count) × DidAnswer target.member event (Refused (Stands count tail))
Says target height event (Ok (Member reason)) =
    (call : Call) × (heard : Heard) × (event ≡ AtLink target.member call heard) × IsReason height heard (member_cause_of reason)
Says target height event (Ok (Row refusal)) = IsRowRefused target.handle height event (cause_of refusal)
Says target height event (Err wanted) = MayLack event
