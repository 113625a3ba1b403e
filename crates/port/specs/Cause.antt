-- Why a service refuses: what contracts see of it, and which calls show it.
use Rattle.std.specs.Prelude.{◌≡◌, ◌⊎◌, ◌<◌, ℕ, true, List, map, Option, Some, None, replicate}
use Rattle.std.specs.List.{AllByRecursion}
use Rattle.std.specs.Option.{option_map}
use Rattle.statement.specs.declared.statement.Statement.{Statement}
use Rattle.statement.specs.declared.statement.Statement.TheVariants as statements
use Rattle.port.specs.declared.key.Key.{Key}
use Rattle.port.specs.declared.key.Key.TheVariants as keys
use Rattle.port.specs.declared.store_answers.Put.TheVariants as puts
use Rattle.port.specs.declared.store_answers.Got.TheVariants as gots
use Rattle.port.specs.declared.reason.Reason.{Reason}
use Rattle.port.specs.declared.reason.Reason.TheVariants as reasons
use Rattle.port.specs.declared.refusal.Refusal.{Refusal}
use Rattle.port.specs.declared.refusal.Refusal.TheVariants as refusals
use Rattle.port.specs.Call.{Call}
use Rattle.port.specs.Answer.{Denial, Answer, Signed, Refused, HasEnded, Stands, Full as MapFull, denial_of}
use Rattle.port.specs.Heard.{Answered, Lost}
use Rattle.port.specs.Reply.{Standing}
use Rattle.port.specs.Stored.{Stored}
use Rattle.port.specs.Store.{StoreCall, PutNew, Get, StoreAnswer, WasPut, WasGot, is_failed}
use Rattle.port.specs.Trace.{Event, AtStore, AtLink, Had}

-- why a member doesn't count: lost; its refusal; a count and a tail
pub data MemberCause : Type 0 where
  WasLost : MemberCause
  Denied : Denial → MemberCause
  OtherTail : ℕ → List ℕ → MemberCause

abbrev pub member_cause_of : Reason → MemberCause
member_cause_of reasons.Lost = WasLost
member_cause_of (reasons.Refused refusal) = Denied (denial_of refusal)
member_cause_of (reasons.Other count tail) = OtherTail count tail

-- what stands; a handle and a height; a number of members, and reasons by id; a view's number, an id, a statement and
-- its signature; a key and what was given for it; an id and two counts; an id; a number; an id
pub data Cause : Type 0 where
  Conflict : Standing → Cause
  Gap : List ℕ → ℕ → Cause
  NoQuorum : ℕ → List (ℕ × MemberCause) → Cause
  ViewMoved : ℕ → ℕ → Statement → List ℕ → Cause
  StoreFault : Cause
  BadRow : Key → Option (List ℕ) → Cause
  Contended : ℕ → ℕ → ℕ → Cause
  Full : ℕ → Cause
  TooFar : ℕ → Cause
  Reused : ℕ → Cause
  NoMemory : Cause

abbrev pub cause_of : Refusal → Cause
cause_of (refusals.Conflict standing) = Conflict standing
cause_of (refusals.Gap handle missing) = Gap handle missing
cause_of (refusals.NoQuorum need reasons) = NoQuorum need (map (λ r. (r.0, member_cause_of r.1)) reasons.items)
cause_of (refusals.ViewMoved from id statement sig) = ViewMoved from id statement sig.bytes
cause_of refusals.StoreFault = StoreFault
cause_of (refusals.BadRow key bytes) = BadRow key (option_map (λ text. text.bytes) bytes)
cause_of (refusals.Contended member first later) = Contended member first later
cause_of (refusals.Full member) = Full member
cause_of (refusals.TooFar needed) = TooFar needed
cause_of (refusals.Reused id) = Reused id
cause_of refusals.NoMemory = NoMemory

-- the endorser answered so
abbrev pub HadAnswer : List Event → ℕ → Answer → Type 0
HadAnswer events id answer = (call : Call) × Had events (AtLink id call (Answered answer))

-- the statement has this tail and count
abbrev pub HasCount : Statement → List ℕ → ℕ → Type 0
HasCount (statements.Held view handle tail count) t n = (tail ≡ t) × (count ≡ n)
HasCount (statements.Latest view handle tail count nonce) t n = (tail ≡ t) × (count ≡ n)
HasCount statement t n = ⊥

-- the answer has this tail and count, signed
abbrev pub HasSignedCount : Answer → List ℕ → ℕ → Type 0
HasSignedCount (Signed statement sig) tail count = HasCount statement tail count
HasSignedCount answer tail count = ⊥

-- the answer has this count: signed, or as the one that stands
abbrev pub TellsCount : Answer → ℕ → Type 0
TellsCount (Refused (Stands count tail)) n = count ≡ n
TellsCount (Signed statement sig) n = (tail : List ℕ) × HasCount statement tail n
TellsCount answer n = ⊥

-- what shows in some calls that a member has this reason
abbrev pub IsMemberShown : List Event → ℕ → MemberCause → Type 0
IsMemberShown events id WasLost = (call : Call) × Had events (AtLink id call Lost)
IsMemberShown events id (Denied denial) = HadAnswer events id (Refused denial)
IsMemberShown events id (OtherTail count tail) =
    (answer : Answer) × HadAnswer events id answer × (HasSignedCount answer tail count ⊎ ((count ≡ 0) × (tail ≡ replicate 32 0)))

-- What shows in some calls that something stands at the key: a put there that was answered so. What ended a view stands
-- where the view is marked as complete, which the chain may have told.
abbrev pub IsToldToStand : List Event → Key → Type 0
IsToldToStand events (keys.Row handle height) = (body : List ℕ) × Had events (AtStore (PutNew (keys.Row handle height) body) (WasPut puts.Taken))
IsToldToStand events (keys.View number) = (body : List ℕ) × Had events (AtStore (PutNew (keys.View number) body) (WasPut puts.Taken))
IsToldToStand events (keys.Finals number) = Unit {0}

-- What shows in some calls that they were refused for this cause. What stands, which id was used before and how much is
-- needed is read off the chain and the rows, and not off one call.
abbrev pub IsShown : List Event → Cause → Type 0
IsShown events (Gap handle missing) = Had events (AtStore (Get (keys.Row handle missing)) (WasGot gots.None))
IsShown events (NoQuorum need reasons) = AllByRecursion (λ (r : ℕ × MemberCause). IsMemberShown events r.0 r.1) reasons
IsShown events (ViewMoved from id statement sig) = HadAnswer events id (Refused (HasEnded statement sig))
IsShown events StoreFault = (call : StoreCall) × (answer : StoreAnswer) × Had events (AtStore call answer) × (is_failed answer ≡ true)
IsShown events (BadRow key (Some bytes)) = (stored : Stored) × Had events (AtStore (Get key) (WasGot (gots.Some stored))) × (stored.body ≡ bytes)
IsShown events (BadRow key None) = Had events (AtStore (Get key) (WasGot gots.None)) × IsToldToStand events key
IsShown events (Contended member first later) = (first < later) × ((answer : Answer) × HadAnswer events member answer × TellsCount answer later)
IsShown events (Full member) = HadAnswer events member (Refused MapFull)
IsShown events (Conflict standing) = Unit {0}
IsShown events (TooFar needed) = Unit {0}
IsShown events (Reused id) = Unit {0}
IsShown events NoMemory = Unit {0}
