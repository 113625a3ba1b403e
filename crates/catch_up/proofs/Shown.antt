-- Laws of the calls of a catch-up, and of what its answers say.
use Rattle.std.proofs.Common.{◌≡◌, inl, inr, ℕ, ◌<◌, List, [], ◌∷◌, ◌++◌, Some, refl, sym, subst, ap}
use Rattle.statement.specs.declared.statement.Statement.{Statement}
use Rattle.statement.specs.declared.statement.Statement.TheVariants as statements
use Rattle.port.specs.declared.key.Key.TheVariants as keys
use Rattle.port.specs.declared.store_answers.Got.TheVariants as gots
use Rattle.port.specs.Answer.{Answer, Signed, Refused, Stands}
use Rattle.port.specs.Call.{Call, Append}
use Rattle.port.specs.Cause.{HadAnswer, HasCount, TellsCount, IsMemberShown, IsShown, MemberCause, WasLost, Denied, OtherTail, Cause, StoreFault, Gap, BadRow}
use Rattle.port.specs.GoodRow.{IsGoodRow}
use Rattle.port.specs.Heard.{Heard, Answered, Lost}
use Rattle.port.specs.Row.{Content}
use Rattle.port.specs.Stored.{Stored}
use Rattle.port.specs.Store.{StoreCall, StoreAnswer, Get, WasGot}
use Rattle.port.specs.Trace.{Event, AtStore, AtLink, Had}
use Rattle.catch_up.specs.State.{Target}
use Rattle.catch_up.specs.Told.{count_of, told}
use Rattle.catch_up.specs.OwnCalls.{JustGave, IsOwnCall, OwnCalls, append_of}
use Rattle.catch_up.specs.Answers.{ComesTo, IsReason}
use Rattle.catch_up.specs.Says.{DidCome, IsRowRefused}

-- a statement with this count has it with some tail
has_count : (statement : Statement) (count : ℕ) → count_of statement ≡ Some count → (tail : List ℕ) × HasCount statement tail count
has_count (statements.Held view handle tail n) count is = (tail, (refl, cc))
has_count (statements.Latest view handle tail n nonce) count is = (tail, (refl, cc))
has_count (statements.Final view next map) count is = absurd (cc is)

tells : (height : ℕ) (answer : Answer) (count : ℕ) → ComesTo height answer count → TellsCount answer count
tells height (Signed statement sig) count comes = has_count statement count comes.1
tells height (Refused (Stands standing tail)) count comes = sym comes.0
tells height answer count comes = absurd comes

-- the count to which a member has come is one that it told
pub reached : (target : Target) (height : ℕ) (event : Event) (past : List Event) (count : ℕ) → DidCome target.member height event count
    → (answer : Answer) × HadAnswer (event ∷ past) target.member answer × TellsCount answer count
reached target height event past count came = (came.0, (came.1.0, inl came.1.1), tells height came.0 count came.2)

-- a reason is shown by what was heard
reason_shown : (member : ℕ) (past : List Event) (call : Call) (height : ℕ) (heard : Heard) (cause : MemberCause) → IsReason height heard cause
    → IsMemberShown (AtLink member call heard ∷ past) member cause
reason_shown member past call height Lost WasLost is = (call, inl refl)
reason_shown member past call height (Answered (Refused denial)) (Denied reason) is = (call, inl (ap (λ d. AtLink member call (Answered (Refused d))) (sym is.0)))
reason_shown member past call height (Answered answer) (OtherTail count tail) is = (answer, (call, inl refl), inr (is.1, is.2))
reason_shown member past call height heard cause is = absurd is

pub member_shown : (target : Target) (height : ℕ) (event : Event) (past : List Event) (cause : MemberCause)
    → (call : Call) × (heard : Heard) × (event ≡ AtLink target.member call heard) × IsReason height heard cause → IsMemberShown (event ∷ past) target.member cause
member_shown target height event past cause says =
    subst (λ (e : Event). IsMemberShown (e ∷ past) target.member cause) (sym says.2) (reason_shown target.member past says.0 height says.1 cause says.3)

pub row_shown : (handle : List ℕ) (height : ℕ) (event : Event) (past : List Event) (cause : Cause) → IsRowRefused handle height event cause → IsShown (event ∷ past) cause
row_shown handle height event past StoreFault says = (Get (keys.Row handle height), WasGot gots.Failed, inl says, refl)
row_shown handle height event past (Gap ledger missing) says =
    let ledger_is : ledger ≡ handle = says.0 in
    let missing_is : missing ≡ height = says.1 in
    let event_is : event ≡ AtStore (Get (keys.Row handle height)) (WasGot gots.None) = says.2 in
    inl cc
row_shown handle height event past (BadRow key (Some bytes)) says = (says.1.0, inl says.1.1, says.1.2)
row_shown handle height event past cause says = absurd says

-- what was told last in later calls
pub told_on : (member before : ℕ) (later earlier : List Event) → told member before (later ++ earlier) ≡ told member (told member before earlier) later
told_on member before [] earlier = refl
told_on member before (AtLink id call (Answered answer) ∷ later) earlier = rw (told_on member before later earlier) refl
told_on member before (AtLink id call heard ∷ later) earlier = told_on member before later earlier
told_on member before (AtStore call answer ∷ later) earlier = told_on member before later earlier

own_get : (target : Target) (from : ℕ) (past : List Event) (call : StoreCall) (answer : StoreAnswer) → IsOwnCall target from past (AtStore call answer)
    → (height : ℕ) × (height < target.count) × (call ≡ Get (keys.Row target.handle height))
own_get target from past (Get (keys.Row handle height)) answer own = (height, own.2, ap (λ (h : List ℕ). Get (keys.Row h height)) own.0)
own_get target from past call answer own = absurd own

-- no call of the store but gets of rows below the wanted count
pub own_store : (target : Target) (from : ℕ) (events : List Event) → OwnCalls target from events → (call : StoreCall) (answer : StoreAnswer) → Had events (AtStore call answer)
    → (height : ℕ) × (height < target.count) × (call ≡ Get (keys.Row target.handle height))
own_store target from [] own call answer had = absurd had
own_store target from (event ∷ past) own call answer (inl is) = own_get target from past call answer (subst (λ (e : Event). IsOwnCall target from past e) is own.0)
own_store target from (event ∷ past) own call answer (inr had) = own_store target from past own.1 call answer had

-- this good row was given for the height, and the call is its append
abbrev pub IsAppend : Target → List Event → Call → Type 0
IsAppend target events call = (height : ℕ) × (stored : Stored) × (row : Content) × (height < target.count)
    × Had events (AtStore (Get (keys.Row target.handle height)) (WasGot (gots.Some stored))) × IsGoodRow target.handle height stored.body row
    × (call ≡ append_of target.handle row.metablock)

given : (handle : List ℕ) (height : ℕ) (past : List Event) (row : Content) → JustGave handle height past row
    → (stored : Stored) × Had past (AtStore (Get (keys.Row handle height)) (WasGot (gots.Some stored))) × IsGoodRow handle height stored.body row
given handle height [] row gave = absurd gave
given handle height (AtStore (Get key) (WasGot (gots.Some stored)) ∷ past) row gave =
    (stored, inl (ap (λ k. AtStore (Get k) (WasGot (gots.Some stored))) gave.0), gave.1)
given handle height (event ∷ past) row gave = absurd gave

own_append : (target : Target) (from : ℕ) (past : List Event) (id : ℕ) (call : Call) (heard : Heard) → IsOwnCall target from past (AtLink id call heard)
    → (id ≡ target.member) × IsAppend target past call
own_append target from past id (Append handle prev entry height) heard own =
    let row : Content = own.4.0 in
    let g = given target.handle height past row (subst (λ (h : List ℕ). JustGave h height past row) own.1 own.4.1) in
    let block_height : row.metablock.height ≡ height = g.2.at.block_height in
    let ledger : handle ≡ target.handle = own.1 in
    let prev_is : prev ≡ row.metablock.prev = own.4.2 in
    let entry_is : entry ≡ row.metablock.entry = own.4.3 in
    (own.0, (height, g.0, row, own.3, g.1, g.2, cc))
own_append target from past id call heard own = absurd own

-- a further call doesn't matter
append_more : (target : Target) (events : List Event) (event : Event) (call : Call) → IsAppend target events call → IsAppend target (event ∷ events) call
append_more target events event call is = (is.0, is.1, is.2, is.3, inr is.4, is.5, is.6)

-- no call over the link but appends of good rows that were given before
pub own_link : (target : Target) (from : ℕ) (events : List Event) → OwnCalls target from events → (id : ℕ) (call : Call) (heard : Heard) → Had events (AtLink id call heard)
    → (id ≡ target.member) × IsAppend target events call
own_link target from [] own id call heard had = absurd had
own_link target from (event ∷ past) own id call heard (inl is) =
    let o = own_append target from past id call heard (subst (λ (e : Event). IsOwnCall target from past e) is own.0) in (o.0, append_more target past event call o.1)
own_link target from (event ∷ past) own id call heard (inr had) =
    let o = own_link target from past own.1 id call heard had in (o.0, append_more target past event call o.1)
