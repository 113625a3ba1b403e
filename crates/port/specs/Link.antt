-- What is known of a link, and what one call of it does.
use Rattle.std.specs.Prelude.{◌≡◌, ◌⊎◌, ℕ, ◌+◌, ◌==◌, ◌≤◌, ◌<◌, Bool, true, false, if◌then◌else◌, List, ◌∷◌, Option, Some, None}
use Rattle.statement.specs.declared.member.Member.{Member}
use Rattle.statement.specs.declared.statement.Statement.{Statement}
use Rattle.statement.specs.Statement.{statement_bytes}
use Rattle.port.specs.Count.{next}
use Rattle.port.specs.Call.{Call}
use Rattle.port.specs.Answer.{Answer, Refused, LogFull, kept}
use Rattle.port.specs.Heard.{Heard, Answered, Lost, NoMemory}
use Rattle.port.specs.Table.{State, cell, asked, outcome}

-- What is told of an endorser: its id and key, its state in the table, and how many stamps and signatures it has left.
pub record Told : Type 0 where
  pub me : Member
  pub state : State
  pub stamps : ℕ
  pub signatures : ℕ

-- the endorsers by their ids
abbrev pub Bank : Type 0
Bank = ℕ → Option Told

-- these endorsers, with this one at the id
abbrev pub put_told : Bank → ℕ → Told → Bank
put_told bank id told = λ other. if other == id then Some told else bank other

-- an endorser served a call: its id, what was asked, and what is kept of its answer
pub record Served : Type 0 where
  pub id : ℕ
  pub call : Call
  pub answer : Answer

-- What is known of a link.
pub record LinkView : Type 1 where
  pub faults : ℕ → ℕ
  pub has : ℕ → Bool
  pub calls : ℕ
  -- call number n was of this id and this, and that was heard
  pub was : ℕ → ℕ → Call → Heard → Type 0
  -- which signatures its endorsers make, by key and bytes
  pub signs : List ℕ → List ℕ → List ℕ → Bool
  -- its endorsers, where it tells them and loses no call
  pub told : Option Bank
  -- all calls that its endorsers served, also those that came another way and those whose answer was lost, the newest
  -- first, where it tells them
  pub served : Option (List Served)
  -- how many calls of each id it is still to lose, where it tells that
  pub due : Option (ℕ → ℕ)

-- A signer that was asked to sign this statement, or wasn't asked, gave this signature, or had none left.
abbrev pub HasSigned : (List ℕ → List ℕ → List ℕ → Bool) → List ℕ → Option Statement → Option (List ℕ) → ℕ → ℕ → Type 0
HasSigned signs key None sig left after = (sig ≡ None) × (after ≡ left)
HasSigned signs key (Some statement) None left after = (left ≡ 0) × (after ≡ left)
HasSigned signs key (Some statement) (Some sig) left after = (signs key (statement_bytes statement) sig ≡ true) × (0 < left) × (after ≤ left) × (left ≤ after + 1)

-- By the table, an endorser went on with this answer, and has one stamp fewer.
pub record GoesOn (signs : List ℕ → List ℕ → List ℕ → Bool) (old : Told) (call : Call) (answer : Answer) (new : Told) : Type 0 where
  pub sig : Option (List ℕ)
  pub table : outcome old.state (cell old.me old.state call) sig ≡ (new.state, answer)
  pub signed : HasSigned signs old.me.key (asked (cell old.me old.state call)) sig old.signatures new.signatures
  pub stamp : old.stamps ≡ new.stamps + 1
  pub same : new.me ≡ old.me

-- An endorser without a stamp is full and stays as it was. Any other goes on by the table.
abbrev pub Serves : (List ℕ → List ℕ → List ℕ → Bool) → Told → Call → Answer → Told → Type 0
Serves signs old call answer new =
    ((old.stamps ≡ 0) × (answer ≡ Refused LogFull) × (new ≡ old)) ⊎ GoesOn signs old call answer new

-- what is heard over a link to these endorsers that loses no call, and the endorsers afterwards
abbrev pub IsFaithful : (List ℕ → List ℕ → List ℕ → Bool) → Bank → ℕ → Call → Heard → Bank → Type 0
IsFaithful signs bank id call (Answered answer) after =
    (old : Told) × (new : Told) × (bank id ≡ Some old) × Serves signs old call answer new × (after ≡ put_told bank id new)
IsFaithful signs bank id call Lost after = (bank id ≡ None) × (after ≡ bank)
IsFaithful signs bank id call NoMemory after = after ≡ bank

-- the calls that were served, and this one; an endorser whose list is full serves none
abbrev pub served_after : List Served → ℕ → Call → Answer → List Served
served_after past id call (Refused LogFull) = past
served_after past id call answer = record { id = id; call = call; answer = kept answer } ∷ past

-- what was served where this was heard
abbrev pub IsServing : List Served → ℕ → Call → Heard → List Served → Type 0
IsServing past id call (Answered answer) after = after ≡ served_after past id call answer
IsServing past id call Lost after = (after ≡ past) ⊎ ((answer : Answer) × (after ≡ served_after past id call answer))
IsServing past id call NoMemory after = after ≡ past

-- how many losses of an id it is that this was heard of another
abbrev pub losses : ℕ → Heard → ℕ → ℕ
losses id Lost other = if other == id then 1 else 0
losses id heard other = 0

-- One call over a link: what was asked and what was heard, and how what is known of it changes.
pub record LinkStep {L : Type 0} (view : L → LinkView) (old new : L) (id : ℕ) (call : Call) (heard : Heard) : Type 0 where
  -- a call is lost only where its id's count of faults rose or there is no such endorser; no count falls
  pub later : (other : ℕ) → (view old).faults other ≤ (view new).faults other
  pub lost : heard ≡ Lost → ((view old).faults id < (view new).faults id) ⊎ ((view old).has id ≡ false)
  pub same_ids : (other : ℕ) → (view new).has other ≡ (view old).has other
  pub same_signs : (view new).signs ≡ (view old).signs
  -- the call stands under its number, and whatever stood still does
  pub counted : (view new).calls ≡ next (view old).calls
  pub made : (view new).was (view old).calls id call heard
  pub keeps : (n i : ℕ) (c : Call) (h : Heard) → (view old).was n i c h → (view new).was n i c h
  -- where it tells its endorsers, they answer by the table, and it tells them still
  pub faithful : (bank : Bank) → (view old).told ≡ Some bank
      → (after : Bank) × ((view new).told ≡ Some after) × IsFaithful (view old).signs bank id call heard after
  -- where it tells what was served, this call is added
  pub serves : (past : List Served) → (view old).served ≡ Some past
      → (after : List Served) × ((view new).served ≡ Some after) × IsServing past id call heard after
  -- where it tells how many calls it is still to lose, each loss of an endorser's call is one of these
  pub due : (before : ℕ → ℕ) → (view old).due ≡ Some before
      → (after : ℕ → ℕ) × ((view new).due ≡ Some after) × ((other : ℕ) → (view old).has other ≡ true → before other ≡ after other + losses id heard other)
