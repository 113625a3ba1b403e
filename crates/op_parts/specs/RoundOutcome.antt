-- What an answer to the append of a row makes of a member.
use Rattle.std.specs.Prelude.{◌≡◌, ℕ, ◌+◌, ◌≤◌, ◌<◌, true, List, Result, Ok, Err, replicate}
use Rattle.nim_base.specs.declared.no_memory.NoMemory.{NoMemory as MemoryWanted}
use Rattle.statement.specs.declared.statement.Statement.{Statement}
use Rattle.statement.specs.declared.statement.Statement.TheVariants as statements
use Rattle.statement.specs.Statement.{statement_bytes}
use Rattle.port.specs.Answer.{Denial, Behind, Answer, Signed, Refused}
use Rattle.port.specs.Cause.{MemberCause, WasLost, Denied, OtherTail, member_cause_of}
use Rattle.port.specs.Heard.{Heard, Answered, Lost, NoMemory}
use Rattle.view_ledger.specs.Receipts.{Accepts}
use Rattle.op_parts.specs.declared.round_verdict.Claim.{Claim}
use Rattle.op_parts.specs.declared.round_verdict.Verdict.{Verdict}
use Rattle.op_parts.specs.declared.round_verdict.Verdict.TheVariants as verdicts

-- the signature of a mark; a reason
pub data Outcome : Type 0 where
  Marked : List ℕ → Outcome
  Blamed : MemberCause → Outcome

abbrev pub outcome_of : Verdict → Outcome
outcome_of (verdicts.Mark sig) = Marked sig.bytes
outcome_of (verdicts.Reason reason) = Blamed (member_cause_of reason)

-- the statement that the member holds the row in the view
abbrev pub held : Claim → Statement
held claim = statements.Held claim.view claim.handle claim.tail (claim.height + 1)

-- the statement is the claim, and its signature is accepted under the key
abbrev pub IsMark : Accepts → Claim → List ℕ → Statement → List ℕ → Type 0
IsMark accepts claim key statement sig = (statement ≡ held claim) × (accepts key (statement_bytes statement) sig ≡ true)

-- the reason of a member whose answer is out of place
abbrev pub stray : Outcome
stray = Blamed (OtherTail 0 (replicate 32 0))

-- an answer that is none to the append of the row
abbrev pub IsOutOfPlace : Accepts → Claim → List ℕ → Answer → Type 0
IsOutOfPlace accepts claim key (Signed statement sig) = IsMark accepts claim key statement sig → ⊥
IsOutOfPlace accepts claim key (Refused (Behind count)) = claim.height ≤ count
IsOutOfPlace accepts claim key (Refused denial) = ⊥
IsOutOfPlace accepts claim key answer = Unit {0}

-- a refusal that has its place as an answer to an append at the height
abbrev pub IsInPlace : ℕ → Denial → Type 0
IsInPlace height (Behind count) = count < height
IsInPlace height denial = Unit {0}

-- what was heard of the append of the row makes this of the member with the key
abbrev pub IsOutcome : Accepts → Claim → List ℕ → Heard → Outcome → Type 0
IsOutcome accepts claim key (Answered (Signed statement sig)) (Marked mark) = (mark ≡ sig) × IsMark accepts claim key statement sig
IsOutcome accepts claim key (Answered (Refused denial)) (Blamed (Denied reason)) = (reason ≡ denial) × IsInPlace claim.height denial
IsOutcome accepts claim key (Answered answer) (Blamed (OtherTail count tail)) =
    IsOutOfPlace accepts claim key answer × (count ≡ 0) × (tail ≡ replicate 32 0)
IsOutcome accepts claim key Lost (Blamed WasLost) = Unit {0}
IsOutcome accepts claim key heard outcome = ⊥

-- the same, or memory was wanted
abbrev pub IsJudged : Accepts → Claim → List ℕ → Heard → Result Verdict MemoryWanted → Type 0
IsJudged accepts claim key heard (Ok verdict) = IsOutcome accepts claim key heard (outcome_of verdict)
IsJudged accepts claim key heard (Err wanted) = heard ≡ NoMemory
