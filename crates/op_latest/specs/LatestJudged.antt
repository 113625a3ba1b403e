-- What an answer to a latest read makes of a member.
use Rattle.std.specs.Prelude.{◌≡◌, ℕ, true, List, Result, Ok, Err, replicate}
use Rattle.nim_base.specs.declared.no_memory.NoMemory.{NoMemory as MemoryWanted}
use Rattle.statement.specs.declared.statement.Statement.{Statement}
use Rattle.statement.specs.declared.statement.Statement.TheVariants as statements
use Rattle.statement.specs.Statement.{statement_bytes}
use Rattle.port.specs.Answer.{Denial, Behind, Answer, Signed, Refused}
use Rattle.port.specs.Cause.{WasLost, Denied, OtherTail}
use Rattle.port.specs.Heard.{Heard, Answered, Lost, NoMemory}
use Rattle.view_ledger.specs.Receipts.{Accepts}
use Rattle.op_latest.specs.declared.latest_claim.LatestClaim.{LatestClaim}
use Rattle.op_latest.specs.declared.latest_vote.LatestVote.{LatestVote}
use Rattle.op_latest.specs.LatestVote.{Vote, Told, Blamed, vote_of}

-- the statement that in the view the ledger has this tail and count, told to the one who drew the nonce
abbrev pub latest : LatestClaim → List ℕ → ℕ → Statement
latest claim tail count = statements.Latest claim.view claim.handle tail count claim.nonce

-- a ledger without entries has 32 zeros as its tail
abbrev pub IsHead : List ℕ → ℕ → Type 0
IsHead tail count = count ≡ 0 → tail ≡ replicate 32 0

-- the statement is that one, of a tail and a count that a ledger can have, and its signature is accepted under the key
pub record IsTold (accepts : Accepts) (claim : LatestClaim) (key : List ℕ) (statement : Statement) (sig tail : List ℕ) (count : ℕ) : Type 0 where
  pub states : statement ≡ latest claim tail count
  pub head : IsHead tail count
  pub signed : accepts key (statement_bytes statement) sig ≡ true

-- the vote of a member whose answer is out of place
abbrev pub stray : Vote
stray = Blamed (OtherTail 0 (replicate 32 0))

-- an answer that is none to a latest read
abbrev pub IsOutOfPlace : Accepts → LatestClaim → List ℕ → Answer → Type 0
IsOutOfPlace accepts claim key (Signed statement sig) = (tail : List ℕ) (count : ℕ) → IsTold accepts claim key statement sig tail count → ⊥
IsOutOfPlace accepts claim key (Refused (Behind count)) = Unit {0}
IsOutOfPlace accepts claim key (Refused denial) = ⊥
IsOutOfPlace accepts claim key answer = Unit {0}

-- a refusal that has its place as an answer to a latest read
abbrev pub IsInPlace : Denial → Type 0
IsInPlace (Behind count) = ⊥
IsInPlace denial = Unit {0}

-- what was heard of a latest read makes this of the member with the key
abbrev pub IsVote : Accepts → LatestClaim → List ℕ → Heard → Vote → Type 0
IsVote accepts claim key (Answered (Signed statement mark)) (Told tail count sig) = (sig ≡ mark) × IsTold accepts claim key statement mark tail count
IsVote accepts claim key (Answered (Refused denial)) (Blamed (Denied reason)) = (reason ≡ denial) × IsInPlace denial
IsVote accepts claim key (Answered answer) (Blamed (OtherTail count tail)) = IsOutOfPlace accepts claim key answer × (count ≡ 0) × (tail ≡ replicate 32 0)
IsVote accepts claim key Lost (Blamed WasLost) = Unit {0}
IsVote accepts claim key heard vote = ⊥

-- the same, or memory was wanted
abbrev pub IsJudged : Accepts → LatestClaim → List ℕ → Heard → Result LatestVote MemoryWanted → Type 0
IsJudged accepts claim key heard (Ok vote) = IsVote accepts claim key heard (vote_of vote)
IsJudged accepts claim key heard (Err wanted) = heard ≡ NoMemory
