-- What a step makes of a latest read.
use Rattle.std.specs.Prelude.{◌≡◌, ◌⊎◌, ℕ, ◌+◌, ◌-◌, ◌<◌, ◌≤◌, ◌==◌, if◌then◌else◌, List, [], ◌∷◌, ◌++◌, length, slice_get, Some, None, set, Result, Ok, Err, MatchOption}
use Rattle.nim_base.specs.declared.no_memory.NoMemory.{NoMemory as MemoryWanted}
use Rattle.statement.specs.declared.member.Member.{Member}
use Rattle.statement.specs.Config.{quorum}
use Rattle.statement.specs.Receipt.{Receipt}
use Rattle.port.specs.Cause.{cause_of, member_cause_of}
use Rattle.port.specs.Heard.{Heard}
use Rattle.catch_up.specs.declared.progress.Progress.{Progress}
use Rattle.catch_up.specs.declared.progress.Progress.TheVariants as caught
use Rattle.catch_up.specs.State.{State as CatchingUpState}
use Rattle.catch_up.specs.Sound.{Sound as SoundCatchUp}
use Rattle.view_ledger.specs.Views.{ViewChain, newest_config, newest_tail}
use Rattle.view_ledger.specs.Receipts.{Accepts}
use Rattle.op_parts.specs.declared.refresh_turn.RefreshProgress.{RefreshProgress}
use Rattle.op_parts.specs.declared.refresh_turn.RefreshProgress.TheVariants as refreshed
use Rattle.op_parts.specs.RefreshState.{RefreshState}
use Rattle.op_parts.specs.RoundRefusal.{cause_without_quorum}
use Rattle.op_latest.specs.declared.latest_claim.LatestClaim.{LatestClaim}
use Rattle.op_latest.specs.declared.latest_head.LatestHead.{LatestHead}
use Rattle.op_latest.specs.LatestJudged.{latest, IsVote}
use Rattle.op_latest.specs.LatestState.{Stage, Asking, CatchingUp, AskingAgain, Getting, Ended, Refreshing, State, members_of, IsReady, calls_at}
use Rattle.op_latest.specs.LatestTurn.{Second, IsSettledAt, IsOther}
use Rattle.op_latest.specs.LatestVote.{Vote, Ahead, Blamed, MemberVote, has_quorum, quorum_head, target, marks_of, reasons_of, first_above}

abbrev pub at : Stage → State → State
at stage state = record state { stage = stage }

abbrev pub claim_of : State → LatestClaim
claim_of state = record { view = newest_tail state.chain.configs; handle = state.handle; nonce = state.nonce }

-- the receipt of the members that told the head
abbrev pub receipt_of : LatestClaim → LatestHead → List MemberVote → Receipt
receipt_of claim head votes = record { statement = latest claim head.tail head.count; marks = marks_of head votes }

-- with the receipt: a ledger without entries has no row to be got
abbrev pub with_receipt : LatestHead → Receipt → Stage
with_receipt head receipt = if head.count == 0 then Ended (Ok (record { row = None; receipt = receipt })) else Getting head receipt

-- without a quorum
abbrev pub without_quorum : ViewChain → LatestHead → List MemberVote → Stage
without_quorum chain head votes =
    Ended (Err (cause_without_quorum (length chain.configs - 1) (quorum (newest_config chain.configs)) (first_above head.count votes) (reasons_of head votes)))

-- where nobody is to be asked any more
abbrev pub concluded : LatestClaim → ViewChain → LatestHead → List MemberVote → Stage
concluded claim chain head votes =
    if has_quorum (newest_config chain.configs) votes head then with_receipt head (receipt_of claim head votes) else without_quorum chain head votes

-- the turn of a member begins that told another head with this count: with its catch-up where the count is lower
abbrev pub Begins : LatestClaim → ViewChain → Second → ℕ → Stage → Type 0
Begins claim chain second count stage =
    ((member : Member) × (catch_up : CatchingUpState) × (count < second.head.count) × (stage ≡ CatchingUp second catch_up)
    × (slice_get (newest_config chain.configs) second.place ≡ Some member)
    × SoundCatchUp (record { member = member.id; handle = claim.handle; count = second.head.count }) count catch_up [])
    ⊎ ((second.head.count ≤ count) × (stage ≡ AskingAgain second))

abbrev pub AreSettledFrom : LatestHead → List MemberVote → ℕ → ℕ → Type 0
AreSettledFrom head votes place end = (n : ℕ) → place ≤ n → n < end → IsSettledAt head votes n

-- from this place on: the next member that told another head has its turn, or there is none
abbrev pub Proceeds : LatestClaim → ViewChain → LatestHead → List MemberVote → ℕ → Stage → Type 0
Proceeds claim chain head votes place stage =
    (AreSettledFrom head votes place (length votes) × (stage ≡ concluded claim chain head votes))
    ⊎ ((next count : ℕ) × (place ≤ next) × IsOther head votes next count × AreSettledFrom head votes place next
    × Begins claim chain (record { votes = votes; head = head; place = next }) count stage)

-- after the votes of all members: a head that a quorum told, or the second asking
abbrev pub Decides : LatestClaim → ViewChain → List MemberVote → Stage → Type 0
Decides claim chain votes stage =
    MatchOption (quorum_head (newest_config chain.configs) votes) (Proceeds claim chain (target votes) votes 0 stage) (λ head. stage ≡ concluded claim chain head votes)

-- after these votes of the first asking: the next member, or all were asked
abbrev pub AsksNext : LatestClaim → ViewChain → List MemberVote → Stage → Type 0
AsksNext claim chain votes stage =
    ((length votes < members_of chain) × (stage ≡ Asking votes)) ⊎ ((members_of chain ≤ length votes) × Decides claim chain votes stage)

-- the votes with one of a member more
abbrev pub with_vote : ℕ → Vote → List MemberVote → List MemberVote
with_vote id vote votes = votes ++ record { id = id; vote = vote } ∷ []

-- the votes with a new one of the member whose turn it is
abbrev pub settled : ℕ → Vote → Second → List MemberVote
settled id vote second = set second.votes second.place (record { id = id; vote = vote })

-- the member's turn ends with this vote
abbrev pub Settles : LatestClaim → ViewChain → Second → ℕ → Vote → Stage → Type 0
Settles claim chain second id vote stage = Proceeds claim chain second.head (settled id vote second) (second.place + 1) stage

-- this is what comes next, or memory was wanted
abbrev pub Goes : (Stage → Type 0) → State → State → Type 0
Goes P old new = ((stage : Stage) × (new ≡ at stage old) × P stage) ⊎ (new ≡ old)

-- what was heard of the first read of a member decides what comes next
abbrev pub TakesFirst : Accepts → Member → Heard → List MemberVote → State → State → Type 0
TakesFirst accepts member heard votes old new =
    ((vote : Vote) × IsVote accepts (claim_of old) member.key heard vote
    × Goes (AsksNext (claim_of old) old.chain (with_vote member.id vote votes)) old new)
    ⊎ (new ≡ old)

-- what was heard of the second read ends the member's turn
abbrev pub TakesAgain : Accepts → Member → Heard → Second → State → State → Type 0
TakesAgain accepts member heard second old new =
    ((vote : Vote) × IsVote accepts (claim_of old) member.key heard vote
    × Goes (Settles (claim_of old) old.chain second member.id vote) old new)
    ⊎ (new ≡ old)

-- how the catch-up stands now decides what comes next
abbrev pub TakesProgress : Member → Second → CatchingUpState → Result Progress MemoryWanted → State → State → Type 0
TakesProgress member second catch_up (Ok caught.More) old new = new ≡ at (CatchingUp second catch_up) old
TakesProgress member second catch_up (Ok caught.Reached) old new = new ≡ at (AskingAgain second) old
TakesProgress member second catch_up (Ok (caught.Ahead count tail)) old new =
    Goes (Settles (claim_of old) old.chain second member.id (Ahead count tail)) old new
TakesProgress member second catch_up (Ok (caught.Member reason)) old new =
    Goes (Settles (claim_of old) old.chain second member.id (Blamed (member_cause_of reason))) old new
TakesProgress member second catch_up (Ok (caught.Row refusal)) old new = new ≡ at (Ended (Err (cause_of refusal))) old
TakesProgress member second catch_up (Err wanted) old new = new ≡ old

-- how the refresh stands now decides what comes next
abbrev pub TakesRefresh : RefreshState → Result RefreshProgress MemoryWanted → State → State → Type 0
TakesRefresh refresh (Ok refreshed.More) old new = new ≡ at (Refreshing refresh) old
TakesRefresh refresh (Ok refreshed.Fresh) old new = Goes (AsksNext (claim_of old) old.chain []) old new
TakesRefresh refresh (Ok (refreshed.Refused refusal)) old new = new ≡ at (Ended (Err (cause_of refusal))) old
TakesRefresh refresh (Err wanted) old new = new ≡ old

-- There is a next call or an end, and at most so many calls are left.
pub record Fits (chain : ViewChain) (bound : ℕ) (stage : Stage) : Type 0 where
  pub ready : IsReady chain stage
  pub calls : calls_at chain stage ≤ bound
