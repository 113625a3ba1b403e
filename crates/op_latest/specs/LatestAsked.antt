-- Which calls a latest read makes of the members of the newest view, and what they tell.
use Rattle.std.specs.Prelude.{◌≡◌, ◌⊎◌, ℕ, zero, suc, ◌<◌, false, List, [], ◌∷◌, ◌++◌, length, set, slice_get, Some, None, Ok}
use Rattle.statement.specs.declared.member.Member.{Member}
use Rattle.port.specs.Call.{Latest}
use Rattle.port.specs.Cause.{member_cause_of}
use Rattle.port.specs.Heard.{Heard}
use Rattle.port.specs.Trace.{Event, AtLink}
use Rattle.catch_up.specs.declared.progress.Progress.{Progress}
use Rattle.catch_up.specs.declared.progress.Progress.TheVariants.{Reached, Ahead as WentAhead, Member as Reason}
use Rattle.catch_up.specs.State.{Target}
use Rattle.catch_up.specs.Told.{told}
use Rattle.catch_up.specs.OwnCalls.{OwnCalls}
use Rattle.catch_up.specs.Says.{Says}
use Rattle.view_ledger.specs.Views.{ViewChain, newest_tail, newest_config}
use Rattle.view_ledger.specs.Receipts.{Accepts}
use Rattle.op_latest.specs.declared.latest_claim.LatestClaim.{LatestClaim}
use Rattle.op_latest.specs.declared.latest_head.LatestHead.{LatestHead}
use Rattle.op_latest.specs.LatestJudged.{IsVote}
use Rattle.op_latest.specs.LatestTurn.{IsSettledAt}
use Rattle.op_latest.specs.LatestVote.{Vote, Told, Ahead, Blamed, MemberVote, is_for, quorum_head, target}

-- what a caller asks: the newest row of this ledger, for the one who drew this nonce
pub record LatestAsk : Type 0 where
  pub handle : List ℕ
  pub nonce : List ℕ

-- what is asked of which members
pub record Asking : Type 0 where
  pub claim : LatestClaim
  pub members : List Member

-- the members of a chain's newest view
abbrev pub asking_of : LatestAsk → ViewChain → Asking
asking_of ask chain = record { claim = record { view = newest_tail chain.configs; handle = ask.handle; nonce = ask.nonce }; members = newest_config chain.configs }

abbrev pub IsMember : Asking → ℕ → Member → Type 0
IsMember ask place member = slice_get ask.members place ≡ Some member

-- the read, sent to this member, and what was heard of it
abbrev pub latest_to : Asking → ℕ → Heard → Event
latest_to ask id heard = AtLink id (Latest ask.claim.handle ask.claim.nonce) heard

-- a catch-up brings this member to the count
abbrev pub target_of : Asking → LatestHead → ℕ → Target
target_of ask head id = record { member = id; handle = ask.claim.handle; count = head.count }

-- The first members were asked by these calls, the newest first, one each, and these are their votes.
abbrev pub AreAsked : Accepts → Asking → List MemberVote → List Event → Type 0
AreAsked accepts ask votes [] = votes ≡ []
AreAsked accepts ask votes (event ∷ past) =
    (member : Member) × (heard : Heard) × (vote : Vote) × (others : List MemberVote) × IsMember ask (length past) member
    × (event ≡ latest_to ask member.id heard) × IsVote accepts ask.claim member.key heard vote
    × (votes ≡ others ++ record { id = member.id; vote = vote } ∷ []) × AreAsked accepts ask others past

-- All were asked, no head has a quorum, and this is the target.
pub record IsUndecided (accepts : Accepts) (ask : Asking) (head : LatestHead) (votes : List MemberVote) (calls : List Event) : Type 0 where
  pub asked : AreAsked accepts ask votes calls
  pub all : length votes ≡ length ask.members
  pub none : quorum_head ask.members votes ≡ None
  pub most : head ≡ target votes

-- these are the calls of the catch-up of a member that told this lower count
pub record IsCaughtUp (ask : Asking) (head : LatestHead) (id count : ℕ) (calls : List Event) : Type 0 where
  pub below : count < head.count
  pub own : OwnCalls (target_of ask head id) count calls

-- by the newest of its calls the catch-up ended so
abbrev pub EndedSo : Asking → LatestHead → ℕ → ℕ → List Event → Progress → Type 0
EndedSo ask head id count [] progress = ⊥
EndedSo ask head id count (event ∷ past) progress = Says (target_of ask head id) (told id count past) event (Ok progress)

-- the member has told the target's count: at first, with another tail, or by the end of its catch-up
abbrev pub HasTold : Asking → LatestHead → ℕ → ℕ → List Event → Type 0
HasTold ask head id count calls =
    ((count ≡ head.count) × (calls ≡ [])) ⊎ (IsCaughtUp ask head id count calls × EndedSo ask head id count calls Reached)

-- the vote of a member whose catch-up ended so
abbrev pub IsLeft : Progress → Vote → Type 0
IsLeft (WentAhead count tail) vote = vote ≡ Ahead count tail
IsLeft (Reason reason) vote = vote ≡ Blamed (member_cause_of reason)
IsLeft progress vote = ⊥

-- by these calls, and no other to it, a member that told this count has this vote then
abbrev pub Ends : Accepts → Asking → LatestHead → Member → ℕ → List Event → Vote → Type 0
Ends accepts ask head member count calls vote =
    ((caught : List Event) × (heard : Heard) × (calls ≡ latest_to ask member.id heard ∷ caught) × HasTold ask head member.id count caught
    × IsVote accepts ask.claim member.key heard vote)
    ⊎ ((progress : Progress) × IsCaughtUp ask head member.id count calls × EndedSo ask head member.id count calls progress × IsLeft progress vote)

-- At its turn the member at this place had told another head, with this count.
pub record IsOtherMember (ask : Asking) (head : LatestHead) (votes : List MemberVote) (place : ℕ) (member : Member) (count : ℕ) : Type 0 where
  pub is : IsMember ask place member
  pub id : ℕ
  pub tail : List ℕ
  pub sig : List ℕ
  pub at : slice_get votes place ≡ Some (record { id = id; vote = Told tail count sig })
  pub other : is_for head (Told tail count sig) ≡ false

-- The second asking had to do with the first members, so many, one after the other, by these calls: of these votes those
-- became. A member that told the target's head or has a reason isn't asked; each other one has a new vote.
abbrev pub AreAskedAgain : Accepts → Asking → LatestHead → List MemberVote → ℕ → List MemberVote → List Event → Type 0
AreAskedAgain accepts ask head firsts zero votes calls = (votes ≡ firsts) × (calls ≡ [])
AreAskedAgain accepts ask head firsts (suc n) votes calls =
    (AreAskedAgain accepts ask head firsts n votes calls × IsSettledAt head votes n)
    ⊎ ((before : List MemberVote) × (member : Member) × (count : ℕ) × (vote : Vote) × (turn older : List Event)
    × (calls ≡ turn ++ older) × AreAskedAgain accepts ask head firsts n before older × IsOtherMember ask head before n member count
    × Ends accepts ask head member count turn vote × (votes ≡ set before n (record { id = member.id; vote = vote })))

-- Both askings so far: the second one had to do with so many members.
pub record AreBoth (accepts : Accepts) (ask : Asking) (head : LatestHead) (n : ℕ) (votes : List MemberVote) (calls : List Event) : Type 0 where
  pub firsts : List MemberVote
  pub later : List Event
  pub earlier : List Event
  pub split : calls ≡ later ++ earlier
  pub first : IsUndecided accepts ask head firsts earlier
  pub again : AreAskedAgain accepts ask head firsts n votes later

-- nobody is to be asked any more: a quorum told the head at once, or the second asking is over
abbrev pub AreDone : Accepts → Asking → LatestHead → List MemberVote → List Event → Type 0
AreDone accepts ask head votes calls =
    (AreAsked accepts ask votes calls × (length votes ≡ length ask.members) × (quorum_head ask.members votes ≡ Some head))
    ⊎ AreBoth accepts ask head (length ask.members) votes calls
