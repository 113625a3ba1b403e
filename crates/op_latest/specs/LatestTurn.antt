-- What the second asking of a latest read has to do with each member.
use Rattle.std.specs.Prelude.{◌≡◌, ℕ, true, false, List, slice_get, Some}
use Rattle.op_latest.specs.declared.latest_head.LatestHead.{LatestHead}
use Rattle.op_latest.specs.LatestVote.{Vote, Told, MemberVote, is_for}

-- the second asking: the votes so far, the target, and the place of the member whose turn it is
pub record Second : Type 0 where
  pub votes : List MemberVote
  pub head : LatestHead
  pub place : ℕ

-- a member with this vote isn't asked again: it told the head, or has a reason
abbrev pub IsSettled : LatestHead → Vote → Type 0
IsSettled head (Told tail count sig) = is_for head (Told tail count sig) ≡ true
IsSettled head vote = Unit {0}

-- so of the member at this place
abbrev pub IsSettledAt : LatestHead → List MemberVote → ℕ → Type 0
IsSettledAt head all n = (one : MemberVote) → slice_get all n ≡ Some one → IsSettled head one.vote

-- The member at this place told another head, with this count.
pub record IsOther (head : LatestHead) (all : List MemberVote) (place count : ℕ) : Type 0 where
  pub id : ℕ
  pub tail : List ℕ
  pub sig : List ℕ
  pub at : slice_get all place ≡ Some (record { id = id; vote = Told tail count sig })
  pub other : is_for head (Told tail count sig) ≡ false
