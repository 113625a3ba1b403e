-- What members made known of a ledger when its latest tail was asked for, and what follows from that.
use Rattle.std.specs.Prelude.{ℕ, max, ◌==◌, ◌&&◌, nat_le, nat_lt, if◌then◌else◌, Bool, false, List, [], ◌∷◌, find, Option, Some, None, unwrap_or, replicate}
use Rattle.std.specs.List.{cons_option}
use Rattle.std.specs.Option.{option_or, option_map}
use Rattle.std.specs.Str.{bytes_eq}
use Rattle.statement.specs.declared.member.Member.{Member}
use Rattle.statement.specs.Config.{quorum, weight_together}
use Rattle.statement.specs.Mark.{Content as Mark}
use Rattle.port.specs.Answer.{Stands}
use Rattle.port.specs.Cause.{MemberCause, Denied, OtherTail, member_cause_of}
use Rattle.op_parts.specs.declared.round_refusal.Contention.{Contention}
use Rattle.op_latest.specs.declared.latest_head.LatestHead.{LatestHead}
use Rattle.op_latest.specs.declared.latest_vote.LatestVote.{LatestVote}
use Rattle.op_latest.specs.declared.latest_vote.LatestVote.TheVariants as votes

-- a tail and a count with a signature over them; a count above the wanted one and its tail; a reason
pub data Vote : Type 0 where
  Told : List ℕ → ℕ → List ℕ → Vote
  Ahead : ℕ → List ℕ → Vote
  Blamed : MemberCause → Vote

abbrev pub vote_of : LatestVote → Vote
vote_of (votes.Told tail count sig) = Told tail count sig.bytes
vote_of (votes.Ahead count tail) = Ahead count tail
vote_of (votes.Reason reason) = Blamed (member_cause_of reason)

-- of the member with this id
pub record MemberVote : Type 0 where
  pub id : ℕ
  pub vote : Vote

abbrev pub id_of : MemberVote → ℕ
id_of one = one.id

-- the vote tells this head
abbrev pub is_for : LatestHead → Vote → Bool
is_for head (Told tail count sig) = bytes_eq tail head.tail && (count == head.count)
is_for head vote = false

-- the ids of those that tell this head
abbrev pub supporters : LatestHead → List MemberVote → List ℕ
supporters head [] = []
supporters head (one ∷ others) = if is_for head one.vote then one.id ∷ supporters head others else supporters head others

abbrev pub has_quorum : List Member → List MemberVote → LatestHead → Bool
has_quorum members all head = nat_le (quorum members) (weight_together members (supporters head all))

-- the head that a vote tells
abbrev pub head_of : Vote → Option LatestHead
head_of (Told tail count sig) = Some (record { tail = tail; count = count })
head_of vote = None

-- the heads that are told
abbrev pub heads : List MemberVote → List LatestHead
heads [] = []
heads (one ∷ others) = cons_option (head_of one.vote) (heads others)

-- the first head that a quorum tells
abbrev pub quorum_head : List Member → List MemberVote → Option LatestHead
quorum_head members all = find (has_quorum members all) (heads all)

abbrev pub greatest : List LatestHead → ℕ
greatest [] = 0
greatest (head ∷ others) = max head.count (greatest others)

-- a ledger without entries
abbrev pub no_entries : LatestHead
no_entries = record { tail = replicate 32 0; count = 0 }

-- the first head with the greatest count, and that of a ledger without entries where none is told
abbrev pub target : List MemberVote → LatestHead
target all = unwrap_or (find (λ head. head.count == greatest (heads all)) (heads all)) no_entries

-- the mark of a member that tells the head
abbrev pub mark_of : LatestHead → ℕ → Vote → Option Mark
mark_of head id (Told tail count sig) = if is_for head (Told tail count sig) then Some (record { id = id; sig = sig }) else None
mark_of head id vote = None

abbrev pub marks_of : LatestHead → List MemberVote → List Mark
marks_of head [] = []
marks_of head (one ∷ others) = cons_option (mark_of head one.id one.vote) (marks_of head others)

-- the reason of a member that doesn't
abbrev pub reason_of : LatestHead → Vote → Option MemberCause
reason_of head (Told tail count sig) = if is_for head (Told tail count sig) then None else Some (OtherTail count tail)
reason_of head (Ahead count tail) = Some (Denied (Stands count tail))
reason_of head (Blamed cause) = Some cause

abbrev pub with_id : ℕ → Option MemberCause → Option (ℕ × MemberCause)
with_id id cause = option_map (λ c. (id, c)) cause

abbrev pub reasons_of : LatestHead → List MemberVote → List (ℕ × MemberCause)
reasons_of head [] = []
reasons_of head (one ∷ others) = cons_option (with_id one.id (reason_of head one.vote)) (reasons_of head others)

-- the member came to a count above this one
abbrev pub above : ℕ → ℕ → Vote → Option Contention
above first id (Told tail count sig) = if nat_lt first count then Some (record { member = id; first = first; later = count }) else None
above first id (Ahead count tail) = if nat_lt first count then Some (record { member = id; first = first; later = count }) else None
above first id (Blamed cause) = None

-- the first member that did
abbrev pub first_above : ℕ → List MemberVote → Option Contention
first_above first [] = None
first_above first (one ∷ others) = option_or (above first one.id one.vote) (first_above first others)
