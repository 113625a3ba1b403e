-- A read of a newest row blames no more members as lost than calls to them were lost.
use Rattle.std.proofs.Common.{◌≡◌, ◌≤◌, ◌+◌, ◌-◌, inl, inr, ℕ, zero, suc, Bool, true, false, if◌then◌else◌, List, [], ◌∷◌, ◌++◌, length, set, Option, Some, None, Err, refl, sym, ap, subst, arith}
use Rattle.std.specs.List.{cons_option}
use Rattle.std.specs.Option.{option_map, option_or}
use Rattle.std.specs.Prelude.{unwrap_or}
use Rattle.statement.specs.Config.{quorum}
use Rattle.statement.specs.declared.member.Member.{Member}
use Rattle.port.specs.Answer.{Done, Finaled, Full as MapFull, HasEnded, Refused, Shown, Signed}
use Rattle.port.specs.Cause.{Cause, Denied, MemberCause, NoQuorum, OtherTail, WasLost, member_cause_of}
use Rattle.port.specs.Heard.{Answered, Heard, Lost, NoMemory}
use Rattle.port.specs.Link.{losses}
use Rattle.port.specs.Trace.{Event}
use Rattle.catch_up.specs.declared.progress.Progress.{Progress}
use Rattle.catch_up.specs.declared.progress.Progress.TheVariants as ends
use Rattle.view_ledger.specs.Receipts.{Accepts}
use Rattle.view_ledger.specs.Views.{ViewChain}
use Rattle.op_parts.specs.declared.round_refusal.Contention.{Contention}
use Rattle.op_parts.specs.RoundRefusal.{cause_without_quorum, contended, first_given, full, moved}
use Rattle.op_latest.specs.declared.latest_head.LatestHead.{LatestHead}
use Rattle.op_latest.specs.LatestAsked.{AreAsked, AreAskedAgain, AreBoth, Asking, EndedSo, Ends, IsLeft, LatestAsk, asking_of}
use Rattle.op_latest.specs.LatestJudged.{IsVote}
use Rattle.op_latest.specs.LatestSays.{LatestSays}
use Rattle.op_latest.specs.LatestVote.{Ahead, Blamed, MemberVote, Told, Vote, first_above, is_for, reason_of, reasons_of, with_id}
use Rattle.script_runs.specs.AskedFor.{is_loss, losses_in, losses_told}
use Rattle.script_runs.proofs.Measured.{weighed_append}
use Rattle.script_runs.proofs.RoundLosses.{loss_of, lost, lost_newer, reason_lost}

-- how many losses of the id a vote is, and votes are
abbrev vote_loss : ℕ → ℕ → Vote → ℕ
vote_loss id other (Blamed cause) = is_loss id other cause
vote_loss id other (Told tail count sig) = 0
vote_loss id other (Ahead count tail) = 0

abbrev vote_losses : ℕ → List MemberVote → ℕ
vote_losses id [] = 0
vote_losses id (one ∷ others) = vote_loss id one.id one.vote + vote_losses id others

votes_append : (id : ℕ) (a b : List MemberVote) → vote_losses id (a ++ b) ≡ vote_losses id a + vote_losses id b
votes_append id [] b = omega arith
votes_append id (one ∷ a) b = let e = votes_append id a b in omega (arith, e)

-- one vote was changed
votes_set : (id : ℕ) (votes : List MemberVote) (n : ℕ) (one : MemberVote) → vote_losses id (set votes n one) ≤ vote_losses id votes + vote_loss id one.id one.vote
votes_set id [] n one = omega arith
votes_set id (first ∷ votes) zero one = omega arith
votes_set id (first ∷ votes) (suc n) one = let e = votes_set id votes n one in omega (arith, e)

-- the reasons are those of the votes
reasons_lost : (id : ℕ) (head : LatestHead) (votes : List MemberVote) → losses_in id (reasons_of head votes) ≤ vote_losses id votes
reasons_lost id head [] = omega arith
reasons_lost id head (one ∷ others) = by one.vote (reasons_lost id head others)
  where
    told : (b : Bool) (cause : MemberCause) (rest : List (ℕ × MemberCause)) → is_loss id one.id cause ≡ 0 → losses_in id (cons_option (with_id one.id (if b then None else Some cause)) rest) ≤ losses_in id rest
    told true cause rest none = omega arith
    told false cause rest none = omega (arith, none)

    by : (vote : Vote) → losses_in id (reasons_of head others) ≤ vote_losses id others
        → losses_in id (cons_option (with_id one.id (reason_of head vote)) (reasons_of head others)) ≤ vote_loss id one.id vote + vote_losses id others
    by (Told tail count sig) less = let e = told (is_for head (Told tail count sig)) (OtherTail count tail) (reasons_of head others) refl in omega (arith, e, less)
    by (Ahead count tail) less = omega (arith, less)
    by (Blamed cause) less = omega (arith, less)

module _ (accepts : Accepts) (ask : Asking) (id : ℕ) where
  -- what was heard of a read
  vote_lost : (key : List ℕ) (other : ℕ) (heard : Heard) (vote : Vote) → IsVote accepts ask.claim key heard vote → vote_loss id other vote ≤ losses other heard id
  vote_lost key other heard (Told tail count sig) is = omega arith
  vote_lost key other heard (Ahead count tail) is = omega arith
  vote_lost key other heard (Blamed (Denied denial)) is = omega arith
  vote_lost key other heard (Blamed (OtherTail count tail)) is = omega arith
  vote_lost key other Lost (Blamed WasLost) is = omega arith
  vote_lost key other NoMemory (Blamed WasLost) is = absurd is
  vote_lost key other (Answered Done) (Blamed WasLost) is = absurd is
  vote_lost key other (Answered (Signed statement sig)) (Blamed WasLost) is = absurd is
  vote_lost key other (Answered (Finaled statement sig map)) (Blamed WasLost) is = absurd is
  vote_lost key other (Answered (Shown phase number tail count)) (Blamed WasLost) is = absurd is
  vote_lost key other (Answered (Refused denial)) (Blamed WasLost) is = absurd is

  -- the first asking
  asked_lost : (votes : List MemberVote) (past : List Event) → AreAsked accepts ask votes past → vote_losses id votes ≤ lost id past
  asked_lost votes [] is = let e : vote_losses id votes ≡ 0 = ap (vote_losses id) is in omega (arith, e)
  asked_lost votes (event ∷ past) (member, heard, vote, others, at, did, is, split, asked) =
      let older = asked_lost others past asked in
      let less = vote_lost member.key member.id heard vote is in
      let e : loss_of id event ≡ losses member.id heard id = ap (loss_of id) did in
      let more = votes_append id others (record { id = member.id; vote = vote } ∷ []) in
      let same : vote_losses id votes ≡ vote_losses id (others ++ record { id = member.id; vote = vote } ∷ []) = ap (vote_losses id) split in
      omega (arith, older, less, e, more, same)

  -- the end of a catch-up
  left_lost : (head : LatestHead) (other count : ℕ) (calls : List Event) (progress : Progress) (vote : Vote) → EndedSo ask head other count calls progress → IsLeft progress vote → vote_loss id other vote ≤ lost id calls
  left_lost head other count [] progress vote ended is = absurd ended
  left_lost head other count (event ∷ past) (ends.Ahead n tail) vote ended is = subst (λ (x : Vote). vote_loss id other x ≤ lost id (event ∷ past)) (sym is) (omega arith)
  left_lost head other count (event ∷ past) (ends.Member reason) vote (call, heard, did, why) is =
      let less = reason_lost _ id other heard (member_cause_of reason) why in
      let e : loss_of id event ≡ losses other heard id = ap (loss_of id) did in
      subst (λ (x : Vote). vote_loss id other x ≤ lost id (event ∷ past)) (sym is) (omega (arith, less, e))
  left_lost head other count (event ∷ past) ends.More vote ended is = absurd is
  left_lost head other count (event ∷ past) ends.Reached vote ended is = absurd is
  left_lost head other count (event ∷ past) (ends.Row refusal) vote ended is = absurd is

  turn_lost : (head : LatestHead) (member : Member) (count : ℕ) (calls : List Event) (vote : Vote) → Ends accepts ask head member count calls vote → vote_loss id member.id vote ≤ lost id calls
  turn_lost head member count calls vote (inl (caught, heard, is, told, judged)) =
      let less = vote_lost member.key member.id heard vote judged in
      let e : lost id calls ≡ losses member.id heard id + lost id caught = ap (lost id) is in
      omega (arith, less, e)
  turn_lost head member count calls vote (inr (progress, caught, ended, left)) = left_lost head member.id count calls progress vote ended left

  -- the second asking
  again_lost : (head : LatestHead) (firsts : List MemberVote) (n : ℕ) (votes : List MemberVote) (calls : List Event) → AreAskedAgain accepts ask head firsts n votes calls
      → vote_losses id votes ≤ vote_losses id firsts + lost id calls
  again_lost head firsts zero votes calls (is, none) = let e : vote_losses id votes ≡ vote_losses id firsts = ap (vote_losses id) is in omega (arith, e)
  again_lost head firsts (suc n) votes calls (inl (again, settled)) = again_lost head firsts n votes calls again
  again_lost head firsts (suc n) votes calls (inr (before, member, count, vote, turn, older, split, again, other, ended, is)) =
      let earlier = again_lost head firsts n before older again in
      let less = turn_lost head member count turn vote ended in
      let e = weighed_append (loss_of id) turn older in
      let s : lost id calls ≡ lost id (turn ++ older) = ap (lost id) split in
      let more = votes_set id before n (record { id = member.id; vote = vote }) in
      let same : vote_losses id votes ≡ vote_losses id (set before n (record { id = member.id; vote = vote })) = ap (vote_losses id) is in
      omega (arith, earlier, less, e, s, more, same)

  pub both_lost : (head : LatestHead) (n : ℕ) (votes : List MemberVote) (calls : List Event) → AreBoth accepts ask head n votes calls → losses_in id (reasons_of head votes) ≤ lost id calls
  both_lost head n votes calls both =
      let first = asked_lost both.firsts both.earlier both.first.asked in
      let again = again_lost head both.firsts n votes both.later both.again in
      let reasons = reasons_lost id head votes in
      let e = weighed_append (loss_of id) both.later both.earlier in
      let s : lost id calls ≡ lost id (both.later ++ both.earlier) = ap (lost id) both.split in
      omega (arith, first, again, reasons, e, s)

-- ---- the cause

-- this cause, where there is one, tells of no loss
abbrev IsSilent : ℕ → Option Cause → Type 0
IsSilent id None = Unit {0}
IsSilent id (Some cause) = losses_told id cause ≡ 0

or_silent : (id : ℕ) (one other : Option Cause) → IsSilent id one → IsSilent id other → IsSilent id (option_or one other)
or_silent id None other first next = next
or_silent id (Some cause) other first next = first

given_silent : (id : ℕ) (give : ℕ → MemberCause → Option Cause) → ((other : ℕ) (cause : MemberCause) → IsSilent id (give other cause)) → (reasons : List (ℕ × MemberCause)) → IsSilent id (first_given give reasons)
given_silent id give each [] = tt
given_silent id give each (reason ∷ reasons) = or_silent id (give reason.0 reason.1) (first_given give reasons) (each reason.0 reason.1) (given_silent id give each reasons)

moved_silent : (id from other : ℕ) (cause : MemberCause) → IsSilent id (moved from other cause)
moved_silent id from other (Denied (HasEnded statement sig)) = refl
moved_silent id from other cause = tt

full_silent : (id other : ℕ) (cause : MemberCause) → IsSilent id (full other cause)
full_silent id other (Denied MapFull) = refl
full_silent id other cause = tt

higher_silent : (id : ℕ) (higher : Option Contention) → IsSilent id (option_map contended higher)
higher_silent id None = tt
higher_silent id (Some contention) = refl

or_else : (id : ℕ) (one : Option Cause) (cause : Cause) → IsSilent id one → losses_told id (unwrap_or one cause) ≤ losses_told id cause
or_else id None cause silent = omega arith
or_else id (Some first) cause silent = let e = silent in omega (arith, e)

-- whatever cause follows from reasons, it tells of no more losses than they do
pub cause_lost : (id from need : ℕ) (higher : Option Contention) (reasons : List (ℕ × MemberCause)) → losses_told id (cause_without_quorum from need higher reasons) ≤ losses_in id reasons
cause_lost id from need higher reasons =
    let last = or_silent id (first_given full reasons) (option_map contended higher) (given_silent id full (full_silent id) reasons) (higher_silent id higher) in
    or_else id _ (NoQuorum need reasons) (or_silent id (first_given (moved from) reasons) _ (given_silent id (moved from) (moved_silent id from) reasons) last)

pub read_lost : (id : ℕ) (accepts : Accepts) (ask : LatestAsk) (chain : ViewChain) (past : List Event) (cause : Cause) → LatestSays accepts ask chain past (Err cause) → losses_told id cause ≤ lost id past
read_lost id accepts ask chain past (NoQuorum need reasons) (is, many, shown, concluded) =
    let less = cause_lost id (length chain.configs - 1) (quorum (asking_of ask chain).members) (first_above concluded.head.count concluded.votes) (reasons_of concluded.head concluded.votes) in
    let e : losses_in id reasons ≡ losses_told id (cause_without_quorum (length chain.configs - 1) (quorum (asking_of ask chain).members) (first_above concluded.head.count concluded.votes) (reasons_of concluded.head concluded.votes)) =
    ap (losses_told id) concluded.is in
    let both = both_lost accepts (asking_of ask chain) id concluded.head _ concluded.votes concluded.calls concluded.both in
    let newer = lost_newer id past concluded.calls concluded.fresh concluded.split in
    omega (arith, less, e, both, newer)
read_lost id accepts ask chain past cause says = omega arith
