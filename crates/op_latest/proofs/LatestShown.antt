-- What the calls of a latest read show of the members that were asked.
use Rattle.std.proofs.Common.{◌≡◌, inl, inr, ℕ, zero, suc, ◌+◌, ◌<◌, ◌≤◌, true, List, [], ◌∷◌, ◌++◌, length, map, take, slice_get, Option, Some, refl, sym, ◌∙◌, subst, ap, arith}
use Rattle.std.specs.Prelude.{set, Ok}
use Rattle.std.specs.List.{AllByRecursion}
use Rattle.std.specs.Option.{option_map}
use Rattle.std.proofs.lemmas.List.{append_assoc, map-append, map-set}
use Rattle.std.proofs.lemmas.Option.{slice_get-map, slice_get_within}
use Rattle.std.proofs.Math.Seq.{take-suc}
use Rattle.std.proofs.lemmas.Option.{get_or_from_slice_get}
use Rattle.statement.specs.declared.member.Member.{Member}
use Rattle.statement.specs.declared.statement.Statement.{Statement}
use Rattle.statement.specs.Config.{ids, id_of as member_id}
use Rattle.statement.specs.Statement.{statement_bytes}
use Rattle.port.specs.declared.reason.Reason.{Reason}
use Rattle.port.specs.Answer.{Answer, Denial, Signed, Refused, Stands}
use Rattle.port.specs.Call.{Latest}
use Rattle.port.specs.Cause.{MemberCause, WasLost, Denied, OtherTail, member_cause_of, HadAnswer, TellsCount, IsMemberShown}
use Rattle.port.specs.Heard.{Heard, Answered, Lost}
use Rattle.port.specs.Trace.{Event, Had}
use Rattle.catch_up.specs.declared.progress.Progress.{Progress}
use Rattle.catch_up.specs.declared.progress.Progress.TheVariants.{Reached, Ahead as WentAhead, Member as Reasoned}
use Rattle.catch_up.specs.State.{Target}
use Rattle.catch_up.specs.Told.{told}
use Rattle.catch_up.specs.Says.{Says}
use Rattle.view_ledger.specs.Receipts.{Accepts}
use Rattle.op_latest.specs.declared.latest_head.LatestHead.{LatestHead}
use Rattle.op_latest.specs.LatestAsked.{Asking, IsMember, latest_to, target_of, AreAsked, EndedSo, IsLeft, Ends, AreAskedAgain}
use Rattle.op_latest.specs.LatestJudged.{latest, IsHead, IsVote}
use Rattle.op_latest.specs.LatestVote.{Vote, Told, Ahead, Blamed, MemberVote, id_of}
use Rattle.op_latest.proofs.LatestLists.{Within, later, newer, all_more, all_and, all_set, set_same, get_above}

-- what a catch-up's laws say of how it ends
abbrev pub ReachedLaw : Type 0
ReachedLaw = (target : Target) (height : ℕ) (event : Event) (past : List Event) → Says target height event (Ok Reached)
    → (answer : Answer) × HadAnswer (event ∷ past) target.member answer × TellsCount answer target.count

abbrev pub AheadLaw : Type 0
AheadLaw = (target : Target) (height : ℕ) (event : Event) (past : List Event) (count : ℕ) (tail : List ℕ) → Says target height event (Ok (WentAhead count tail))
    → (target.count < count) × HadAnswer (event ∷ past) target.member (Refused (Stands count tail))

abbrev pub MemberLaw : Type 0
MemberLaw = (target : Target) (height : ℕ) (event : Event) (past : List Event) (reason : Reason) → Says target height event (Ok (Reasoned reason))
    → IsMemberShown (event ∷ past) target.member (member_cause_of reason)

-- the calls show the member's vote
abbrev pub Shows : Accepts → Asking → Member → List Event → Vote → Type 0
Shows accepts ask member calls (Told tail count sig) =
    (accepts member.key (statement_bytes (latest ask.claim tail count)) sig ≡ true) × IsHead tail count
    × Had calls (latest_to ask member.id (Answered (Signed (latest ask.claim tail count) sig)))
Shows accepts ask member calls (Ahead count tail) = HadAnswer calls member.id (Refused (Stands count tail))
Shows accepts ask member calls (Blamed cause) = IsMemberShown calls member.id cause

abbrev pub VoteShown : Accepts → Asking → List Event → MemberVote → Type 0
VoteShown accepts ask calls one = (place : ℕ) × (member : Member) × IsMember ask place member × (one.id ≡ member.id) × Shows accepts ask member calls one.vote

abbrev pub VotesShown : Accepts → Asking → List Event → List MemberVote → Type 0
VotesShown accepts ask calls votes = AllByRecursion (VoteShown accepts ask calls) votes

pub member_more : (some all : List Event) (id : ℕ) (cause : MemberCause) → Within some all → IsMemberShown some id cause → IsMemberShown all id cause
member_more some all id WasLost more shown = (shown.0, more _ shown.1)
member_more some all id (Denied denial) more shown = (shown.0, more _ shown.1)
member_more some all id (OtherTail count tail) more shown = (shown.0, (shown.1.0, more _ shown.1.1), shown.2)

shows_more : (accepts : Accepts) (ask : Asking) (member : Member) (some all : List Event) (vote : Vote) → Within some all
    → Shows accepts ask member some vote → Shows accepts ask member all vote
shows_more accepts ask member some all (Told tail count sig) more shown = (shown.0, shown.1, more _ shown.2)
shows_more accepts ask member some all (Ahead count tail) more shown = (shown.0, more _ shown.1)
shows_more accepts ask member some all (Blamed cause) more shown = member_more some all member.id cause more shown

pub votes_more : (accepts : Accepts) (ask : Asking) (some all : List Event) (votes : List MemberVote) → Within some all
    → VotesShown accepts ask some votes → VotesShown accepts ask all votes
votes_more accepts ask some all votes more shown =
    all_more (VoteShown accepts ask some) (VoteShown accepts ask all)
    (λ one is. (is.0, is.1, is.2, is.3, shows_more accepts ask is.1 some all one.vote more is.4)) votes shown

module _ (accepts : Accepts) (ask : Asking) where
  -- what was heard shows the vote
  heard_shows : (member : Member) (rest : List Event) (heard : Heard) (vote : Vote) → IsVote accepts ask.claim member.key heard vote
      → Shows accepts ask member (latest_to ask member.id heard ∷ rest) vote
  heard_shows member rest (Answered (Signed statement mark)) (Told tail count sig) is = (
    subst (λ (s : Statement). accepts member.key (statement_bytes s) sig ≡ true) is.1.states
        (subst (λ (m : List ℕ). accepts member.key (statement_bytes statement) m ≡ true) (sym is.0) is.1.signed),
    is.1.head,
    inl (ap (λ (s : Statement). latest_to ask member.id (Answered (Signed s mark))) is.1.states
        ∙ ap (λ (m : List ℕ). latest_to ask member.id (Answered (Signed (latest ask.claim tail count) m))) (sym is.0)),
  )
  heard_shows member rest (Answered (Refused denial)) (Blamed (Denied reason)) is =
      (Latest ask.claim.handle ask.claim.nonce, inl (ap (λ (d : Denial). latest_to ask member.id (Answered (Refused d))) (sym is.0)))
  heard_shows member rest (Answered answer) (Blamed (OtherTail count tail)) is =
      (answer, (Latest ask.claim.handle ask.claim.nonce, inl refl), inr (is.1, is.2))
  heard_shows member rest Lost (Blamed WasLost) is = (Latest ask.claim.handle ask.claim.nonce, inl refl)
  heard_shows member rest heard vote is = absurd is

  -- the first asking
  pub asked_shown : (votes : List MemberVote) (calls : List Event) → AreAsked accepts ask votes calls → VotesShown accepts ask calls votes
  asked_shown votes [] asked = subst (VotesShown accepts ask []) (sym asked) tt
  asked_shown votes (event ∷ past) (member, heard, vote, others, is, sent, judged, last, asked) =
      subst (λ (v : List MemberVote). VotesShown accepts ask (event ∷ past) v) (sym last)
      (all_and (VoteShown accepts ask (event ∷ past)) others (record { id = member.id; vote = vote })
      (votes_more accepts ask past (event ∷ past) others (λ e had. inr had) (asked_shown others past asked))
      (length past, member, is, refl, subst (λ (e : Event). Shows accepts ask member (e ∷ past) vote) (sym sent) (heard_shows member past heard vote judged)))

  pub asked_length : (votes : List MemberVote) (calls : List Event) → AreAsked accepts ask votes calls → length votes ≡ length calls
  asked_length votes [] asked = ap length asked
  asked_length votes (event ∷ past) (member, heard, vote, others, is, sent, judged, last, asked) =
      omega (arith, ap length last, length_and others (record { id = member.id; vote = vote }), asked_length others past asked)
    where
      length_and : (xs : List MemberVote) (x : MemberVote) → length (xs ++ x ∷ []) ≡ length xs + 1
      length_and [] x = refl
      length_and (first ∷ xs) x = omega (arith, length_and xs x)

  take_next : (n : ℕ) (member : Member) → IsMember ask n member → take (suc n) (ids ask.members) ≡ take n (ids ask.members) ++ member.id ∷ []
  take_next n member is =
      let there : slice_get (ids ask.members) n ≡ Some member.id = slice_get-map member_id ask.members n ∙ ap (λ (o : Option Member). option_map member_id o) is in
      take-suc (ids ask.members) n member.id (slice_get_within (ids ask.members) n member.id there)
      ∙ ap (λ (id : ℕ). take n (ids ask.members) ++ id ∷ []) (get_or_from_slice_get (ids ask.members) n member.id member.id there)

  pub asked_ids : (votes : List MemberVote) (calls : List Event) → AreAsked accepts ask votes calls → map id_of votes ≡ take (length calls) (ids ask.members)
  asked_ids votes [] asked = ap (map id_of) asked
  asked_ids votes (event ∷ past) (member, heard, vote, others, is, sent, judged, last, asked) =
      ap (map id_of) last ∙ map-append id_of others (record { id = member.id; vote = vote } ∷ [])
      ∙ ap (λ (l : List ℕ). l ++ member.id ∷ []) (asked_ids others past asked) ∙ sym (take_next (length past) member is)

  -- the end of a member's turn
  left_shows : AheadLaw → MemberLaw → (head : LatestHead) (member : Member) (count : ℕ) (calls : List Event) (progress : Progress) (vote : Vote)
      → EndedSo ask head member.id count calls progress → IsLeft progress vote → Shows accepts ask member calls vote
  left_shows by_ahead by_member head member count [] progress vote so is = absurd so
  left_shows by_ahead by_member head member count (event ∷ past) (WentAhead more tail) vote so is =
      subst (Shows accepts ask member (event ∷ past)) (sym is) (by_ahead (target_of ask head member.id) (told member.id count past) event past more tail so).1
  left_shows by_ahead by_member head member count (event ∷ past) (Reasoned reason) vote so is =
      subst (Shows accepts ask member (event ∷ past)) (sym is) (by_member (target_of ask head member.id) (told member.id count past) event past reason so)
  left_shows by_ahead by_member head member count (event ∷ past) progress vote so is = absurd is

  ends_shows : AheadLaw → MemberLaw → (head : LatestHead) (member : Member) (count : ℕ) (calls : List Event) (vote : Vote)
      → Ends accepts ask head member count calls vote → Shows accepts ask member calls vote
  ends_shows by_ahead by_member head member count calls vote (inl e) =
      subst (λ (c : List Event). Shows accepts ask member c vote) (sym e.2) (heard_shows member e.0 e.1 vote e.4)
  ends_shows by_ahead by_member head member count calls vote (inr e) = left_shows by_ahead by_member head member count calls e.0 vote e.2 e.3

  -- the second asking
  pub again_shown : AheadLaw → MemberLaw → (head : LatestHead) (firsts : List MemberVote) (earlier : List Event) → VotesShown accepts ask earlier firsts
      → (n : ℕ) (votes : List MemberVote) (calls : List Event) → AreAskedAgain accepts ask head firsts n votes calls → VotesShown accepts ask (calls ++ earlier) votes
  again_shown by_ahead by_member head firsts earlier shown zero votes calls again =
      subst (λ (v : List MemberVote). VotesShown accepts ask (calls ++ earlier) v) (sym again.0) (votes_more accepts ask earlier (calls ++ earlier) firsts (later calls earlier) shown)
  again_shown by_ahead by_member head firsts earlier shown (suc n) votes calls (inl same) =
      again_shown by_ahead by_member head firsts earlier shown n votes calls same.0
  again_shown by_ahead by_member head firsts earlier shown (suc n) votes calls (inr (before, member, count, vote, turn, older, whole, again, other, ends, now)) =
      subst (λ (v : List MemberVote). VotesShown accepts ask (calls ++ earlier) v) (sym now)
      (all_set (VoteShown accepts ask (calls ++ earlier)) before n (record { id = member.id; vote = vote })
      (votes_more accepts ask (older ++ earlier) (calls ++ earlier) before
      (subst (λ (c : List Event). Within (older ++ earlier) c) (sym (append_assoc turn older earlier) ∙ ap (λ (c : List Event). c ++ earlier) (sym whole)) (later turn (older ++ earlier)))
      (again_shown by_ahead by_member head firsts earlier shown n before older again)) (
        n,
        member,
        other.is,
        refl,
        shows_more accepts ask member turn (calls ++ earlier) vote
            (subst (λ (c : List Event). Within turn c) (sym (append_assoc turn older earlier) ∙ ap (λ (c : List Event). c ++ earlier) (sym whole)) (newer turn (older ++ earlier)))
            (ends_shows by_ahead by_member head member count turn vote ends),
      ))

  pub again_ids : (head : LatestHead) (firsts : List MemberVote) → map id_of firsts ≡ ids ask.members
      → (n : ℕ) (votes : List MemberVote) (calls : List Event) → AreAskedAgain accepts ask head firsts n votes calls → map id_of votes ≡ ids ask.members
  again_ids head firsts is zero votes calls again = ap (map id_of) again.0 ∙ is
  again_ids head firsts is (suc n) votes calls (inl same) = again_ids head firsts is n votes calls same.0
  again_ids head firsts is (suc n) votes calls (inr (before, member, count, vote, turn, older, whole, again, other, ends, now)) =
      ap (map id_of) now ∙ map-set id_of before n (record { id = member.id; vote = vote })
      ∙ ap (λ (l : List ℕ). set l n member.id) (again_ids head firsts is n before older again)
      ∙ set_same (ids ask.members) n member.id (slice_get-map member_id ask.members n ∙ ap (λ (o : Option Member). option_map member_id o) other.is)

  -- later votes are those of the first asking
  pub same_later : (head : LatestHead) (firsts : List MemberVote) (n : ℕ) (votes : List MemberVote) (calls : List Event) → AreAskedAgain accepts ask head firsts n votes calls
      → (k : ℕ) → n ≤ k → slice_get votes k ≡ slice_get firsts k
  same_later head firsts zero votes calls again k le = ap (λ (v : List MemberVote). slice_get v k) again.0
  same_later head firsts (suc n) votes calls (inl same) k le = same_later head firsts n votes calls same.0 k (omega (arith, le))
  same_later head firsts (suc n) votes calls (inr (before, member, count, vote, turn, older, whole, again, other, ends, now)) k le =
      ap (λ (v : List MemberVote). slice_get v k) now ∙ get_above before n k (record { id = member.id; vote = vote }) (omega (arith, le))
      ∙ same_later head firsts n before older again k (omega (arith, le))
