-- A round blames no more members as lost than calls to them were lost.
use Rattle.std.proofs.Common.{◌≡◌, ◌≤◌, ◌+◌, inl, inr, ℕ, zero, suc, List, [], ◌∷◌, ◌++◌, sym, ap, subst, arith}
use Rattle.statement.specs.declared.member.Member.{Member}
use Rattle.statement.specs.Mark.{Content}
use Rattle.port.specs.Answer.{Done, Finaled, Refused, Shown, Signed, Stands}
use Rattle.port.specs.Cause.{Denied, MemberCause, OtherTail, WasLost, member_cause_of}
use Rattle.port.specs.Heard.{Answered, Heard, Lost, NoMemory}
use Rattle.port.specs.Link.{losses}
use Rattle.port.specs.Trace.{AtLink, AtStore, Event}
use Rattle.catch_up.specs.declared.progress.Progress.{Progress}
use Rattle.catch_up.specs.declared.progress.Progress.TheVariants as ends
use Rattle.catch_up.specs.Answers.{IsReason}
use Rattle.view_ledger.specs.Receipts.{Accepts}
use Rattle.op_parts.specs.RoundAsking.{Asking, append_to, claim}
use Rattle.op_parts.specs.RoundOutcome.{Blamed, IsOutcome}
use Rattle.op_parts.specs.RoundSound.{AreAsked, Sound}
use Rattle.op_parts.specs.RoundState.{State}
use Rattle.op_parts.specs.RoundTurn.{EndedSo, Ends, IsBlame}
use Rattle.script_runs.specs.AskedFor.{is_loss, losses_in}
use Rattle.script_runs.proofs.Measured.{weighed, weighed_append}

-- how many losses of the id a call is
abbrev pub loss_of : ℕ → Event → ℕ
loss_of id (AtStore call answer) = 0
loss_of id (AtLink other call heard) = losses other heard id

abbrev pub lost : ℕ → List Event → ℕ
lost id events = weighed (loss_of id) events

pub losses_append : (id : ℕ) (a b : List (ℕ × MemberCause)) → losses_in id (a ++ b) ≡ losses_in id a + losses_in id b
losses_append id [] b = omega arith
losses_append id (reason ∷ a) b = let e = losses_append id a b in omega (arith, e)

-- the newest calls are some of all
pub lost_newer : (id : ℕ) (calls newer older : List Event) → calls ≡ newer ++ older → lost id newer ≤ lost id calls
lost_newer id calls newer older split =
    let e = weighed_append (loss_of id) newer older in
    let s : lost id calls ≡ lost id (newer ++ older) = ap (lost id) split in
    omega (arith, e, s)

-- a catch-up whose call was heard so blames the member
pub reason_lost : (height id other : ℕ) (heard : Heard) (cause : MemberCause) → IsReason height heard cause → is_loss id other cause ≤ losses other heard id
reason_lost height id other Lost WasLost is = omega arith
reason_lost height id other Lost (Denied denial) is = omega arith
reason_lost height id other Lost (OtherTail count tail) is = omega arith
reason_lost height id other (Answered Done) WasLost is = absurd is
reason_lost height id other (Answered (Signed statement sig)) WasLost is = absurd is
reason_lost height id other (Answered (Finaled statement sig map)) WasLost is = absurd is
reason_lost height id other (Answered (Shown phase number tail count)) WasLost is = absurd is
reason_lost height id other (Answered (Refused denial)) WasLost is = absurd is
reason_lost height id other (Answered answer) (Denied denial) is = omega arith
reason_lost height id other (Answered answer) (OtherTail count tail) is = omega arith
reason_lost height id other NoMemory WasLost is = absurd is
reason_lost height id other NoMemory (Denied denial) is = omega arith
reason_lost height id other NoMemory (OtherTail count tail) is = omega arith

module _ (accepts : Accepts) (ask : Asking) (id : ℕ) where
  -- so does the append of the row
  outcome_lost : (key : List ℕ) (other : ℕ) (heard : Heard) (cause : MemberCause) → IsOutcome accepts (claim ask) key heard (Blamed cause) → is_loss id other cause ≤ losses other heard id
  outcome_lost key other Lost WasLost is = omega arith
  outcome_lost key other Lost (Denied denial) is = omega arith
  outcome_lost key other Lost (OtherTail count tail) is = omega arith
  outcome_lost key other (Answered Done) WasLost is = absurd is
  outcome_lost key other (Answered (Signed statement sig)) WasLost is = absurd is
  outcome_lost key other (Answered (Finaled statement sig map)) WasLost is = absurd is
  outcome_lost key other (Answered (Shown phase number tail count)) WasLost is = absurd is
  outcome_lost key other (Answered (Refused denial)) WasLost is = absurd is
  outcome_lost key other (Answered answer) (Denied denial) is = omega arith
  outcome_lost key other (Answered answer) (OtherTail count tail) is = omega arith
  outcome_lost key other NoMemory WasLost is = absurd is
  outcome_lost key other NoMemory (Denied denial) is = omega arith
  outcome_lost key other NoMemory (OtherTail count tail) is = omega arith

  -- the end of a catch-up
  ended_lost : (other from : ℕ) (later : List Event) (progress : Progress) (cause : MemberCause) → EndedSo ask other from later progress → IsBlame progress (Blamed cause) → is_loss id other cause ≤ lost id later
  ended_lost other from [] progress cause ended is = absurd ended
  ended_lost other from (event ∷ past) (ends.Ahead count tail) cause ended is =
      let c : cause ≡ Denied (Stands count tail) = cc is in
      subst (λ (x : MemberCause). is_loss id other x ≤ lost id (event ∷ past)) (sym c) (omega arith)
  ended_lost other from (event ∷ past) (ends.Member reason) cause (call, heard, did, why) is =
      let c : cause ≡ member_cause_of reason = cc is in
      let less = reason_lost _ id other heard (member_cause_of reason) why in
      let e : loss_of id event ≡ losses other heard id = ap (loss_of id) did in
      subst (λ (x : MemberCause). is_loss id other x ≤ lost id (event ∷ past)) (sym c) (omega (arith, less, e))
  ended_lost other from (event ∷ past) ends.More cause ended is = absurd is
  ended_lost other from (event ∷ past) ends.Reached cause ended is = absurd is
  ended_lost other from (event ∷ past) (ends.Row refusal) cause ended is = absurd is

  newest_lost : (member : Member) (calls before : List Event) (heard : Heard) (cause : MemberCause) → calls ≡ append_to ask member.id heard ∷ before → IsOutcome accepts (claim ask) member.key heard (Blamed cause)
      → is_loss id member.id cause ≤ lost id calls
  newest_lost member calls before heard cause is outcome =
      let less = outcome_lost member.key member.id heard cause outcome in
      let e : lost id calls ≡ losses member.id heard id + lost id before = ap (lost id) is in
      omega (arith, less, e)

  turn_lost : (member : Member) (calls : List Event) (cause : MemberCause) → Ends accepts ask member calls (Blamed cause) → is_loss id member.id cause ≤ lost id calls
  turn_lost member calls cause (inl (heard, is, outcome, settled)) = newest_lost member calls [] heard cause is outcome
  turn_lost member calls cause (inr (inl (from, later, progress, behind, ended, is))) =
      let less = ended_lost member.id from later progress cause ended is in
      let more = lost_newer id calls later _ behind.split in
      omega (arith, less, more)
  turn_lost member calls cause (inr (inr (from, later, caught, heard, is, behind, ended, outcome))) = newest_lost member calls caught heard cause is outcome

  asked_lost : (n : ℕ) (marks : List Content) (reasons : List (ℕ × MemberCause)) (past : List Event) → AreAsked accepts ask n marks reasons past → losses_in id reasons ≤ lost id past
  asked_lost zero marks reasons past (m, r, p) = let e : losses_in id reasons ≡ 0 = ap (losses_in id) r in omega (arith, e)
  asked_lost (suc n) marks reasons past (member, calls, before, is, split, inl (sig, others, m, ended, asked)) =
      let older = asked_lost n others reasons before asked in
      let e = weighed_append (loss_of id) calls before in
      let s : lost id past ≡ lost id (calls ++ before) = ap (lost id) split in
      omega (arith, older, e, s)
  asked_lost (suc n) marks reasons past (member, calls, before, is, split, inr (cause, others, r, ended, asked)) =
      let older = asked_lost n marks others before asked in
      let less = turn_lost member calls cause ended in
      let e = weighed_append (loss_of id) calls before in
      let s : lost id past ≡ lost id (calls ++ before) = ap (lost id) split in
      let more = losses_append id others ((member.id, cause) ∷ []) in
      let same : losses_in id reasons ≡ losses_in id (others ++ (member.id, cause) ∷ []) = ap (losses_in id) r in
      omega (arith, older, less, e, s, more, same)

  pub round_lost : (round : State) (past : List Event) → Sound accepts ask round past → losses_in id round.reasons ≤ lost id past
  round_lost round past sound =
      let older = asked_lost round.asked round.marks round.reasons sound.before sound.asked in
      let e = weighed_append (loss_of id) sound.calls sound.before in
      let s : lost id past ≡ lost id (sound.calls ++ sound.before) = ap (lost id) sound.split in
      omega (arith, older, e, s)
