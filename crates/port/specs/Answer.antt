-- What an endorser answers: what contracts see of it.
use Rattle.std.specs.Prelude.{ℕ, List, []}
use Rattle.tail_map.specs.declared.tail_row.TailRow.{TailRow}
use Rattle.statement.specs.declared.statement.Statement.{Statement}
use Rattle.port.specs.declared.phase.Phase.{Phase}
use Rattle.port.specs.declared.proof_cause.ProofCause.{ProofCause}
use Rattle.port.specs.declared.endorser_refusal.EndorserRefusal.{EndorserRefusal}
use Rattle.port.specs.declared.endorser_refusal.EndorserRefusal.TheVariants as refusals
use Rattle.port.specs.declared.endorser_answer.EndorserAnswer.{EndorserAnswer}
use Rattle.port.specs.declared.endorser_answer.EndorserAnswer.TheVariants as answers

-- a count; a count and a tail; a tail; the cause; the phase; a statement and its signature; the tail of a view
pub data Denial : Type 0 where
  Behind : ℕ → Denial
  Stands : ℕ → List ℕ → Denial
  OtherTail : List ℕ → Denial
  NotGenesis : Denial
  Full : Denial
  Tall : Denial
  NotMember : Denial
  BadView : Denial
  BadProof : ProofCause → Denial
  WrongPhase : Phase → Denial
  HasEnded : Statement → List ℕ → Denial
  OtherNext : List ℕ → Denial
  Spent : Denial
  LogFull : Denial

-- a statement and its signature; these and the rows of a map; a phase, a view's number, a tail and a count; a refusal
pub data Answer : Type 0 where
  Done : Answer
  Signed : Statement → List ℕ → Answer
  Finaled : Statement → List ℕ → List TailRow → Answer
  Shown : Phase → ℕ → List ℕ → ℕ → Answer
  Refused : Denial → Answer

abbrev pub denial_of : EndorserRefusal → Denial
denial_of (refusals.Behind count) = Behind count
denial_of (refusals.Stands count tail) = Stands count tail
denial_of (refusals.OtherTail tail) = OtherTail tail
denial_of refusals.NotGenesis = NotGenesis
denial_of refusals.Full = Full
denial_of refusals.Tall = Tall
denial_of refusals.NotMember = NotMember
denial_of refusals.BadView = BadView
denial_of (refusals.BadProof cause) = BadProof cause
denial_of (refusals.WrongPhase phase) = WrongPhase phase
denial_of (refusals.Finalized statement sig) = HasEnded statement sig.bytes
denial_of (refusals.OtherNext next) = OtherNext next
denial_of refusals.Spent = Spent
denial_of refusals.LogFull = LogFull

abbrev pub answer_of : EndorserAnswer → Answer
answer_of answers.Done = Done
answer_of (answers.Signed statement sig) = Signed statement sig.bytes
answer_of (answers.Finaled statement sig map) = Finaled statement sig.bytes map.rows
answer_of (answers.Shown phase number tail count) = Shown phase number tail count
answer_of (answers.Refused refusal) = Refused (denial_of refusal)

-- what is kept of an answer in a list of calls: all but the rows in a Finaled, which the calls before it give
abbrev pub kept : Answer → Answer
kept Done = Done
kept (Signed statement sig) = Signed statement sig
kept (Finaled statement sig map) = Finaled statement sig []
kept (Shown phase number tail count) = Shown phase number tail count
kept (Refused denial) = Refused denial
