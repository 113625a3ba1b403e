-- What a line's answer is to a contract: what is kept of an endorser's answer.
use Rattle.std.specs.Prelude.{[]}
use Rattle.port.specs.Answer.{Answer, Done, Signed, Finaled, Shown, Refused, denial_of}
use Rattle.endorser_core.specs.declared.cell_answer.CellAnswer.{CellAnswer}
use Rattle.endorser_core.specs.declared.cell_answer.CellAnswer.TheVariants as answers

abbrev pub kept_of : CellAnswer → Answer
kept_of answers.Done = Done
kept_of (answers.Signed statement sig) = Signed statement sig.bytes
kept_of (answers.Finaled statement sig) = Finaled statement sig.bytes []
kept_of (answers.Shown phase number tail count) = Shown phase number tail count
kept_of (answers.Refused refusal) = Refused (denial_of refusal)
