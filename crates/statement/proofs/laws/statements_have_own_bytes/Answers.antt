use Rattle.statement.proofs.Wholes.{one_form}
use Rattle.statement.proofs.StatementReader.{statement_reader}
use Rattle.statement.proofs.laws.statements_have_own_bytes.Goals as goal

pub returns : goal.returns
returns c = one_form _ _ _ _ statement_reader
