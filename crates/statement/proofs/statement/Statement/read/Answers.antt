use Rattle.std.proofs.Common.{arith}
use Rattle.statement.proofs.Wholes.{just_found, just_only, just_fault}
use Rattle.statement.proofs.StatementReader.{statement_reader}
use Rattle.statement.proofs.statement.Statement.read.Goals as goal

pub returns-clause-found : goal.returns-clause-found
returns-clause-found c = just_found _ _ _ _ statement_reader c.args.bytes.now c.read_whole.result (λ i. omega (arith, c.type_inv.bytes i)) c.read_whole.ensures

pub returns-clause-only : goal.returns-clause-only
returns-clause-only c = just_only _ _ _ _ statement_reader c.args.bytes.now c.read_whole.result c.read_whole.ensures

pub returns-clause-fault : goal.returns-clause-fault
returns-clause-fault c = just_fault _ _ _ _ statement_reader c.args.bytes.now c.read_whole.result (λ i. omega (arith, c.type_inv.bytes i)) c.read_whole.ensures
