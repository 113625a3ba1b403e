use Rattle.std.proofs.Common.{arith}
use Rattle.statement.proofs.Wholes.{may_found, may_only, may_fault, may_first}
use Rattle.statement.proofs.ReceiptReader.{receipt_reader}
use Rattle.statement.proofs.receipt.Receipt.read.Goals as goal

pub returns-clause-found : goal.returns-clause-found
returns-clause-found c = may_found _ _ _ _ receipt_reader c.args.bytes.now c.read_whole.result (λ i. omega (arith, c.type_inv.bytes i)) c.read_whole.ensures

pub returns-clause-only : goal.returns-clause-only
returns-clause-only c = may_only _ _ _ _ receipt_reader c.args.bytes.now c.read_whole.result c.read_whole.ensures

pub returns-clause-fault : goal.returns-clause-fault
returns-clause-fault c = may_fault _ _ _ _ receipt_reader c.args.bytes.now c.read_whole.result (λ i. omega (arith, c.type_inv.bytes i)) c.read_whole.ensures

pub returns-clause-first : goal.returns-clause-first
returns-clause-first c = may_first _ _ _ _ receipt_reader c.args.bytes.now c.read_whole.result c.read_whole.ensures
