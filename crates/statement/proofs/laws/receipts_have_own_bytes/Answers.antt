use Rattle.statement.proofs.Wholes.{one_form}
use Rattle.statement.proofs.ReceiptReader.{receipt_reader}
use Rattle.statement.proofs.laws.receipts_have_own_bytes.Goals as goal

pub returns : goal.returns
returns c = one_form _ _ _ _ receipt_reader
