use Rattle.statement.proofs.Wholes.{one_form}
use Rattle.statement.proofs.ViewBlockReader.{view_block_reader}
use Rattle.statement.proofs.laws.view_blocks_have_own_bytes.Goals as goal

pub returns : goal.returns
returns c = one_form _ _ _ _ view_block_reader
