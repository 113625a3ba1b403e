use Rattle.port.proofs.RowForms.{own_row}
use Rattle.port.proofs.laws.rows_have_own_bytes.Goals as goal

pub returns : goal.returns
returns c = own_row c.entries_have_own_bytes.ensures c.metablocks_have_own_bytes.ensures
