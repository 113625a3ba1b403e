use Rattle.client_pass.proofs.ClientLists.{entry_stays, read_stays}
use Rattle.client_pass.proofs.laws.draws_stay.Goals as goal

pub returns : goal.returns
returns c = record { entry = entry_stays; read = read_stays }
