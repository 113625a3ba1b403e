use Rattle.statement.proofs.Wholes.{one_form}
use Rattle.statement.proofs.ConfigReader.{config_reader}
use Rattle.statement.proofs.laws.configs_have_own_bytes.Goals as goal

pub returns : goal.returns
returns c = one_form _ _ _ _ config_reader
