use Rattle.statement.proofs.Wholes.{one_fault, no_fault}
use Rattle.statement.proofs.ConfigReader.{config_reader}
use Rattle.statement.proofs.laws.configs_show_one_fault.Goals as goal

pub returns-clause-one : goal.returns-clause-one
returns-clause-one c = one_fault _ _ _ _ config_reader

pub returns-clause-none : goal.returns-clause-none
returns-clause-none c = no_fault _ _ _ _ config_reader
