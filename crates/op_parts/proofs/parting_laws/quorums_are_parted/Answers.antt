use Rattle.op_parts.proofs.Parting.{quorum_of}
use Rattle.op_parts.proofs.RoundParted.{few}
use Rattle.op_parts.proofs.parting_laws.quorums_are_parted.Goals as goal

pub returns-clause-enough : goal.returns-clause-enough
returns-clause-enough c = λ members counted blamed config parted enough. quorum_of members counted blamed config parted enough

pub returns-clause-few : goal.returns-clause-few
returns-clause-few c = λ members counted blamed parted less. few members counted blamed parted less
