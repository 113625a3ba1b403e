use Rattle.calm.proofs.NewServices.{is_calm}
use Rattle.calm.proofs.calm_laws.new_services_are_calm.Goals as goal

pub returns : goal.returns
returns c = λ accepts signs contents bank roster config left fits view alone able. is_calm contents config alone accepts signs bank roster left fits view able
