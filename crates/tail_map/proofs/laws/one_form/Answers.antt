use Rattle.tail_map.proofs.Reader.{one_map}
use Rattle.tail_map.proofs.laws.one_form.Goals as goal

pub returns : goal.returns
returns c = one_map
