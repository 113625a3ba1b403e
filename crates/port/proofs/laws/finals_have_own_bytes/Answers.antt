use Rattle.port.proofs.FinalsForms.{own_finals}
use Rattle.port.proofs.laws.finals_have_own_bytes.Goals as goal

pub returns : goal.returns
returns c = own_finals c.one_form.ensures
