use Rattle.port.proofs.ViewForms.{own_view}
use Rattle.port.proofs.laws.views_have_own_bytes.Goals as goal

pub returns : goal.returns
returns c = own_view c.view_blocks_have_own_bytes.ensures c.configs_have_own_bytes.ensures c.configs_show_one_fault.ensures.one c.configs_show_one_fault.ensures.none
