use Rattle.endorser_core.proofs.Cells.{SetLaw, good}
use Rattle.port.specs.Table.{cell}
use Rattle.endorser_core.proofs.Outcomes.{keeps}
use Rattle.endorser_core.proofs.laws.phases_never_go_back.Goals as goal

pub returns : goal.returns
returns c me state call sig = let law : SetLaw = (c.one_row_changes.ensures.own, c.one_row_changes.ensures.others) in (keeps state (cell me state call) (good law me state call) sig).rank
