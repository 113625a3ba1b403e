use Rattle.endorser_core.proofs.Cells.{SetLaw, good}
use Rattle.port.specs.Table.{Active, cell}
use Rattle.endorser_core.proofs.Outcomes.{keeps, one}
use Rattle.endorser_core.proofs.laws.counts_never_fall.Goals as goal

pub returns-clause-never : goal.returns-clause-never
returns-clause-never c me state call sig handle = let law : SetLaw = (c.one_row_changes.ensures.own, c.one_row_changes.ensures.others) in (keeps state (cell me state call) (good law me state call) sig).never handle

pub returns-clause-one : goal.returns-clause-one
returns-clause-one c me own call sig handle = let law : SetLaw = (c.one_row_changes.ensures.own, c.one_row_changes.ensures.others) in one (Active own) (cell me (Active own) call) (good law me (Active own) call) sig handle
