use Rattle.endorser_core.proofs.Cells.{SetLaw}
use Rattle.port.specs.Table.{Uninitialized}
use Rattle.endorser_core.proofs.Outcomes.{one_tail}
use Rattle.endorser_core.proofs.laws.one_tail_a_count.Goals as goal

pub returns : goal.returns
returns c accepts me lines view handle tail tail' count lawful one other = let law : SetLaw = (c.one_row_changes.ensures.own, c.one_row_changes.ensures.others) in one_tail law accepts me Uninitialized lines view handle tail tail' count lawful one other
