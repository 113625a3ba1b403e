use Rattle.tail_map.proofs.Sets.{get_set_same, get_set_other}
use Rattle.tail_map.proofs.laws.one_row_changes.Goals as goal

pub returns : goal.returns
returns c = record { own = get_set_same; others = get_set_other }
