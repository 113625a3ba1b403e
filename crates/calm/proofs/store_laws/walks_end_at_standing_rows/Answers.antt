use Rattle.calm.proofs.StoreAnswers.{walk_ends, walk_at_top}
use Rattle.calm.proofs.store_laws.walks_end_at_standing_rows.Goals as goal

pub returns-clause-row : goal.returns-clause-row
returns-clause-row c = λ accepts configs contents later handle below entry place after got result stands is_above honest says.
    walk_ends c.rows_have_own_bytes.ensures accepts configs contents handle below entry stands place is_above got later after result honest says

pub returns-clause-top : goal.returns-clause-top
returns-clause-top c = λ accepts configs contents later handle place after got result none honest says. walk_at_top accepts configs contents handle place none got later after result honest says
