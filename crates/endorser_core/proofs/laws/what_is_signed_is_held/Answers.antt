use Rattle.statement.specs.declared.statement.Statement.TheVariants.{Held, Latest}
use Rattle.port.specs.Table.{cell}
use Rattle.endorser_core.proofs.Cells.{SetLaw, good}
use Rattle.endorser_core.proofs.Outcomes.{is_held}
use Rattle.endorser_core.proofs.laws.what_is_signed_is_held.Goals as goal

pub returns-clause-held : goal.returns-clause-held
returns-clause-held c me state call sig view handle tail count signature e =
    let law : SetLaw = (c.one_row_changes.ensures.own, c.one_row_changes.ensures.others) in
    (is_held state (cell me state call) sig (Held view handle tail count) signature (good law me state call) e).0

pub returns-clause-latest : goal.returns-clause-latest
returns-clause-latest c me state call sig view handle tail nonce count signature e =
    let law : SetLaw = (c.one_row_changes.ensures.own, c.one_row_changes.ensures.others) in
    is_held state (cell me state call) sig (Latest view handle tail count nonce) signature (good law me state call) e
