use Rattle.std.proofs.Common.{Ok, Err}
use Rattle.port.specs.RowForm.{IsRow, row_bytes, RowShows}
use Rattle.port.proofs.Forms.{only, first, gives}
use Rattle.port.proofs.RowForms.{row_form}
use Rattle.port.proofs.row.Row.read.Goals as goal

pub returns-clause-only : goal.returns-clause-only
returns-clause-only c =
    let form = row_form c.entries_have_own_bytes.ensures c.metablocks_have_own_bytes.ensures in
    let r = c.read_whole.result in
    λ row good at. gives r (Ok row) (only IsRow row_bytes RowShows form (λ row. row) c.args.bytes.now r c.read_whole.ensures.found c.read_whole.ensures.fault row good at)

pub returns-clause-first : goal.returns-clause-first
returns-clause-first c =
    let form = row_form c.entries_have_own_bytes.ensures c.metablocks_have_own_bytes.ensures in
    let r = c.read_whole.result in
    λ fault shown. gives r (Err fault) (first IsRow row_bytes RowShows form (λ row. row) c.args.bytes.now r c.read_whole.ensures.found c.read_whole.ensures.fault fault shown)
