use Rattle.std.proofs.Common.{ap}
use Rattle.std.proofs.lemmas.Result.{err_from_is_err_and}
use Rattle.chain_block.specs.Entry.{bare}
use Rattle.port.proofs.Steps.{entry_missed, block_missed, row_found}
use Rattle.port.proofs.row_reading.read_row.Goals as goal

pub returns-in_err-entry : goal.returns-in_err-entry
returns-in_err-entry c =
    let p = err_from_is_err_and c.from_residual-in_err-entry.result c.from_residual-in_err-entry.ensures.1 in
    rw (p.1, p.2) (λ fits. entry_missed c.args.cursor.now c.read_kind.new.cursor fits (c.in_ok-read_kind.ensures fits) c.in_err-entry.field-0.0 c.in_err-entry.ensures.found)

pub returns-in_err-metablock : goal.returns-in_err-metablock
returns-in_err-metablock c =
    let p = err_from_is_err_and c.from_residual-in_err-metablock.result c.from_residual-in_err-metablock.ensures.1 in
    rw (p.1, p.2) (λ fits. block_missed c.args.cursor.now c.read_kind.new.cursor fits (c.in_ok-read_kind.ensures fits) (bare c.in_ok-entry.entry) c.read_entry.new.cursor c.in_ok-entry.ensures.found c.in_err-metablock.field-0.0 c.in_err-metablock.ensures)

pub returns : goal.returns
returns c = λ fits. row_found c.args.cursor.now c.read_kind.new.cursor fits (c.in_ok-read_kind.ensures fits) (bare c.in_ok-entry.entry) c.read_entry.new.cursor c.in_ok-entry.ensures.found c.in_ok-metablock.metablock c.read_metablock.new.cursor c.in_ok-metablock.ensures
