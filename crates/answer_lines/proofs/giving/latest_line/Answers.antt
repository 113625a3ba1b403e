use Rattle.nim_base.specs.Text.{Content}
use Rattle.answer_lines.proofs.Given.{latest_fault_line, latest_row_line}
use Rattle.answer_lines.proofs.giving.latest_line.Goals as goal

pub returns-in-Ok : goal.returns-in-Ok
returns-in-Ok c =
    latest_row_line (λ (text : Content). text.bytes) c.newest_line.result c.args.label.now c.args.row.now c.args.taken c.in-Ok.field-0 c.in-Ok.is c.newest_line.ensures

pub returns-in-Err : goal.returns-in-Err
returns-in-Err c =
    latest_fault_line (λ (text : Content). text.bytes) c.fault_line.result c.args.label.now c.args.row.now c.args.taken c.in-Err.fault c.in-Err.is c.fault_line.ensures
