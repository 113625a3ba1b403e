use Rattle.nim_base.specs.Text.{Content}
use Rattle.answer_lines.proofs.Given.{fault_line}
use Rattle.answer_lines.proofs.giving.taken_line.Goals as goal

pub returns-in-Err : goal.returns-in-Err
returns-in-Err c = fault_line (λ (text : Content). text.bytes) c.fault_line.result c.args.accepted.bytes c.args.taken c.in-Err.fault c.in-Err.is c.fault_line.ensures
