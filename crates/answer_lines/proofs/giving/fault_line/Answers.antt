use Rattle.nim_base.specs.Text.{Content}
use Rattle.answer_lines.proofs.Given.{reply_line}
use Rattle.answer_lines.proofs.giving.fault_line.Goals as goal

pub returns-in-Reply : goal.returns-in-Reply
returns-in-Reply c = reply_line (λ (text : Content). text.bytes) c.bad_reply_line.result c.args.fault c.in-Reply.fault c.in-Reply.is c.bad_reply_line.ensures
