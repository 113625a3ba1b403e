use Rattle.std.proofs.Common.{◌∙◌}
use Rattle.statement.specs.Statement.{statement_bytes}
use Rattle.script_world.proofs.MarksMore.{marks_step}
use Rattle.script_world.proofs.made.marks_by.Goals as goal

pub loop-member-preserved : goal.loop-member-preserved
loop-member-preserved g c =
    marks_step g.S.Signer.left_of g.S.Signer.signs (statement_bytes c.args.statement.now) c.as_slice.result.now c.loop-member.yielded c.in-Some.member (λ member. (member.id, member.signer)) c.loop-member.marks.items c.push_mark.new.marks.items c.in_ok-mark.mark
    (c.as_slice.ensures ∙ c.bytes-bytes.ensures) c.loop-member.invariant c.in_ok-mark.ensures c.in_ok-push_mark.ensures
