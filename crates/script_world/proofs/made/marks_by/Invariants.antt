use Rattle.std.proofs.Common.{map}
use Rattle.statement.specs.Statement.{statement_bytes}
use Rattle.script_world.specs.Signed.{AreMarksBy}
use Rattle.script_world.proofs.made.marks_by.Given as goal

abbrev pub invariant-loop-member : goal.invariant-loop-member
invariant-loop-member g l = AreMarksBy g.S.Signer.left_of g.S.Signer.signs (statement_bytes l.fn.statement) (map (λ member. (member.id, member.signer)) l.yielded) l.marks.items
