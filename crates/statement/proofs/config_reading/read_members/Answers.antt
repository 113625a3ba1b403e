use Rattle.std.proofs.Common.{inr, None}
use Rattle.std.proofs.lemmas.Result.{err_from_is_err_and}
use Rattle.statement.specs.Config.{id_of}
use Rattle.statement.specs.Reading.{each_at, member_at}
use Rattle.statement.proofs.Loop.{goes_on, ends}
use Rattle.statement.proofs.config_reading.read_members.Goals as goal

pub returns-in_err-member : goal.returns-in_err-member
returns-in_err-member c =
    let p = err_from_is_err_and c.from_residual-in_err-member.result c.from_residual-in_err-member.ensures.1 in
    let total = each_at member_at id_of c.args.number None c.args.cursor.now in
    rw (p.1, p.2) (inr (ends member_at id_of c.loop.members.items c.args.number c.loop.counter c.loop.before c.loop.cursor total c.in_err-member.field-0.0 c.loop-test.true c.in_err-member.ensures c.loop.invariant))

pub loop-preserved : goal.loop-preserved
loop-preserved c =
    let total = each_at member_at id_of c.args.number None c.args.cursor.now in
    rw c.in_ok-push.ensures.items (goes_on member_at id_of c.loop.members.items c.args.number c.loop.counter c.loop.before c.loop.cursor total c.in_ok-member.member c.read_member.new.cursor c.loop-test.true c.in_ok-member.ensures c.loop.invariant)
