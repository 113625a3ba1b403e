use Rattle.std.proofs.Common.{◌≡◌, Some, ◌+◌, drop, sym, ap, ◌∙◌, true, length, subst, arith}
use Rattle.statement.specs.declared.member.Member.{Member}
use Rattle.statement.specs.Ids.{is_above, first_fall}
use Rattle.statement.specs.Config.{ids, IsMember}
use Rattle.statement.proofs.IdsLemmas.{all_more, fall_more}
use Rattle.statement.proofs.config.first_fall.Goals as goal

pub loop-member-preserved : goal.loop-member-preserved
loop-member-preserved c =
    let member = c.member-item.result in
    let over : is_above c.loop-member.before member.id ≡ true = sym c.is_above.ensures ∙ c.if-not-is_above.false in
    let one : IsMember member = record { id = omega arith; key = sym (ap length c.key.view_is) ∙ c.key.told } in
    let i = c.loop-member.member-index in
    let at = c.member-item.is in
    let members = c.args.members.now in
    let more = fall_more c.loop-member.before members i member c.loop-member-test.true (subst (λ (m : Member). is_above c.loop-member.before m.id ≡ true) at over) in
    record {
      fall = ap (λ (m : Member). first_fall (Some m.id) (ids (drop (i + 1) members))) at ∙ sym more ∙ c.loop-member.invariant.fall;
      each = all_more IsMember c.args.members.now i member c.loop-member-test.true c.loop-member.invariant.each (subst IsMember at one);
    }
