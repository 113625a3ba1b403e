use Rattle.std.proofs.Common.{arith}
use Rattle.script_runs.specs.Roster.{members_by}
use Rattle.world_run.proofs.Genesis.{all_many, picked_step, within}
use Rattle.world_run.proofs.roster.picked.Goals as goal

pub overflow_sub-id : goal.overflow_sub-id
overflow_sub-id c =
    let at = within 0 c.args.ids.now c.loop-id.id-index 0 c.requires.ids.2 c.loop-id-test.true in
    let above = at.0 in
    omega (arith, above)

pub bounds-members-id : goal.bounds-members-id
bounds-members-id c =
    let at = within 0 c.args.ids.now c.loop-id.id-index 0 c.requires.ids.2 c.loop-id-test.true in
    let above = at.0 in
    let few = at.1 in
    omega (arith, above, few, all_many c.requires.members.0 c.args.members.now c.requires.members.1)

pub loop-id-preserved : goal.loop-id-preserved
loop-id-preserved c key_of all =
    picked_step key_of c.args.members.now c.args.ids.now c.loop-id.id-index c.loop-id.picked.items c.push.new.self.items (members_by key_of c.args.ids.now) c.index-members-id.result
    all c.requires.ids c.loop-id-test.true c.index-members-id.is c.in_ok-push.ensures.items (c.loop-id.invariant key_of all)
