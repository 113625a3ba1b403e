use Rattle.std.proofs.lemmas.Result.{on_ok_weaker}
use Rattle.tail_map.proofs.Sets.{get_set_same, get_set_other}
use Rattle.tail_map.proofs.tail_map.TailMap.set.Goals as goal

pub returns-in-Ok-clause-changed : goal.returns-in-Ok-clause-changed
returns-in-Ok-clause-changed c = rw c.replace.ensures.rows (get_set_same c.args.self.now.rows c.args.row.now)

pub returns-in-Ok-clause-others : goal.returns-in-Ok-clause-others
returns-in-Ok-clause-others c = rw c.replace.ensures.rows (get_set_other c.args.self.now.rows c.args.row.now)

pub returns-in-Err-clause-changed : goal.returns-in-Err-clause-changed
returns-in-Err-clause-changed c = on_ok_weaker c.add.result (λ e. rw e (get_set_same c.args.self.now.rows c.args.row.now)) c.add.ensures.rows

pub returns-in-Err-clause-others : goal.returns-in-Err-clause-others
returns-in-Err-clause-others c = on_ok_weaker c.add.result (λ e. rw e (get_set_other c.args.self.now.rows c.args.row.now)) c.add.ensures.rows
