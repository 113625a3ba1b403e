use Rattle.reply_taking.proofs.Growing.{views_same}
use Rattle.reply_taking.proofs.learning.learn.Goals as goal

pub returns-then-is_some-clause-views : goal.returns-then-is_some-clause-views
returns-then-is_some-clause-views g c = views_same c.args.pass.now

pub returns-in-Err-NoMemory-clause-views : goal.returns-in-Err-NoMemory-clause-views
returns-in-Err-NoMemory-clause-views g c = views_same c.args.pass.now

pub returns-clause-views : goal.returns-clause-views
returns-clause-views g c = views_same c.args.pass.now
