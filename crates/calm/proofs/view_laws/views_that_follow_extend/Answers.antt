use Rattle.calm.proofs.ViewsThatFollow.{follows_extends}
use Rattle.calm.proofs.view_laws.views_that_follow_extend.Goals as goal

pub returns : goal.returns
returns c = follows_extends
