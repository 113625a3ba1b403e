use Rattle.op_latest.specs.LatestAsked.{asking_of}
use Rattle.op_latest.proofs.LatestLaws.{shown}
use Rattle.op_latest.proofs.latest_laws.latest_refusals_are_shown.Goals as goal

pub returns : goal.returns
returns c = λ accepts ask chain past cause says. shown accepts (asking_of ask chain) chain past cause says
