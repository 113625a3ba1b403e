use Rattle.op_entry.proofs.Showing.{said_shown}
use Rattle.op_entry.proofs.Telling.{told_behind}
use Rattle.op_entry.proofs.entry_laws.entry_refusals_are_shown.Goals as goal

pub returns-clause-cause : goal.returns-clause-cause
returns-clause-cause c accepts ask from chain past cause says = said_shown accepts from chain c.refusals_are_shown.ensures.cause ask past cause says

pub returns-clause-behind : goal.returns-clause-behind
returns-clause-behind c accepts ask from chain past need reasons says =
    told_behind accepts from chain need reasons past c.counts_are_told_on.ensures c.refusals_are_shown.ensures.behind ask says
