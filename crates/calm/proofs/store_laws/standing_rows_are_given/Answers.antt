use Rattle.calm.proofs.StoreAnswers.{one_row, given, not_given, not_refused_row, taken, put_done, attach_done}
use Rattle.calm.specs.Ledgers.{row_above}
use Rattle.port.specs.declared.key.Key.TheVariants as keys
use Rattle.std.specs.Prelude.{length}
use Rattle.calm.proofs.store_laws.standing_rows_are_given.Goals as goal

pub returns-clause-row : goal.returns-clause-row
returns-clause-row c = λ accepts configs contents after handle entries below above entry got stand is honest.
    given accepts configs contents handle below entry after got (stand.each below above entry is) honest

pub returns-clause-none : goal.returns-clause-none
returns-clause-none c = λ accepts configs contents after handle entries height got stand above honest.
    not_given accepts configs contents handle height after got (stand.no_more height above) honest

pub returns-clause-one : goal.returns-clause-one
returns-clause-one c = λ below entry handle bytes row good good'. one_row c.rows_have_own_bytes.ensures handle bytes (length below) (row_above below entry) row good good'

pub returns-clause-taken : goal.returns-clause-taken
returns-clause-taken c = λ accepts configs contents after handle entries height body answer stand below honest.
    taken accepts configs contents handle entries height body answer after stand below honest

pub returns-clause-put : goal.returns-clause-put
returns-clause-put c = λ accepts configs contents after handle entries height body answer stand above honest.
    put_done contents after (keys.Row handle height) body answer (stand.no_more height above) honest

pub returns-clause-attached : goal.returns-clause-attached
returns-clause-attached c = λ contents after key stored bytes answer some honest. attach_done contents after key stored bytes answer some honest

pub returns-clause-kept : goal.returns-clause-kept
returns-clause-kept c = λ accepts configs contents after handle below entry event cause stands honest refused.
    not_refused_row accepts configs contents handle below entry after event cause stands honest refused
