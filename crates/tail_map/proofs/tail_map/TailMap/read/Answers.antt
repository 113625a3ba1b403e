use Rattle.std.proofs.Common.{Ok, Err}
use Rattle.std.proofs.lemmas.Result.{err_from_is_err_and}
use Rattle.tail_map.proofs.Heads.{only_from, first_from}
use Rattle.tail_map.proofs.tail_map.TailMap.read.Goals as goal

pub returns-in_err-rows-clause-only : goal.returns-in_err-rows-clause-only
returns-in_err-rows-clause-only c =
    let p = err_from_is_err_and c.from_residual.result c.from_residual.ensures.1 in
    rw (p.1, p.2) (only_from c.args.bytes.now (Err c.in_err-rows.field-0.0) tt c.in_err-rows.ensures.fault)

pub returns-in_err-rows-clause-first : goal.returns-in_err-rows-clause-first
returns-in_err-rows-clause-first c =
    let p = err_from_is_err_and c.from_residual.result c.from_residual.ensures.1 in
    rw (p.1, p.2) (first_from c.args.bytes.now (Err c.in_err-rows.field-0.0) tt c.in_err-rows.ensures.fault)

pub returns-clause-only : goal.returns-clause-only
returns-clause-only c = only_from c.args.bytes.now (Ok (record { rows = c.in_ok-rows.rows.items; room = 0 })) c.in_ok-rows.ensures.found tt

pub returns-clause-first : goal.returns-clause-first
returns-clause-first c = first_from c.args.bytes.now (Ok (record { rows = c.in_ok-rows.rows.items; room = 0 })) c.in_ok-rows.ensures.found tt
