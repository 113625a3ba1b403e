use Rattle.std.proofs.Common.{Ok, Err, arith}
use Rattle.std.proofs.lemmas.Result.{err_from_is_err_and}
use Rattle.statement.proofs.Wholes.{may_found, may_only, may_fault, may_first}
use Rattle.statement.proofs.ConfigReader.{config_reader}
use Rattle.statement.proofs.config.Config.read.Goals as goal

pub returns-in_err-members-clause-only : goal.returns-in_err-members-clause-only
returns-in_err-members-clause-only c =
    let p = err_from_is_err_and c.from_residual.result c.from_residual.ensures.1 in
    rw (p.1, p.2) (may_only _ _ _ _ config_reader c.args.bytes.now (Err c.in_err-members.field-0.0) c.in_err-members.ensures)

pub returns-in_err-members-clause-fault : goal.returns-in_err-members-clause-fault
returns-in_err-members-clause-fault c =
    let p = err_from_is_err_and c.from_residual.result c.from_residual.ensures.1 in
    rw (p.1, p.2) (may_fault _ _ _ _ config_reader c.args.bytes.now (Err c.in_err-members.field-0.0) (λ i. omega (arith, c.type_inv.bytes i)) c.in_err-members.ensures)

pub returns-in_err-members-clause-first : goal.returns-in_err-members-clause-first
returns-in_err-members-clause-first c =
    let p = err_from_is_err_and c.from_residual.result c.from_residual.ensures.1 in
    rw (p.1, p.2) (may_first _ _ _ _ config_reader c.args.bytes.now (Err c.in_err-members.field-0.0) c.in_err-members.ensures)

pub invariant_of-result : goal.invariant_of-result
invariant_of-result c = (may_found _ _ _ _ config_reader c.args.bytes.now (Ok c.in_ok-members.members.items) (λ i. omega (arith, c.type_inv.bytes i)) c.in_ok-members.ensures).0

pub returns-clause-found : goal.returns-clause-found
returns-clause-found c = may_found _ _ _ _ config_reader c.args.bytes.now (Ok c.in_ok-members.members.items) (λ i. omega (arith, c.type_inv.bytes i)) c.in_ok-members.ensures

pub returns-clause-only : goal.returns-clause-only
returns-clause-only c = may_only _ _ _ _ config_reader c.args.bytes.now (Ok c.in_ok-members.members.items) c.in_ok-members.ensures

pub returns-clause-first : goal.returns-clause-first
returns-clause-first c = may_first _ _ _ _ config_reader c.args.bytes.now (Ok c.in_ok-members.members.items) c.in_ok-members.ensures
