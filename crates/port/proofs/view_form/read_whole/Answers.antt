use Rattle.std.proofs.Common.{sym, ◌∙◌, arith}
use Rattle.std.proofs.lemmas.Result.{err_from_is_err_and}
use Rattle.port.specs.Finding.{AreBytes}
use Rattle.port.proofs.Steps.{at_start, view_block_missed, config_missed, view_found}
use Rattle.port.proofs.view_form.read_whole.Goals as goal

pub returns-in_err-block-clause-fault : goal.returns-in_err-block-clause-fault
returns-in_err-block-clause-fault c =
    let p = err_from_is_err_and c.from_residual-in_err-block.result c.from_residual-in_err-block.ensures.1 in
    let fits : AreBytes c.args.bytes.now = λ i. omega (arith, c.type_inv.bytes i) in
    let kind = sym c.new-cursor.ensures ∙ c.in_ok-read_kind.ensures (at_start c.args.bytes.now c.new-cursor.result c.new-cursor.ensures fits) in
    rw (p.1, p.2) (view_block_missed c.args.bytes.now c.read_kind.new.cursor fits kind c.in_err-block.field-0.0 c.in_err-block.ensures)

pub returns-in_err-config-clause-fault : goal.returns-in_err-config-clause-fault
returns-in_err-config-clause-fault c =
    let p = err_from_is_err_and c.from_residual-in_err-config.result c.from_residual-in_err-config.ensures.1 in
    let fits : AreBytes c.args.bytes.now = λ i. omega (arith, c.type_inv.bytes i) in
    let kind = sym c.new-cursor.ensures ∙ c.in_ok-read_kind.ensures (at_start c.args.bytes.now c.new-cursor.result c.new-cursor.ensures fits) in
    rw (p.1, p.2) (config_missed c.args.bytes.now c.read_kind.new.cursor fits kind c.in_ok-block.block c.read_block.new.cursor c.in_ok-block.ensures c.in_err-config.field-0.0 (rw c.read_rest.ensures at c.in_err-config.ensures.fault))

pub returns-clause-found : goal.returns-clause-found
returns-clause-found c =
    let fits : AreBytes c.args.bytes.now = λ i. omega (arith, c.type_inv.bytes i) in
    let kind = sym c.new-cursor.ensures ∙ c.in_ok-read_kind.ensures (at_start c.args.bytes.now c.new-cursor.result c.new-cursor.ensures fits) in
    view_found c.args.bytes.now c.read_kind.new.cursor fits kind c.in_ok-block.block c.read_block.new.cursor c.in_ok-block.ensures c.in_ok-config.config (rw c.read_rest.ensures at c.in_ok-config.ensures.found)
