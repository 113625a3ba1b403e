use Rattle.std.proofs.Common.{sym, ◌∙◌}
use Rattle.std.proofs.lemmas.Result.{err_from_is_err_and}
use Rattle.port.proofs.Steps.{sig_missed, map_missed, final_found}
use Rattle.port.proofs.finals_reading.read_final.Goals as goal

pub returns-in_err-sig : goal.returns-in_err-sig
returns-in_err-sig c =
    let p = err_from_is_err_and c.from_residual-in_err-sig.result c.from_residual-in_err-sig.ensures.1 in
    let above = sym c.is_above.ensures ∙ c.if-not-is_above.false in
    rw (p.1, p.2) (λ fits. sig_missed c.args.before c.args.cursor.now c.read_u32.new.cursor c.in_ok-id.id fits c.in_ok-id.ensures above c.in_err-sig.field-0.0 c.in_err-sig.ensures)

pub returns-in_err-map : goal.returns-in_err-map
returns-in_err-map c =
    let p = err_from_is_err_and c.from_residual-in_err-map.result c.from_residual-in_err-map.ensures.1 in
    let above = sym c.is_above.ensures ∙ c.if-not-is_above.false in
    rw (p.1, p.2) (λ fits. map_missed c.args.before c.args.cursor.now c.read_u32.new.cursor c.in_ok-id.id fits c.in_ok-id.ensures above c.in_ok-sig.sig.bytes c.read_signature.new.cursor c.in_ok-sig.ensures c.in_err-map.field-0.0 c.in_err-map.ensures)

pub returns : goal.returns
returns c =
    let above = sym c.is_above.ensures ∙ c.if-not-is_above.false in
    λ fits. final_found c.args.before c.args.cursor.now c.read_u32.new.cursor c.in_ok-id.id fits c.in_ok-id.ensures above c.in_ok-sig.sig.bytes c.read_signature.new.cursor c.in_ok-sig.ensures c.in_ok-map.map.rows c.read_map.new.cursor c.in_ok-map.ensures
