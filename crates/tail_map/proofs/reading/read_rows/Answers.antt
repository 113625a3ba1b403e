use Rattle.std.proofs.Common.{arith, inr, sym, ◌∙◌}
use Rattle.std.proofs.lemmas.Result.{err_from_is_err_and}
use Rattle.tail_map.proofs.Heads.{later_bytes, head_form, shows_from, trailing, found_whole}
use Rattle.tail_map.proofs.reading.read_rows.Goals as goal

pub read_each-requires : goal.read_each-requires
read_each-requires c =
    let k = c.in-Some.ensures in
    let n = c.in-Some-u32.ensures in
    later_bytes c.args.bytes.now k.0 c.u8.new.self n.0 c.u32.new.self c.in-Some.kind c.in-Some-u32.number (λ i. omega (arith, c.type_inv.bytes i))
    k.1 (sym c.new-cursor.ensures ∙ k.2) k.3 c.if-kind-ne-KIND.false n.1 n.2 n.3

pub returns-in_err-rows-clause-fault : goal.returns-in_err-rows-clause-fault
returns-in_err-rows-clause-fault c =
    let k = c.in-Some.ensures in
    let n = c.in-Some-u32.ensures in
    let form = head_form c.args.bytes.now k.0 c.u8.new.self n.0 c.u32.new.self c.in-Some.kind c.in-Some-u32.number (λ i. omega (arith, c.type_inv.bytes i))
    k.1 (sym c.new-cursor.ensures ∙ k.2) k.3 c.if-kind-ne-KIND.false n.1 n.2 n.3 in
    let p = err_from_is_err_and c.from_residual.result c.from_residual.ensures.1 in
    rw (p.1, p.2) (shows_from c.args.bytes.now c.in-Some-u32.number c.u32.new.self c.in_err-rows.field-0.0 form c.if-number-gt-MAX_ROWS.false c.in_err-rows.ensures.fault)

pub returns-then-left-gt0-clause-fault : goal.returns-then-left-gt0-clause-fault
returns-then-left-gt0-clause-fault c =
    let k = c.in-Some.ensures in
    let n = c.in-Some-u32.ensures in
    let form = head_form c.args.bytes.now k.0 c.u8.new.self n.0 c.u32.new.self c.in-Some.kind c.in-Some-u32.number (λ i. omega (arith, c.type_inv.bytes i))
    k.1 (sym c.new-cursor.ensures ∙ k.2) k.3 c.if-kind-ne-KIND.false n.1 n.2 n.3 in
    let r = c.in_ok-rows.ensures in
    inr (trailing c.args.bytes.now c.in-Some-u32.number c.u32.new.self c.in_ok-rows.rows.items c.read_each.new.cursor form c.if-number-gt-MAX_ROWS.false r.number r.rising r.each r.form
    (omega (arith, c.left.ensures, c.if-left-gt0.true)))

pub returns-clause-found : goal.returns-clause-found
returns-clause-found c =
    let k = c.in-Some.ensures in
    let n = c.in-Some-u32.ensures in
    let form = head_form c.args.bytes.now k.0 c.u8.new.self n.0 c.u32.new.self c.in-Some.kind c.in-Some-u32.number (λ i. omega (arith, c.type_inv.bytes i))
    k.1 (sym c.new-cursor.ensures ∙ k.2) k.3 c.if-kind-ne-KIND.false n.1 n.2 n.3 in
    let r = c.in_ok-rows.ensures in
    found_whole c.args.bytes.now c.in-Some-u32.number c.u32.new.self c.in_ok-rows.rows.items c.read_each.new.cursor form c.if-number-gt-MAX_ROWS.false r.number r.rising r.each r.form
    (omega (arith, c.left.ensures, c.if-left-gt0.false))
