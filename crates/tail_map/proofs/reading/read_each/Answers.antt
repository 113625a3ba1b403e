use Rattle.std.proofs.Common.{◌∷◌, [], inr, arith}
use Rattle.std.specs.List.{flat_map}
use Rattle.std.proofs.lemmas.List.{length_push}
use Rattle.std.proofs.lemmas.Result.{err_from_is_err_and}
use Rattle.tail_map.specs.TailMap.{IsRow}
use Rattle.tail_map.specs.MapForm.{row_bytes}
use Rattle.tail_map.specs.FormFault.{IsAbove}
use Rattle.tail_map.proofs.Rising.{all_append, rising_push}
use Rattle.tail_map.proofs.Texts.{rest_bytes}
use Rattle.tail_map.proofs.RowTexts.{rows_more}
use Rattle.tail_map.proofs.reading.read_each.Goals as goal

pub read_row-requires-clause-bytes : goal.read_row-requires-clause-bytes
read_row-requires-clause-bytes c = rest_bytes c.args.cursor.now (flat_map row_bytes c.loop.rows.items) c.loop.cursor c.loop.invariant.3 c.requires

pub returns-in_err-row-clause-fault : goal.returns-in_err-row-clause-fault
returns-in_err-row-clause-fault c =
    let p = err_from_is_err_and c.from_residual-in_err-row.result c.from_residual-in_err-row.ensures.1 in
    let inv = c.loop.invariant in
    rw (p.1, p.2) (inr (c.loop.rows.items, c.loop.cursor, inv.3, inv.1, inv.2, omega arith, rw c.deref.ensures.value at c.in_err-row.ensures.fault))

pub loop-preserved : goal.loop-preserved
loop-preserved c =
    let rows = c.loop.rows.items in
    let row = c.in_ok-row.row in
    let inv = c.loop.invariant in
    let over : IsAbove rows row.handle = rw c.deref.ensures.value at c.in_ok-row.ensures.above in
    rw c.in_ok-push.ensures.items (
      omega (arith, length_push rows row, inv.0),
      rising_push rows row inv.1 over,
      all_append IsRow rows (row ∷ []) inv.2 (c.in_ok-row.ensures.row, tt),
      rows_more rows row c.args.cursor.now c.loop.cursor c.read_row.new.cursor inv.3 c.in_ok-row.ensures.form,
    )
