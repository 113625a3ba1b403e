use Rattle.std.proofs.Common.{◌≡◌, get_or, sym, ap, ◌∙◌, subst}
use Rattle.tail_map.specs.declared.tail_row.TailRow.{TailRow}
use Rattle.tail_map.specs.TailMap.{Content, IsRising}
use Rattle.tail_map.proofs.Places.{parts, get_at, get_gap}
use Rattle.tail_map.proofs.tail_map.TailMap.get.Goals as goal

-- the row that was found is the one that was read
pub returns-in-Ok-clause-row : goal.returns-in-Ok-clause-row
returns-in-Ok-clause-row c =
    let rows = ap (λ (map : Content). map.rows) c.self.view_is in
    let row = c.index-row.result.now in
    let held : row ≡ get_or c.args.self.now.rows c.in-Ok.place row = c.index-row.ensures ∙ ap (λ rows. get_or rows c.in-Ok.place row) rows in
    let found = get_at c.args.self.now.rows c.args.handle.now c.in-Ok.place row (subst IsRising rows c.self.invariant.0.rising) c.in-Ok.ensures.range (c.in-Ok.ensures.place row) in
    ap (λ (r : TailRow). (r.tail, r.count)) held ∙ sym found

pub returns-in-Err-clause-row : goal.returns-in-Err-clause-row
returns-in-Err-clause-row c =
    let rows = ap (λ (map : Content). map.rows) c.self.view_is in
    let up = subst IsRising rows c.self.invariant.0.rising in
    sym (get_gap c.args.self.now.rows c.args.handle.now c.in-Err.field-0 (parts c.args.self.now.rows c.args.handle.now c.in-Err.field-0 up c.in-Err.ensures.place))
