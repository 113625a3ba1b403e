use Rattle.std.proofs.Common.{sym, ap, ◌∙◌}
use Rattle.std.specs.Ordering.{is_lt}
use Rattle.tail_map.proofs.Order.{is_less}
use Rattle.tail_map.proofs.Rising.{above_last, last_below}
use Rattle.tail_map.proofs.reading.is_above.Goals as goal

pub returns-in-Some : goal.returns-in-Some
returns-in-Some c =
    let rows = c.args.rows.now in
    let handle = c.args.handle.now in
    let last = c.in-Some.last.now in
    let item = c.in-Some.ensures.item in
    let is = item.1 in (
      λ yes. above_last rows last handle c.requires is (sym c.cmp.ensures ∙ is_less c.cmp.result (sym c.is_lt.ensures ∙ yes)),
      λ over. let under = last_below rows last handle item.3.0 is over in c.is_lt.ensures ∙ ap is_lt (c.cmp.ensures ∙ under),
    )
