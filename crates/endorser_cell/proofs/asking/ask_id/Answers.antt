use Rattle.std.proofs.Common.{inl, subst}
use Rattle.endorser_cell.specs.Cells.{IsPlaceOf}
use Rattle.endorser_cell.proofs.Banks.{placed}
use Rattle.endorser_cell.proofs.asking.ask_id.Goals as goal

pub returns : goal.returns
returns g c =
    let at = subst (λ l. IsPlaceOf l c.args.id c.in-Some.place) c.deref.ensures.value c.in-Some.ensures.found in
    inl (record {
      cell = c.index_mut.result.now;
      next = c.call_cell.new.cell;
      found = placed c.args.cells.now.items c.args.id c.in-Some.place c.index_mut.result.now at c.index_mut.ensures.value;
      put = at.set c.call_cell.new.cell;
      asks = c.call_cell.ensures;
    })
