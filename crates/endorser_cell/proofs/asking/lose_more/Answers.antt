use Rattle.std.proofs.Common.{subst}
use Rattle.endorser_cell.specs.declared.losses.Losses.{Losses}
use Rattle.endorser_cell.specs.Losses.{IsMore}
use Rattle.endorser_cell.specs.Cells.{IsPlaceOf}
use Rattle.endorser_cell.proofs.Banks.{more_lost}
use Rattle.endorser_cell.proofs.asking.lose_more.Goals as goal

pub returns : goal.returns
returns g c =
    let at = subst (λ l. IsPlaceOf l c.args.id c.in-Some.place) c.deref.ensures.value c.in-Some.ensures.found in
    more_lost c.args.cells.now.items c.args.id c.in-Some.place c.args.n c.args.which c.index_mut-cell.result.now c.set_losses.new.self c.more-losses.result at c.index_mut-cell.ensures.value c.set_losses.ensures
    (subst (λ (l : Losses). IsMore l c.args.which c.args.n c.more-losses.result) c.losses.ensures c.more-losses.ensures)
