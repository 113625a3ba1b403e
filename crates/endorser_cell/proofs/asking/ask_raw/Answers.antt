use Rattle.std.proofs.Common.{subst}
use Rattle.port.specs.Call.{call_of}
use Rattle.endorser_cell.specs.Cells.{IsPlaceOf}
use Rattle.endorser_cell.proofs.Banks.{raw_is}
use Rattle.endorser_cell.proofs.asking.ask_raw.Goals as goal

pub returns : goal.returns
returns g c =
    let at = subst (λ l. IsPlaceOf l c.args.id c.in_ok-place.place) c.deref.ensures.value c.in_ok-place.ensures.found in
    raw_is g.G.Signer.Signer.key_of g.G.Signer.Signer.left_of g.G.Signer.Signer.size_of g.G.Signer.Signer.signs g.G.Scheme.fits
    c.args.cells.now.items c.args.log.now.items c.ask-answer.new.log.items c.args.id c.in_ok-place.place (call_of c.args.call.now) c.index_mut.result.now c.ask-answer.new.cell c.ask-answer.result
    at c.index_mut.ensures.value c.ask-answer.ensures.answers c.ask-answer.ensures.noted c.ask-answer.ensures.same_cell c.ask-answer.ensures.same_log
