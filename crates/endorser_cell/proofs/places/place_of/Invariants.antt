use Rattle.endorser_cell.proofs.Cells.{NotBefore}
use Rattle.endorser_cell.proofs.places.place_of.Given as goal

abbrev pub invariant-loop-place : goal.invariant-loop-place
invariant-loop-place g l = NotBefore l.cells l.place l.id
