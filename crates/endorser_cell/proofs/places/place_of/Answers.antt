use Rattle.std.proofs.Common.{◌≡◌, ℕ, sym, ap, subst, ◌∙◌, rules, arith}
use Rattle.endorser_cell.specs.EndorserCell.{EndorserCell}
use Rattle.endorser_cell.proofs.Cells.{NotBefore, none_yet, one_more, nowhere, place_at}
use Rattle.endorser_cell.proofs.places.place_of.Goals as goal

pub loop-place-init : goal.loop-place-init
loop-place-init g c = none_yet c.args.cells.now c.args.id

pub returns-then-id-clause-found : goal.returns-then-id-clause-found
returns-then-id-clause-found g c =
    let one : EndorserCell g.row.G-Signer.Denot g.row.G-Checker.Denot = c.index-cells-place.result in
    let id : one.endorser.id ≡ c.args.id = search rules in
    place_at c.args.cells.now c.loop-place.place c.args.id one c.loop-place-test.true (sym (ap (λ (cell : EndorserCell g.row.G-Signer.Denot g.row.G-Checker.Denot). cell.endorser.id) c.index-cells-place.is) ∙ id) c.loop-place.invariant

pub loop-place-preserved : goal.loop-place-preserved
loop-place-preserved g c =
    let one : EndorserCell g.row.G-Signer.Denot g.row.G-Checker.Denot = c.index-cells-place.result in
    one_more c.args.cells.now c.loop-place.place c.args.id one c.loop-place.invariant
    (λ e. let id : one.endorser.id ≡ c.args.id = ap (λ (cell : EndorserCell g.row.G-Signer.Denot g.row.G-Checker.Denot). cell.endorser.id) c.index-cells-place.is ∙ e in c.if-id.false (search rules))

pub returns-clause-none : goal.returns-clause-none
returns-clause-none g c same =
    nowhere c.args.cells.now c.args.id (subst (λ (n : ℕ). NotBefore c.args.cells.now n c.args.id) (omega (arith, c.loop-place-test.false)) c.loop-place.invariant)
