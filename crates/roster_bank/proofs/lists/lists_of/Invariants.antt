use Rattle.std.proofs.Common.{◌≡◌, ◌++◌, map}
use Rattle.std.specs.Prelude.{vec_items}
use Rattle.std.specs.List.{AllByRecursion}
use Rattle.std.specs.Vec.Iter.{into_iter_items}
use Rattle.endorser_cell.specs.EndorserCell.{IsLawfulOf}
use Rattle.roster_bank.specs.Roster.{lists_of}
use Rattle.roster_bank.proofs.lists.lists_of.Given as goal

abbrev pub invariant-loop-cell : goal.invariant-loop-cell
invariant-loop-cell g l = record {
  lists : map vec_items l.lists.items ++ lists_of (into_iter_items l.cell-iterator) ≡ lists_of l.fn.cells.items;
  lawful : AllByRecursion (λ cell. IsLawfulOf g.G.Signer.Signer.key_of g.G.Checker.Checker.accepts cell.endorser cell.lines) (into_iter_items l.cell-iterator)
      → AllByRecursion (λ cell. IsLawfulOf g.G.Signer.Signer.key_of g.G.Checker.Checker.accepts cell.endorser cell.lines) l.fn.cells.items;
}
