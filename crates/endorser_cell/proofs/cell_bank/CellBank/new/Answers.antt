use Rattle.std.proofs.Common.{List, [], ap, ◌∙◌, sym}
use Rattle.std.specs.List.{list_all}
use Rattle.endorser_cell.specs.BankLine.{BankLine, served_by, calls_to}
use Rattle.endorser_cell.specs.CellBank.{calls_of, has_no_line}
use Rattle.endorser_cell.proofs.Cells.{no_line}
use Rattle.endorser_cell.proofs.cell_bank.CellBank.new.Goals as goal

pub invariant_of-result : goal.invariant_of-result
invariant_of-result g c fresh id cell found =
    let all = sym c.are_fresh-fresh.ensures ∙ fresh in
    ap calls_of (no_line c.args.cells.items id cell (ap (λ cells. list_all has_no_line cells) (sym c.deref.ensures.value) ∙ all) found)
    ∙ sym (ap (λ (l : List BankLine). calls_to id (served_by [] l)) c.new.ensures.items)
