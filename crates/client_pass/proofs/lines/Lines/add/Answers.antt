use Rattle.std.proofs.Common.{List, sym, ap, subst, arith}
use Rattle.client_pass.specs.Act.{Line, act_of, line}
use Rattle.client_pass.specs.Lines.{Lines}
use Rattle.client_pass.specs.ClientList.{answered_by}
use Rattle.client_pass.proofs.Marks.{Fits, marked_push}
use Rattle.client_pass.proofs.lines.Lines.add.Goals as goal

pub invariant_of-self : goal.invariant_of-self
invariant_of-self c =
    let inside = c.self.inside in
    let act = act_of c.args.act in
    let fits : Fits inside.lines.items (answered_by act) = subst (λ (lines : List Line). Fits lines (answered_by act)) (sym (ap (λ (kept : Lines). kept.lines) c.self.view_is)) c.requires.open in
    let i = c.self.invariant in
    (rw (c.push_reserved-2.ensures.items, c.push_reserved.ensures.items, c.mark.ensures.marked, c.answered_by.ensures) (marked_push inside.lines.items inside.marks.items (line c.args.stamp act) i.0 fits), omega arith, omega arith)
