use Rattle.std.proofs.Common.{◌≡◌, Option, sym, ap, subst, ◌∙◌, ◌-◌}
use Rattle.std.specs.Prelude.{IfSome}
use Rattle.std.proofs.lemmas.Slice.Eq.{bytes_eq-Decides}
use Rattle.port.specs.Row.{Content}
use Rattle.port.specs.GoodRow.{IsGoodRow}
use Rattle.op_latest.specs.LatestRow.{tail_of_row}
use Rattle.op_latest.proofs.latest_row.row_of.Goals as goal

pub returns-clause-none : goal.returns-clause-none
returns-clause-none c same row of =
    let one : Content = c.in-Some.row in
    let read = subst (λ (o : Option Content). IfSome o (IsGoodRow c.args.handle.now (c.args.head.now.count - 1) c.args.bytes.now)) c.in-Some.is c.in_ok-row.ensures.good in
    let is : one ≡ row = c.rows_have_own_bytes.ensures one row read.whole of.good.whole (sym read.written ∙ of.good.written) in
    let tail : c.tail.result ≡ c.args.head.now.tail =
    c.tail.ensures ∙ ap tail_of_row (c.row.view_is ∙ is) ∙ of.agrees in
    let yes = (bytes_eq-Decides _ _).1 tail in
    absurd (cc (sym yes ∙ sym c.if-eq.ensures))
