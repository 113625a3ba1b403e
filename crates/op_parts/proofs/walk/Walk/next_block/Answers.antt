use Rattle.std.proofs.Common.{◌≡◌, Option, sym, ap, subst, ◌∙◌}
use Rattle.std.specs.Prelude.{IfSome}
use Rattle.std.proofs.lemmas.Slice.Eq.{bytes_eq-Decides}
use Rattle.port.specs.Row.{Content}
use Rattle.port.specs.Stored.{Stored}
use Rattle.port.specs.GoodRow.{IsGoodRow}
use Rattle.op_parts.specs.Walk.{Walk}
use Rattle.op_parts.proofs.walk.Walk.next_block.Goals as goal

pub returns-clause-none : goal.returns-clause-none
returns-clause-none c same row good links =
    let walk : Walk = c.args.self.now in
    let one : Content = c.in-Some.row in
    let read = subst (λ (o : Option Content). IfSome o (IsGoodRow c.self.inside.handle c.self.inside.height c.bytes.result.now)) c.in-Some.is c.in_ok-row.ensures.good in
    let body : c.bytes.result.now ≡ c.args.stored.now.body = c.bytes.ensures ∙ ap (λ (s : Stored). s.body) c.stored.view_is in
    let is : one ≡ row = c.rows_have_own_bytes.ensures one row read.whole good.whole (sym read.written ∙ body ∙ good.written) in
    let prev = ap (λ (r : Content). r.metablock.prev) (c.row.view_is ∙ is) ∙ links in
    let tail = ap (λ (w : Walk). w.place.tail) c.self.view_is in
    let yes = (bytes_eq-Decides _ _).1 (prev ∙ sym tail) in
    absurd (cc (sym yes ∙ sym c.if-eq.ensures))
