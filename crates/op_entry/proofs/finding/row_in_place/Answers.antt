use Rattle.std.proofs.Common.{◌≡◌, Option, sym, subst, ◌∙◌}
use Rattle.std.specs.Prelude.{IfSome}
use Rattle.chain_block.specs.Entry.{height_of}
use Rattle.port.specs.GoodRow.{IsGoodRow}
use Rattle.port.specs.Row.{Content}
use Rattle.op_entry.proofs.finding.row_in_place.Goals as goal

pub returns-clause-none : goal.returns-clause-none
returns-clause-none c same row stands =
    let own : Content = c.args.own.now in
    let one : Content = c.in-Some.row in
    let read : IsGoodRow c.ledger_of.result c.height.result c.args.bytes.now one = subst (λ (o : Option Content). IfSome o (IsGoodRow c.ledger_of.result c.height.result c.args.bytes.now)) c.in-Some.is c.in_ok-row.ensures.good in
    let is : one ≡ row = c.rows_have_own_bytes.ensures one row read.whole stands.good.whole (sym read.written ∙ stands.good.written) in
    let fits : (row.metablock.prev ≡ own.metablock.prev) × (height_of own.entry ≡ 0 → row.entry ≡ own.entry) = (stands.links, stands.first) in
    let yes = c.may_stand.ensures.1 (subst (λ (r : Content). (r.metablock.prev ≡ own.metablock.prev) × (height_of own.entry ≡ 0 → r.entry ≡ own.entry)) (sym is) fits) in
    absurd (cc (sym yes ∙ c.if-may_stand.false))
