use Rattle.std.proofs.Common.{List, ℕ, Ok, refl, sym, ap, subst, ◌∙◌, arith}
use Rattle.port.specs.Stored.{Stored}
use Rattle.op_latest.specs.LatestRow.{IsNoRowOf}
use Rattle.op_latest.proofs.latest_row.answer_with.Goals as goal

pub returns-in-Ok-None : goal.returns-in-Ok-None
returns-in-Ok-None c = (
  c.args.stored,
  refl,
  sym (ap (λ (s : Stored). s.body) c.stored.view_is),
  refl,
  omega arith,
  subst (λ (b : List ℕ). IsNoRowOf c.args.handle.now c.args.head.now b) c.bytes.ensures (c.row_of.ensures.none (c.in-Ok-None.is ∙ ap Ok c.in-Ok-None.field-0-is)),
)
