use Rattle.std.proofs.Common.{ℕ}
use Rattle.client_pass.specs.ClientList.{IsAnswered}
use Rattle.reply_taking.specs.Learning.{Grows, TakesViews}
use Rattle.reply_taking.proofs.learning.take_views.Given as goal

abbrev pub invariant-loop-row : goal.invariant-loop-row
invariant-loop-row g l = Grows l.initial.pass l.pass × TakesViews l.initial.pass l.pass × ((draw : ℕ) → IsAnswered l.pass.lines draw → IsAnswered l.initial.pass.lines draw)
