use Rattle.std.proofs.Common.{inl, inr, ap, subst, rules, arith}
use Rattle.port.specs.Answer.{answer_of}
use Rattle.endorser_cell.specs.declared.losses.Losses.{Losses}
use Rattle.endorser_cell.specs.Losses.{LosesRequest, LosesReply}
use Rattle.endorser_cell.proofs.asking.call_cell.Goals as goal

pub returns-then-losses-gt0 : goal.returns-then-losses-gt0
returns-then-losses-gt0 g c = inl (record {
  noted = search rules;
  losses = c.without_request.result;
  stays = search rules;
  lost = subst (λ (l : Losses). LosesRequest l c.without_request.result) c.losses-losses.ensures c.without_request.ensures;
})

pub returns : goal.returns
returns g c =
    let same = ap (λ (l : Losses). l.requests) c.losses-losses.ensures in
    inr (record {
      answer = answer_of c.in-Ok-ask.answer;
      called = c.ask.new.cell;
      losses = c.without_reply.result;
      noted = search rules;
      goes = search rules;
      no_request = omega (arith, c.if-losses-gt0.false, same);
      lost = subst (λ (l : Losses). LosesReply l c.without_reply.result) c.losses-losses.ensures c.without_reply.ensures;
      answers = c.in-Ok-ask.ensures.answers;
    })
