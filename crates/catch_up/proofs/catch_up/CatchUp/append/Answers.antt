use Rattle.std.proofs.Common.{subst}
use Rattle.port.specs.Heard.{heard_of}
use Rattle.port.specs.Link.{LinkStep}
use Rattle.catch_up.specs.State.{State}
use Rattle.catch_up.specs.OwnCalls.{append_of}
use Rattle.catch_up.proofs.catch_up.CatchUp.append.Goals as goal

pub returns-clause-call : goal.returns-clause-call
returns-clause-call g c = (
  heard_of c.send-heard.result,
  subst (λ (s : State). LinkStep g.L.Link.view c.args.link.now c.send-heard.new.link s.target.member (append_of s.target.handle c.args.block.now) (heard_of c.send-heard.result)) c.self.view_is c.send-heard.ensures,
  c.take_heard.ensures.takes (append_of c.args.self.now.target.handle c.args.block.now),
)
