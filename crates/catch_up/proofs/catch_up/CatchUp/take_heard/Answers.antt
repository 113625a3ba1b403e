use Rattle.std.proofs.Common.{◌<◌, ◌-◌, ◌*◌, [], sym, subst}
use Rattle.port.specs.Call.{Call, Show}
use Rattle.port.specs.Heard.{heard_of}
use Rattle.port.specs.Trace.{AtLink}
use Rattle.catch_up.specs.State.{Target, State, calls_left_at}
use Rattle.catch_up.specs.Sound.{Takes}
use Rattle.catch_up.specs.Turn.{Turns}
use Rattle.catch_up.proofs.Turns.{below, taken}
use Rattle.catch_up.proofs.Steps.{falls_by_append}
use Rattle.catch_up.proofs.catch_up.CatchUp.take_heard.Goals as goal

pub take-requires : goal.take-requires
take-requires c =
    below c.args.self.now.target c.args.height _ c.of_heard-turn.result
    (subst (λ (s : State). Turns s.target c.args.height (AtLink s.target.member (Show []) (heard_of c.args.heard)) c.of_heard-turn.result)
    c.self.view_is (c.of_heard-turn.ensures c.self.inside.member c.self.inside.handle (Show [])))

takes : (c : goal.After-take) (call : Call) → Takes c.args.self.now.target c.args.height (AtLink c.args.self.now.target.member call (heard_of c.args.heard)) c.take.new.self.stage c.take.result
takes c call =
    taken c.args.self.now.target c.args.height _ c.of_heard-turn.result c.take.new.self.stage c.take.result
    (subst (λ (s : State). Turns s.target c.args.height (AtLink s.target.member call (heard_of c.args.heard)) c.of_heard-turn.result)
    c.self.view_is (c.of_heard-turn.ensures c.self.inside.member c.self.inside.handle call))
    c.take.ensures.taken

pub returns-clause-takes : goal.returns-clause-takes
returns-clause-takes c = takes c

pub returns-clause-falls : goal.returns-clause-falls
returns-clause-falls c =
    let t = takes c (Show []) in
    subst (λ (target : Target). calls_left_at target.count c.take.new.self.stage < 2 * (c.args.self.now.target.count - c.args.height) - 1) (sym c.take.ensures.same)
    (falls_by_append c.args.self.now.target c.args.height c.args.self.now.target.member (Show []) (heard_of c.args.heard) c.take.new.self.stage t.below t.goes_on)
