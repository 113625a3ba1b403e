use Rattle.std.proofs.Common.{◌<◌, subst}
use Rattle.port.specs.declared.key.Key.TheVariants as keys
use Rattle.port.specs.Store.{Get, WasGot}
use Rattle.port.specs.Trace.{AtStore}
use Rattle.catch_up.specs.State.{State}
use Rattle.catch_up.specs.Turn.{Turns}
use Rattle.catch_up.proofs.Turns.{taken}
use Rattle.catch_up.proofs.catch_up.CatchUp.take_row.Goals as goal

pub returns-clause-takes : goal.returns-clause-takes
returns-clause-takes c =
    taken c.args.self.now.target c.args.height _ c.of_row-turn.result c.take.new.self.stage c.take.result
    (subst (λ (s : State). c.args.height < s.target.count → Turns s.target c.args.height (AtStore (Get (keys.Row s.target.handle c.args.height)) (WasGot c.args.got)) c.of_row-turn.result)
    c.self.view_is (c.of_row-turn.ensures c.self.inside.member c.self.inside.to) c.requires)
    c.take.ensures.taken
