use Rattle.world_run.proofs.PlainBegins.{begin_line}
use Rattle.world_run.proofs.plain_laws.plain_runs_begin.Goals as goal

pub returns : goal.returns
returns g c = λ old new ids answer first says same unbegun fresh unbent.
    begin_line g.C.Checker.accepts g.L.Link.view c.true_stores_are_honest.ensures.honest c.calm_coordinators_begin.ensures.honest old new ids first same unbegun fresh unbent answer says
