use Rattle.coordinator.proofs.CalmBeginning.{begins_calm}
use Rattle.coordinator.proofs.calm_laws.calm_coordinators_begin.Goals as goal

pub returns-clause-quiet : goal.returns-clause-quiet
returns-clause-quiet g c = λ old new answer first says before quiet.
    begins_calm g.C.Checker.accepts g.S.Store.view g.L.Link.view (record { faithful = c.links_are_faithful.ensures }) old new answer first says before
    (λ events ran. c.stores_are_honest.ensures old.store new.store old.link new.link events ran first.contents before.contents quiet)

pub returns-clause-honest : goal.returns-clause-honest
returns-clause-honest g c = begins_calm g.C.Checker.accepts g.S.Store.view g.L.Link.view (record { faithful = c.links_are_faithful.ensures })
