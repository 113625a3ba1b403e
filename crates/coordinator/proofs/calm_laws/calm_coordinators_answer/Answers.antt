use Rattle.coordinator.proofs.CalmServing.{calmly_served}
use Rattle.coordinator.proofs.calm_laws.calm_coordinators_answer.Goals as goal

pub returns-clause-honest : goal.returns-clause-honest
returns-clause-honest g c =
    calmly_served g.C.Checker.accepts g.S.Store.view g.L.Link.view
    (record { faithful = c.links_are_faithful.ensures })
    (record {
      cut = c.calls_are_split.ensures.store;
      all = c.whole_refreshes_find_all_views.ensures.all;
      view_stays = c.whole_refreshes_find_all_views.ensures.view_stays;
      finals_stay = c.whole_refreshes_find_all_views.ensures.finals_stay;
      front = c.refreshes_find_all_views.ensures.front;
      finals = c.standing_views_are_given.ensures.finals;
      extends = c.views_that_follow_extend.ensures;
      own_bytes = c.finals_have_own_bytes.ensures;
      same = c.calm_services_go_on.ensures.same;
    })

pub returns-clause-quiet : goal.returns-clause-quiet
returns-clause-quiet g c = λ old new call answer service left says calm one_more quiet.
    returns-clause-honest g c old new call answer service left says calm one_more
    (λ events ran. c.stores_are_honest.ensures old.store new.store old.link new.link events ran service.contents calm.tells.contents quiet)
