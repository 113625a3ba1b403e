use Rattle.std.proofs.Common.{Some, option_map, ap, ◌∙◌}
use Rattle.port.specs.Store.{Truth}
use Rattle.blob_store.proofs.TrueStores.{were_honest, same_truth}
use Rattle.blob_store.proofs.laws.true_stores_are_honest.Goals as goal

pub returns-clause-told : goal.returns-clause-told
returns-clause-told g c store truth is = ap (option_map (λ (t : Truth). t.contents)) is

pub returns-clause-honest : goal.returns-clause-honest
returns-clause-honest g c old new link later events ran truth is neither =
    let then = c.stores_follow.ensures old new link later events ran truth is in
    let was = were_honest truth events then.0 neither then.2 in (
      then.0.contents,
      returns-clause-told g c new then.0 then.1,
      was.honest,
      then.1 ∙ ap Some (same_truth truth then.0 neither was.neither),
    )
