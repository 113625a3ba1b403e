use Rattle.std.proofs.Common.{rules, ap}
use Rattle.std.proofs.lemmas.List.Sorted.{answers_always}
use Rattle.tail_map.specs.TailMap.{Content}
use Rattle.tail_map.proofs.Places.{has_found}
use Rattle.tail_map.proofs.tail_map.TailMap.place.Goals as goal

-- the closure gives a row's handle, and the slice is the map's rows
pub returns-clause-place : goal.returns-clause-place
returns-clause-place c =
    let found = c.binary_search_by_key.ensures.position (λ row. row.handle) (answers_always _ _ _ (λ f a r g called. search rules)) in
    rw (← c.self.view_is, ← c.deref.ensures.value) found

pub returns-clause-has : goal.returns-clause-has
returns-clause-has c =
    let found = c.binary_search_by_key.ensures.position (λ row. row.handle) (answers_always _ _ _ (λ f a r g called. search rules)) in
    let rows = ap (λ (map : Content). map.rows) c.self.view_is in
    rw (← rows) (has_found c.self.inside.rows.items c.args.handle.now c.binary_search_by_key.result c.self.invariant.0.rising (rw (← c.deref.ensures.value) c.binary_search_by_key.ensures.bound) (rw (← c.deref.ensures.value) found))
