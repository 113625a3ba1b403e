use Rattle.std.proofs.Common.{◌≡◌, ap, subst, sym, take, take_all, ◌∙◌, ◌++◌, ◌∷◌, [], Some, arith}
use Rattle.least_collision.specs.declared.collision.Collision.{Collision}
use Rattle.least_collision.specs.Collision.{DigestedText}
use Rattle.least_collision.proofs.Collisions.{IsLeast, least_shares, lesser, pair_joins, pair_of, pair_passes, pairs_cmp, pairs_total, StartsIn, take_push}
use Rattle.least_collision.proofs.search.least_pair.Goals as goal
use Rattle.least_collision.proofs.search.least_pair.Goals.{in-Some, in-Some-least, in-None, in_default}

pub loop-item-preserved : goal.loop-item-preserved
loop-item-preserved c =
    let given = c.args.given.now in
    let item = c.item-item.result in
    let i = c.loop-item.item-index in
    let least = c.loop-item.least in
    let item_text : c.item.inside.text.now ≡ item.text = ap (λ (d : DigestedText). d.text) c.item.view_is in
    let step : IsLeast pair_of pairs_cmp pairs_total (StartsIn (take i given ++ item ∷ []) given) c.match-least_partner.least =
    elim c.match-least_partner.branch [
      | in-Some w ↦
          let pair : Collision = record { one = c.item.inside.text; other = w.in-Some.other } in
          let new : c.match-least_partner.least ≡ Some (lesser pair_of pairs_cmp pairs_total least pair) =
          elim w.match-least.branch [
            | in-Some-least w' ↦ w.least-is ∙ ap Some (w'.least-is ∙ w'.min.ensures ∙ sym (ap (λ o. lesser pair_of pairs_cmp pairs_total o pair) w'.in-Some-least.is))
            | in-None w' ↦ w.least-is ∙ ap Some (w'.least-is ∙ sym (ap (λ o. lesser pair_of pairs_cmp pairs_total o pair) w'.in-None.is))
          ] in
          subst (IsLeast pair_of pairs_cmp pairs_total (StartsIn (take i given ++ item ∷ []) given)) (sym new)
          (pair_joins (take i given) given item least pair item_text w.in-Some.ensures.0 w.in-Some.ensures.1 c.loop-item.invariant)
      | in_default w ↦
          subst (IsLeast pair_of pairs_cmp pairs_total (StartsIn (take i given ++ item ∷ []) given)) (sym w.least-is)
          (pair_passes (take i given) given item least w.in_default.ensures c.loop-item.invariant)
    ] in
    subst (λ front. IsLeast pair_of pairs_cmp pairs_total (StartsIn front given) c.match-least_partner.least)
    (sym (take_push given i item (omega arith) c.item-item.is)) step

pub returns : goal.returns
returns c =
    least_shares _ _
    (subst (λ front. IsLeast pair_of pairs_cmp pairs_total (StartsIn front c.args.given.now) c.loop-item.least)
    (take_all c.loop-item.item-index c.args.given.now c.loop-item-test.false) c.loop-item.invariant)
