use Rattle.std.proofs.Common.{◌≡◌, ap, nat_cmp, subst, sym, take, take_all, ◌∙◌, ◌++◌, ◌∷◌, [], Some, arith}
use Rattle.std.proofs.lemmas.Cmp.{nat_list_cmp_total}
use Rattle.std.specs.Cmp.Lexicographic.{slice_cmp}
use Rattle.least_collision.specs.Collision.{DigestedText, IsPartner}
use Rattle.least_collision.proofs.Collisions.{bytes_of, IsLeast, lesser, partner_joins, partner_passes, take_push, equal_from_test, apart_from_test, equal_from_not, apart_from_not}
use Rattle.least_collision.proofs.search.least_partner.Goals as goal
use Rattle.least_collision.proofs.search.least_partner.Goals.{then-eq+then-ne, in-Some, in-None, else-eq, else-eq-via-then-eq+else-ne, else-eq-via-else-eq}

pub loop-item-preserved : goal.loop-item-preserved
loop-item-preserved c =
    let given = c.args.given.now in
    let one = c.args.one.now in
    let item = c.item-item.result in
    let i = c.loop-item.item-index in
    let least = c.loop-item.least in
    let text = c.item.inside.text in
    let item_text : text.now ≡ item.text = ap (λ (d : DigestedText). d.text) c.item.view_is in
    let item_digest : c.item.inside.digest ≡ item.digest = ap (λ (d : DigestedText). d.digest) c.item.view_is in
    let one_text : c.one.inside.text.now ≡ one.text = ap (λ (d : DigestedText). d.text) c.one.view_is in
    let one_digest : c.one.inside.digest ≡ one.digest = ap (λ (d : DigestedText). d.digest) c.one.view_is in
    let step : IsLeast bytes_of (slice_cmp nat_cmp) nat_list_cmp_total (IsPartner (take i given ++ item ∷ []) one) c.if-eq.least =
    elim c.if-eq.branch [
      | then-eq+then-ne w ↦
          let new : c.if-eq.least ≡ Some (lesser bytes_of (slice_cmp nat_cmp) nat_list_cmp_total least text) =
          elim w.match-least.branch [
            | in-Some w' ↦ w.least-is ∙ ap Some (w'.least-is ∙ w'.min.ensures ∙ sym (ap (λ o. lesser bytes_of (slice_cmp nat_cmp) nat_list_cmp_total o text) w'.in-Some.is))
            | in-None w' ↦ w.least-is ∙ ap Some (w'.least-is ∙ sym (ap (λ o. lesser bytes_of (slice_cmp nat_cmp) nat_list_cmp_total o text) w'.in-None.is))
          ] in
          subst (IsLeast bytes_of (slice_cmp nat_cmp) nat_list_cmp_total (IsPartner (take i given ++ item ∷ []) one)) (sym new)
          (partner_joins (take i given) item one least text item_text
          (sym item_digest ∙ equal_from_test _ _ _ c.eq.ensures w.if-eq.true ∙ one_digest)
          (λ same. apart_from_not _ _ _ w.ne.ensures w.if-ne.true (item_text ∙ same ∙ sym one_text))
          c.loop-item.invariant)
      | else-eq w ↦
          subst (IsLeast bytes_of (slice_cmp nat_cmp) nat_list_cmp_total (IsPartner (take i given ++ item ∷ []) one)) (sym w.least-is)
          (partner_passes (take i given) item one least
          (λ alike apart. elim w.else-eq.branch [
            | else-eq-via-then-eq+else-ne w' ↦ apart (sym item_text ∙ equal_from_not _ _ _ w'.ne.ensures w'.if-ne.false ∙ one_text)
            | else-eq-via-else-eq w' ↦ apart_from_test _ _ _ c.eq.ensures w'.if-eq.false (item_digest ∙ alike ∙ sym one_digest)
          ])
          c.loop-item.invariant)
    ] in
    subst (λ front. IsLeast bytes_of (slice_cmp nat_cmp) nat_list_cmp_total (IsPartner front one) c.if-eq.least)
    (sym (take_push given i item (omega arith) c.item-item.is)) step

pub returns : goal.returns
returns c =
    subst (λ front. IsLeast bytes_of (slice_cmp nat_cmp) nat_list_cmp_total (IsPartner front c.args.one.now) c.loop-item.least)
    (take_all c.loop-item.item-index c.args.given.now c.loop-item-test.false) c.loop-item.invariant
