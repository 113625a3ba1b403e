use Rattle.std.proofs.Common.{◌≡◌, ◌≢◌, ap, arith, IfSome, IsSomeAnd, nat_cmp, option_copied, subst, sym, take, take_all, ◌∙◌}
use Rattle.std.specs.BTreeMap.{get}
use Rattle.std.specs.Cmp.Lexicographic.{slice_cmp}
use Rattle.least_collision.specs.Collision.{DigestedText, NoneShareDigest}
use Rattle.least_collision.proofs.Collisions.{Known, Known_push, known_shares, none_share, put_shows, take_push}
use Rattle.least_collision.proofs.search.has_collision.Goals as goal

pub returns-then-differs : goal.returns-then-differs
returns-then-differs c =
    let given = c.args.given.now in
    let item = c.item-item.result in
    let i = c.loop-item.item-index in
    let texts = c.loop-item.texts in
    let item_text : c.item.inside.text.now ≡ item.text = ap (λ (d : DigestedText). d.text) c.item.view_is in
    let item_digest : c.item.inside.digest ≡ item.digest = ap (λ (d : DigestedText). d.digest) c.item.view_is in
    let old : c.in-Ok.before ≡ get (slice_cmp nat_cmp) texts item.digest = c.in-Ok.ensures.old ∙ ap (get (slice_cmp nat_cmp) texts) item_digest in
    known_shares given i item (option_copied c.in-Ok.before) (omega arith) c.item-item.is
    (subst (λ o. Known (take i given) item.digest (option_copied o)) (sym old) (c.loop-item.invariant item.digest))
    (subst (λ t. IsSomeAnd (option_copied c.in-Ok.before) (λ known. known ≢ t)) item_text c.if-differs.ensures)

pub loop-item-preserved : goal.loop-item-preserved
loop-item-preserved c =
    let given = c.args.given.now in
    let item = c.item-item.result in
    let i = c.loop-item.item-index in
    let texts = c.loop-item.texts in
    let item_text : c.item.inside.text.now ≡ item.text = ap (λ (d : DigestedText). d.text) c.item.view_is in
    let item_digest : c.item.inside.digest ≡ item.digest = ap (λ (d : DigestedText). d.digest) c.item.view_is in
    let old : c.in-Ok.before ≡ get (slice_cmp nat_cmp) texts item.digest = c.in-Ok.ensures.old ∙ ap (get (slice_cmp nat_cmp) texts) item_digest in
    λ digest.
    subst (λ front. Known front digest (option_copied (get (slice_cmp nat_cmp) c.insert.new.self digest))) (sym (take_push given i item (omega arith) c.item-item.is))
    (Known_push (take i given) item
    (λ q. option_copied (get (slice_cmp nat_cmp) texts q))
    (λ q. option_copied (get (slice_cmp nat_cmp) c.insert.new.self q))
    (put_shows item (get (slice_cmp nat_cmp) texts) (get (slice_cmp nat_cmp) c.insert.new.self) c.item.inside.digest c.item.inside.text item_digest item_text c.in-Ok.ensures.updates.0)
    (subst (λ o. IfSome (option_copied o) (λ text. text ≡ item.text)) old
    (subst (λ t. IfSome (option_copied c.in-Ok.before) (λ known. known ≡ t)) item_text c.if-differs.ensures))
    c.loop-item.invariant digest)

pub returns : goal.returns
returns c =
    subst NoneShareDigest (take_all c.loop-item.item-index c.args.given.now c.loop-item-test.false)
    (none_share _ (λ digest. option_copied (get (slice_cmp nat_cmp) c.loop-item.texts digest)) c.loop-item.invariant)
