use Rattle.std.proofs.Common.{rules, ◌+◌, ◌++◌, [], List, ℕ, map, refl, ap, ◌∙◌}
use Rattle.std.specs.List.{flat_map, range_with_len}
use Rattle.std.proofs.lemmas.List.{flat_map_more}
use Rattle.world_run.proofs.Ids.{are_all, range_more}
use Rattle.world_run.proofs.set_up.key_texts.Goals as goal

pub loop-below-preserved : goal.loop-below-preserved
loop-below-preserved g c =
    let texts_of = g.M.Seals.texts_of c.args.seals.now in
    let n = c.loop-below.below in
    c.in_ok-push_all.ensures
    ∙ ap (λ (more : List (List ℕ)). map (λ text. text.bytes) c.loop-below.texts.items ++ more) c.in_ok-texts.ensures.texts
    ∙ ap (λ (before : List (List ℕ)). before ++ texts_of (n + 1)) c.loop-below.invariant
    ∙ flat_map_more texts_of [] (range_with_len 1 n) (n + 1)
    ∙ ap (flat_map texts_of) (range_more n)

pub returns : goal.returns
returns g c =
    c.loop-below.invariant
    ∙ ap (flat_map (g.M.Seals.texts_of c.args.seals.now)) (are_all (range_with_len 1 c.loop-below.below) c.loop-below.below refl (search rules))
