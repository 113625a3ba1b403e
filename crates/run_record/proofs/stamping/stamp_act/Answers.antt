use Rattle.std.proofs.Common.{◌≡◌, ℕ, ◌<◌, ap, arith, length, map, refl, ◌∙◌}
use Rattle.std.proofs.lemmas.List.{get_or_read}
use Rattle.std.specs.Prelude.{slice_index, vec_items}
use Rattle.run_record.specs.Stamping.{change_at, act_stamped}
use Rattle.run_record.proofs.Stamps.{changed_within}
use Rattle.run_record.proofs.stamping.stamp_act.Goals as goal

pub returns-clause-lines : goal.returns-clause-lines
returns-clause-lines c =
    let inside : c.args.place < length c.args.next.now.items = omega (arith, c.requires.next, c.args.next.now.ok.0) in
    let read : c.index-act.result.now ≡ slice_index c.args.next.now.items c.args.place = get_or_read c.args.next.now.items c.args.place c.index-act.result.now inside c.index-act.ensures 0 in
    changed_within vec_items (act_stamped c.args.stamp) c.args.passes.now.items c.args.place c.index-act.result.now c.index_mut-lines.result.now _ c.index_mut.result.now _
    c.index_mut-lines.ensures.value c.index_mut.ensures.value (ap (act_stamped c.args.stamp) c.behind-lines.view_is) refl
    ∙ ap (λ (k : ℕ). change_at (change_at (act_stamped c.args.stamp) k) c.args.place (map vec_items c.args.passes.now.items)) read
