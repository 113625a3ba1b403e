use Rattle.std.proofs.Common.{◌≡◌, ◌<◌, length, map, get_or, refl, ap, ◌∙◌, arith}
use Rattle.std.specs.Prelude.{vec_items}
use Rattle.std.proofs.lemmas.Bool.{eq-eqb}
use Rattle.std.proofs.lemmas.List.{length-map}
use Rattle.run_record.specs.declared.actor.Actor.TheVariants.{Endorser, Client}
use Rattle.run_record.specs.Events.{is_endorser, is_client}
use Rattle.run_record.specs.Stamping.{act_stamped, call_stamped}
use Rattle.run_record.proofs.Stamps.{acting_inside, after_acting, after_resting, event_here, line_inside}
use Rattle.run_record.proofs.stamping.stamp_all.Goals as goal
use Rattle.run_record.proofs.stamping.stamp_all.Goals.{in-Endorser, in-Client}

pub stamp_call-requires-clause-list : goal.stamp_call-requires-clause-list
stamp_call-requires-clause-list c =
    let order = c.args.order.now in
    let before = map vec_items c.args.cells.now.items in
    let place = c.in-Endorser.place in
    let inside = c.loop-stamp-test.true in
    let here : Endorser place ≡ get_or order c.loop-stamp.stamp (Endorser place) = event_here order c.loop-stamp.stamp _ (Endorser place) inside c.in-Endorser.is in
    let within : place < length before = acting_inside is_endorser order before c.loop-stamp.stamp place (Endorser place) c.requires.events.endorsers inside here (eq-eqb place place refl) in
    omega (arith, within, c.loop-stamp.invariant.cells.lists, length-map c.loop-stamp.cells.items vec_items, c.loop-stamp.cells.ok.0)

pub stamp_call-requires-clause-next : goal.stamp_call-requires-clause-next
stamp_call-requires-clause-next c =
    let order = c.args.order.now in
    let before = map vec_items c.args.cells.now.items in
    let place = c.in-Endorser.place in
    let inside = c.loop-stamp-test.true in
    let here : Endorser place ≡ get_or order c.loop-stamp.stamp (Endorser place) = event_here order c.loop-stamp.stamp _ (Endorser place) inside c.in-Endorser.is in
    let within : place < length before = acting_inside is_endorser order before c.loop-stamp.stamp place (Endorser place) c.requires.events.endorsers inside here (eq-eqb place place refl) in
    omega (arith, within, c.loop-stamp.invariant.calls.numbers, c.loop-stamp.calls.ok.0)

pub stamp_call-requires-clause-line : goal.stamp_call-requires-clause-line
stamp_call-requires-clause-line c =
    let order = c.args.order.now in
    let before = map vec_items c.args.cells.now.items in
    let place = c.in-Endorser.place in
    let inside = c.loop-stamp-test.true in
    let here : Endorser place ≡ get_or order c.loop-stamp.stamp (Endorser place) = event_here order c.loop-stamp.stamp _ (Endorser place) inside c.in-Endorser.is in
    line_inside call_stamped is_endorser order before (map vec_items c.loop-stamp.cells.items) c.loop-stamp.calls.items c.loop-stamp.stamp place (Endorser place)
    c.requires.events.endorsers inside here (eq-eqb place place refl) c.loop-stamp.invariant.cells c.loop-stamp.invariant.calls

pub stamp_act-requires-clause-list : goal.stamp_act-requires-clause-list
stamp_act-requires-clause-list c =
    let order = c.args.order.now in
    let before = map vec_items c.args.passes.now.items in
    let place = c.in-Client.place in
    let inside = c.loop-stamp-test.true in
    let here : Client place ≡ get_or order c.loop-stamp.stamp (Client place) = event_here order c.loop-stamp.stamp _ (Client place) inside c.in-Client.is in
    let within : place < length before = acting_inside is_client order before c.loop-stamp.stamp place (Client place) c.requires.events.clients inside here (eq-eqb place place refl) in
    omega (arith, within, c.loop-stamp.invariant.passes.lists, length-map c.loop-stamp.passes.items vec_items, c.loop-stamp.passes.ok.0)

pub stamp_act-requires-clause-next : goal.stamp_act-requires-clause-next
stamp_act-requires-clause-next c =
    let order = c.args.order.now in
    let before = map vec_items c.args.passes.now.items in
    let place = c.in-Client.place in
    let inside = c.loop-stamp-test.true in
    let here : Client place ≡ get_or order c.loop-stamp.stamp (Client place) = event_here order c.loop-stamp.stamp _ (Client place) inside c.in-Client.is in
    let within : place < length before = acting_inside is_client order before c.loop-stamp.stamp place (Client place) c.requires.events.clients inside here (eq-eqb place place refl) in
    omega (arith, within, c.loop-stamp.invariant.acts.numbers, c.loop-stamp.acts.ok.0)

pub stamp_act-requires-clause-line : goal.stamp_act-requires-clause-line
stamp_act-requires-clause-line c =
    let order = c.args.order.now in
    let before = map vec_items c.args.passes.now.items in
    let place = c.in-Client.place in
    let inside = c.loop-stamp-test.true in
    let here : Client place ≡ get_or order c.loop-stamp.stamp (Client place) = event_here order c.loop-stamp.stamp _ (Client place) inside c.in-Client.is in
    line_inside act_stamped is_client order before (map vec_items c.loop-stamp.passes.items) c.loop-stamp.acts.items c.loop-stamp.stamp place (Client place)
    c.requires.events.clients inside here (eq-eqb place place refl) c.loop-stamp.invariant.passes c.loop-stamp.invariant.acts

pub loop-stamp-preserved : goal.loop-stamp-preserved
loop-stamp-preserved c =
    let order = c.args.order.now in
    let stamp = c.loop-stamp.stamp in
    let cells = map vec_items c.args.cells.now.items in
    let passes = map vec_items c.args.passes.now.items in
    let now_cells = map vec_items c.loop-stamp.cells.items in
    let now_passes = map vec_items c.loop-stamp.passes.items in
    let new_cells = map vec_items c.match-actor.cells.items in
    let new_passes = map vec_items c.match-actor.passes.items in
    let inside = c.loop-stamp-test.true in
    let was = c.loop-stamp.invariant in
    elim c.match-actor.branch [
      | in-Endorser w ↦
          let place = w.in-Endorser.place in
          let here : Endorser place ≡ get_or order stamp (Endorser place) = event_here order stamp _ (Endorser place) inside w.in-Endorser.is in
          let within : place < length cells = acting_inside is_endorser order cells stamp place (Endorser place) c.requires.events.endorsers inside here (eq-eqb place place refl) in
          let one = after_acting call_stamped is_endorser order cells now_cells new_cells c.loop-stamp.calls.items c.match-actor.calls.items stamp place (Endorser place) inside here (λ p. refl) within
          (ap (λ v. map vec_items v.items) w.cells-is ∙ w.stamp_call.ensures.lines) (ap (λ v. v.items) w.calls-is ∙ w.stamp_call.ensures.next) was.cells was.calls in
          let other = after_resting act_stamped is_client order passes now_passes new_passes c.loop-stamp.acts.items c.match-actor.acts.items stamp (Endorser place) inside here (λ p. refl)
          (ap (λ v. map vec_items v.items) w.passes-is) (ap (λ v. v.items) w.acts-is) was.passes was.acts in
          record { cells = one.0; passes = other.0; calls = one.1; acts = other.1 }
      | in-Client w ↦
          let place = w.in-Client.place in
          let here : Client place ≡ get_or order stamp (Client place) = event_here order stamp _ (Client place) inside w.in-Client.is in
          let within : place < length passes = acting_inside is_client order passes stamp place (Client place) c.requires.events.clients inside here (eq-eqb place place refl) in
          let one = after_acting act_stamped is_client order passes now_passes new_passes c.loop-stamp.acts.items c.match-actor.acts.items stamp place (Client place) inside here (λ p. refl) within
          (ap (λ v. map vec_items v.items) w.passes-is ∙ w.stamp_act.ensures.lines) (ap (λ v. v.items) w.acts-is ∙ w.stamp_act.ensures.next) was.passes was.acts in
          let other = after_resting call_stamped is_endorser order cells now_cells new_cells c.loop-stamp.calls.items c.match-actor.calls.items stamp (Client place) inside here (λ p. refl)
          (ap (λ v. map vec_items v.items) w.cells-is) (ap (λ v. v.items) w.calls-is) was.cells was.calls in
          record { cells = other.0; passes = one.0; calls = other.1; acts = one.1 }
    ]
