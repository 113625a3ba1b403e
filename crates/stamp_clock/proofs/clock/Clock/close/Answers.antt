use Rattle.std.proofs.Common.{◌≡◌, ℕ, ◌+◌, ◌^◌, List, length, arith, ap, sym, ◌∙◌, subst}
use Rattle.stamp_clock.specs.Stamps.{Stamps, times, below, NoneTwice}
use Rattle.stamp_clock.proofs.StepLemmas.{at_close, has_all}
use Rattle.stamp_clock.proofs.clock.Clock.close.Goals as goal

pub returns-clause-none_twice : goal.returns-clause-none_twice
returns-clause-none_twice g c =
    let at_end = c.close_with.ensures.values.2 in
    subst NoneTwice (ap (λ (s : Stamps). s.drawn) c.pass.view_is) (at_close _ _ at_end.0 at_end.1)

pub returns-clause-whole : goal.returns-clause-whole
returns-clause-whole g c = λ all n.
    let at_end = c.close_with.ensures.values.2 in
    let v = c.pass.inside.seat.me.0 in
    let same = ap (λ (s : Stamps). s.drawn) c.pass.view_is in
    let left = ap (λ (s : Stamps). s.left) c.pass.view_is in
    let knows_left = ap (λ m. m.0.left) c.pass.invariant.1 in
    let all' : length v.drawn + v.left ≡ 2 ^ 63 = omega (arith, ap (λ (l : List ℕ). length l) same, left, knows_left, all) in
    ap (times n) (sym same) ∙ has_all _ v at_end.0 at_end.1 all' n ∙ ap (λ (x : ℕ). below x n) c.pass.invariant.2
