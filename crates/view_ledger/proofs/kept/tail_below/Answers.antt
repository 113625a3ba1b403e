use Rattle.std.proofs.Common.{◌≡◌, ℕ, map, take, sym, ap, ◌∙◌, arith}
use Rattle.view_ledger.specs.Views.{newest_tail}
use Rattle.view_ledger.specs.Kept.{config_of}
use Rattle.view_ledger.specs.Tails.{newest_tail-none}
use Rattle.view_ledger.proofs.NumberedViews.{newest_below_tail}
use Rattle.view_ledger.proofs.kept.tail_below.Goals as goal

pub returns-then-place-eq0 : goal.returns-then-place-eq0
returns-then-place-eq0 c =
    let none : c.args.place ≡ 0 = omega arith in
    sym (ap (λ (n : ℕ). newest_tail (take n (map config_of c.args.views.now))) none ∙ newest_tail-none)

pub returns : goal.returns
returns c =
    c.requires.tails.each _ c.index-views-place.result (omega (arith, c.requires.within))
    ∙ sym (newest_below_tail (map config_of c.args.views.now) c.args.place (omega arith))
