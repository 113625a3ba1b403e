use Rattle.std.proofs.Common.{◌≡◌, List, [], map, sym, ap, ◌∙◌, arith}
use Rattle.std.proofs.lemmas.Bool.Decides.{nat_tests}
use Rattle.std.proofs.lemmas.List.{nil_from_length}
use Rattle.view_ledger.specs.declared.view.View.{View}
use Rattle.view_ledger.specs.Views.{newest_tail}
use Rattle.view_ledger.specs.Kept.{config_of}
use Rattle.view_ledger.specs.Tails.{newest_tail-none}
use Rattle.view_ledger.proofs.KeptViews.{newest_tail_is}
use Rattle.view_ledger.proofs.kept.newest_tail.Goals as goal

pub returns-then-is_empty : goal.returns-then-is_empty
returns-then-is_empty c =
    let none : c.args.views.now ≡ [] = nil_from_length c.args.views.now (grind (arith, nat_tests)) in
    sym (ap (λ (views : List View). newest_tail (map config_of views)) none ∙ newest_tail-none)

pub returns : goal.returns
returns c = newest_tail_is c.args.views.now c.requires c.index-views-views.result (grind (arith, nat_tests))
