use Rattle.std.proofs.Common.{◌≡◌, ◌≤◌, length, map}
use Rattle.view_ledger.specs.Views.{newest_below, number_of}
use Rattle.view_ledger.specs.Kept.{config_of}
use Rattle.view_ledger.proofs.kept.find_view.Given as goal

abbrev pub invariant-loop-number : goal.invariant-loop-number
invariant-loop-number l =
    record {
      within : l.number ≤ length l.views;
      above : newest_below (map config_of l.views) l.view l.number ≡ number_of (map config_of l.views) l.view;
    }

abbrev pub decreases-loop-number : goal.decreases-loop-number
decreases-loop-number l = l.number
