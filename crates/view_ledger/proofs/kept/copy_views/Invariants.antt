use Rattle.std.proofs.Common.{◌≡◌, take}
use Rattle.view_ledger.proofs.kept.copy_views.Given as goal

-- the views up to here were copied
abbrev pub invariant-loop-view : goal.invariant-loop-view
invariant-loop-view l = l.copies.items ≡ take l.view-index l.views
