use Rattle.std.proofs.Common.{rules, ◌+◌, ◌++◌, ◌∷◌, [], List, ℕ, ap, ◌∙◌}
use Rattle.world_run.proofs.Ids.{are_all, range_more}
use Rattle.world_run.proofs.mac_seals.ids.Goals as goal

pub loop-below-preserved : goal.loop-below-preserved
loop-below-preserved c = c.in_ok-push.ensures.items ∙ ap (λ (l : List ℕ). l ++ (c.loop-below.below + 1) ∷ []) c.loop-below.invariant ∙ range_more c.loop-below.below

pub returns : goal.returns
returns c = are_all c.loop-below.ids.items c.loop-below.below c.loop-below.invariant (search rules)
