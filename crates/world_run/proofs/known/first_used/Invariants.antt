use Rattle.std.proofs.Common.{◌≡◌, map, drop}
use Rattle.world_run.specs.Plain.{first_used}
use Rattle.world_run.proofs.known.first_used.Given as goal

abbrev pub invariant-loop-id : goal.invariant-loop-id
invariant-loop-id l = first_used (map (λ ids. ids.now) l.views) (drop l.id-index l.ids) ≡ first_used (map (λ ids. ids.now) l.views) l.ids
