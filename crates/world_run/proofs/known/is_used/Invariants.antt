use Rattle.std.proofs.Common.{◌≡◌, map, drop}
use Rattle.world_run.specs.Plain.{is_used}
use Rattle.world_run.proofs.known.is_used.Given as goal

abbrev pub invariant-loop-ids : goal.invariant-loop-ids
invariant-loop-ids l = is_used (map (λ ids. ids.now) (drop l.ids-index l.views)) l.id ≡ is_used (map (λ ids. ids.now) l.views) l.id
