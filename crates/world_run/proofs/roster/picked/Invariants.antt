use Rattle.std.proofs.Common.{◌≡◌, ◌++◌, ℕ, List, drop}
use Rattle.script_runs.specs.Roster.{all_members, members_by}
use Rattle.world_run.proofs.roster.picked.Given as goal

abbrev pub invariant-loop-id : goal.invariant-loop-id
invariant-loop-id l = (key_of : ℕ → List ℕ) → l.members ≡ all_members key_of → l.picked.items ++ members_by key_of (drop l.id-index l.ids) ≡ members_by key_of l.ids
