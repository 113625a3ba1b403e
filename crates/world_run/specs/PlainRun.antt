-- A script that is read, whose texts have a digest each.
use Rattle.std.specs.Prelude.{◌≡◌, ℕ, ◌+◌, ◌≤◌, Bool, List, [], ◌∷◌, ◌++◌, length, count_by}
use Rattle.std.specs.List.{flat_map, list_any}
use Rattle.std.specs.Str.{bytes_eq}
use Rattle.fault_script.specs.Command.{Command}
use Rattle.fault_script.specs.Limits.{is_new}
use Rattle.fault_script.specs.Within.{Fits}
use Rattle.least_collision.specs.Collision.{NoCollision}
use Rattle.world_run.specs.SetUp.{draws_of, made_by, set_up_texts}

-- A script as it is read: each command fits after those before it, and there are no more lines, and lines that make a ledger, than there
-- may be. No two of the texts that a run of it rests on have one digest.
pub record IsRunnable (texts_of : ℕ → List (List ℕ)) (script : List Command) : Type 0 where
  pub each : (before : List Command) (command : Command) (after : List Command) → script ≡ before ++ command ∷ after → Fits before command
  pub count : length script ≤ 65536
  pub news : count_by is_new script ≤ 256
  pub no_collision : NoCollision (set_up_texts texts_of script)

-- how many nonces these lines draw
abbrev pub draws_in : List Command → ℕ
draws_in [] = 0
draws_in (command ∷ commands) = draws_of command + draws_in commands

-- whether one of these lines makes a ledger of this label
abbrev pub is_made : List Command → List ℕ → Bool
is_made commands label = list_any (bytes_eq label) (flat_map made_by commands)
