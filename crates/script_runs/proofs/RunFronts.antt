-- The first lines of a script, and the ids of its first view.
use Rattle.std.proofs.Common.{◌≡◌, ℕ, List, [], ◌∷◌, ◌++◌, arith, subst}
use Rattle.fault_script.specs.Command.{Command, Genesis}
use Rattle.fault_script.specs.Within.{AreRising}
use Rattle.script_runs.specs.Begins.{first_ids}
use Rattle.script_runs.specs.Runs.{AllCanRun}
use Rattle.script_runs.specs.SignedMarks.{HaveFourBytes}

-- what can be run can be run in front
front_can : (front rest : List Command) → AllCanRun (front ++ rest) → AllCanRun front
front_can [] rest can = tt
front_can (command ∷ front) rest can = (can.0, front_can front rest can.1)

pub can_front : (script front rest : List Command) → script ≡ front ++ rest → AllCanRun script → AllCanRun front
can_front script front rest split can = front_can front rest (subst AllCanRun split can)

rising_ids : (low : ℕ) (ids : List ℕ) → AreRising low ids → HaveFourBytes ids
rising_ids low [] rising = tt
rising_ids low (id ∷ ids) (above, few, rising) = (omega (arith, few), rising_ids id ids rising)

-- each has four bytes
pub first_short : (script : List Command) → AllCanRun script → HaveFourBytes (first_ids script)
first_short [] can = tt
first_short (Genesis ids ∷ commands) (first, can) = rising_ids 0 ids first.0.2
first_short (command ∷ commands) can = tt
