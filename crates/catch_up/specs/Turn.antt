-- What a catch-up does after a call, and what it says.
use Rattle.std.specs.Prelude.{◌≡◌, ℕ, List, Some, Result, Ok, Err}
use Rattle.nim_base.specs.declared.no_memory.NoMemory.{NoMemory}
use Rattle.port.specs.Answer.{Answer, Signed}
use Rattle.port.specs.Trace.{Event}
use Rattle.catch_up.specs.declared.progress.Progress.{Progress}
use Rattle.catch_up.specs.declared.stage.Stage.{Stage}
use Rattle.catch_up.specs.declared.stage.Stage.TheVariants.{Ended}
use Rattle.catch_up.specs.declared.turn.Turn.{Turn}
use Rattle.catch_up.specs.State.{Target}
use Rattle.catch_up.specs.Told.{count_of}
use Rattle.catch_up.specs.Sound.{Takes}

abbrev pub target : ℕ → List ℕ → ℕ → Target
target member handle count = record { member = member; handle = handle; count = count }

-- after this call it does and says that; at want of memory it ends
abbrev pub Turns : Target → ℕ → Event → Result Turn NoMemory → Type 0
Turns target height event (Ok turn) = Takes target height event turn.stage (Ok turn.progress)
Turns target height event (Err wanted) = Takes target height event Ended (Err wanted)

-- the turn is taken: this stage and this answer are its own, and at want of memory the catch-up ends
abbrev pub IsTaken : Result Turn NoMemory → Stage → Result Progress NoMemory → Type 0
IsTaken (Ok turn) stage result = (stage ≡ turn.stage) × (result ≡ Ok turn.progress)
IsTaken (Err wanted) stage result = (stage ≡ Ended) × (result ≡ Err wanted)

-- it signed a statement of a ledger with this count
abbrev pub HasSigned : Answer → ℕ → Type 0
HasSigned (Signed statement sig) count = count_of statement ≡ Some count
HasSigned answer count = ⊥
