-- What the code holds, as the table sees it.
use Rattle.std.specs.Prelude.{ℕ, ◌≤◌, List, length, Option, Some, None}
use Rattle.port.specs.Table.{View, Ending, State, Uninitialized, Initialized, Active, Finalized}
use Rattle.endorser_core.specs.declared.membership.Membership.{Membership}
use Rattle.endorser_core.specs.declared.membership.Ending.{Ending as Ended}
use Rattle.endorser_core.specs.declared.membership.Stage.{Stage}
use Rattle.endorser_core.specs.declared.membership.Stage.TheVariants as stages

abbrev pub view_of : Membership → View
view_of held = record { block = held.block; config = held.config; first = held.first; map = held.map.rows }

abbrev pub ending_of : Ended → Ending
ending_of ended = record { statement = ended.statement; sig = ended.sig.bytes; next = ended.next }

abbrev pub state_at : Stage → View → State
state_at stages.Initialized view = Initialized view
state_at stages.Active view = Active view
state_at (stages.Finalized ended) view = Finalized view (ending_of ended)

abbrev pub state_of : Option Membership → State
state_of None = Uninitialized
state_of (Some held) = state_at held.stage (view_of held)
