-- What the reader keeps of earlier lines, as the definitions say it.
use Rattle.std.specs.Prelude.{◌≡◌, ◌<◌, ◌≤◌, ℕ, Bool, true, ◌||◌, List, length, nat_lt, if◌then◌else◌, Option, IfSome}
use Rattle.std.specs.Option.{option_map_or}
use Rattle.std.specs.Ordering.{nat_cmp}
use Rattle.std.specs.Cmp.Lexicographic.{slice_cmp}
use Rattle.std.specs.BTreeMap.{get_by}
use Rattle.std.specs.BTreeSet.{contains_by}
use Rattle.fault_script.specs.declared.counts.Counts.{Counts}
use Rattle.fault_script.specs.declared.labels.Labels.{Labels}
use Rattle.fault_script.specs.declared.operations.Operation.{Operation}
use Rattle.fault_script.specs.declared.operations.Operations.{Operations}
use Rattle.fault_script.specs.declared.standing.Standing.{Standing}
use Rattle.fault_script.specs.declared.standing.Standing.TheVariants.{Unbegun, Open, Closed}
use Rattle.fault_script.specs.Command.{Command}
use Rattle.fault_script.specs.Labels.{is_used}
use Rattle.fault_script.specs.Limits.{counts_of}
use Rattle.fault_script.specs.Line.{has_ended}
use Rattle.fault_script.specs.Operations.{standing}

abbrev pub has : Labels → List ℕ → Bool
has labels name = contains_by (λ key. slice_cmp nat_cmp name key.items) labels.used

-- what is kept of an operation
abbrev pub at : Operations → List ℕ → Option Operation
at operations name = get_by (λ key. slice_cmp nat_cmp name key.items) operations.map

-- the same operation, closed by a line of its own
abbrev pub as_closed : Operation → Operation
as_closed operation = record { begun = operation.begun; role = operation.role; is_closed = true }

-- an operation is closed by its own closing line, or by a restart after the line that began it
abbrev pub standing_of : ℕ → Operation → Standing
standing_of restarted operation = if operation.is_closed || nat_lt operation.begun restarted then Closed operation.role else Open operation.role

abbrev pub standing_in : Operations → List ℕ → Standing
standing_in operations name = option_map_or (standing_of operations.restarted) (at operations name) Unbegun

-- the last restart, and each line that began an operation, stand before this place
abbrev pub AreBefore : ℕ → Operations → Type 0
AreBefore place operations = (operations.restarted ≤ place) × ((name : List ℕ) → IfSome (at operations name) (λ operation. operation.begun < place))

-- what is kept is what the commands so far have brought about
pub record IsKept (labels : Labels) (operations : Operations) (counts : Counts) (ended : Bool) (commands : List Command) : Type 0 where
  pub used : (name : List ℕ) → has labels name ≡ is_used commands name
  pub stand : (name : List ℕ) → standing_in operations name ≡ standing commands name
  pub before : AreBefore (length commands) operations
  pub counted : counts ≡ counts_of commands
  pub over : ended ≡ has_ended commands
