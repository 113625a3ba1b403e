-- What contracts see of the operations that were begun.
use Rattle.std.specs.Prelude.{◌≡◌, ◌≤◌, ℕ, Bool, true, false, List, ◌∷◌, ◌++◌, [], length, map, slice_get, slice_set, Option, Some, None}
use Rattle.chain_block.specs.Entry.{bare}
use Rattle.view_ledger.specs.Receipts.{Accepts}
use Rattle.view_ledger.specs.Views.{ViewChain}
use Rattle.name_map.specs.NameMap.{means, with_name}
use Rattle.op_entry.specs.Ask.{ReadAt}
use Rattle.op_entry.specs.State.{State as EntryState, is_live as is_entry_live}
use Rattle.op_entry.specs.Sound.{Sound}
use Rattle.op_latest.specs.LatestState.{State as LatestState, is_live as is_latest_live}
use Rattle.op_latest.specs.LatestSound.{LatestSound}
use Rattle.script_operations.specs.Task.{Task, Own, Newest, Height, ask_for}
use Rattle.script_operations.specs.declared.own_run.OwnRun.{OwnRun}
use Rattle.script_operations.specs.declared.own_run.OwnRun.TheVariants as runs
use Rattle.script_operations.specs.declared.operation.Operation.{Operation}
use Rattle.script_operations.specs.declared.operation.Operation.TheVariants as kinds

-- How far an operation has come: it is closed; or it is open, and this is the state of its new ledger, append or read.
pub data Progress : Type 0 where
  Closed : Progress
  InEntry : EntryState → Progress
  InNewest : LatestState → Progress

abbrev pub is_open : Progress → Bool
is_open Closed = false
is_open (InEntry state) = true
is_open (InNewest state) = true

-- What it was begun for, the label that its line prints, and how far it has come.
pub record Begun : Type 0 where
  pub task : Task
  pub label : List ℕ
  pub progress : Progress

abbrev pub at_progress : Begun → Progress → Begun
at_progress begun progress = record { task = begun.task; label = begun.label; progress = progress }

-- All operations in the order in which they were begun, where the one of each name stands, and the place up to which a restart closed all.
pub record Operations : Type 0 where
  pub all : List Begun
  pub names : List (List ℕ × ℕ)
  pub open_from : ℕ

abbrev pub task_in : Begun → Task
task_in begun = begun.task

abbrev pub tasks_of : Operations → List Task
tasks_of operations = map task_in operations.all

-- with this one at its place
abbrev pub with_begun : Operations → ℕ → Begun → Operations
with_begun operations place begun = record { all = slice_set operations.all place begun; names = operations.names; open_from = operations.open_from }

-- The operation of this name is this one, at this place.
pub record IsNamed (operations : Operations) (name : List ℕ) (place : ℕ) (begun : Begun) : Type 0 where
  pub named : means operations.names name ≡ Some place
  pub stands : slice_get operations.all place ≡ Some begun

-- It is open: no restart came since it was begun, and its client was given no answer.
pub record IsOpen (operations : Operations) (name : List ℕ) (place : ℕ) (begun : Begun) : Type 0 where
  pub is : IsNamed operations name place begun
  pub since : operations.open_from ≤ place
  pub going : is_open begun.progress ≡ true

abbrev pub NoneIsOpen : Operations → List ℕ → Type 0
NoneIsOpen operations name = (place : ℕ) (begun : Begun) → IsOpen operations name place begun → ⊥

abbrev pub NoneIsNamed : Operations → List ℕ → Type 0
NoneIsNamed operations name = (place : ℕ) (begun : Begun) → IsNamed operations name place begun → ⊥

-- it is a read of a newest row, and open
abbrev pub IsOpenRead : Begun → Type 0
IsOpenRead begun = (client : ℕ) × (draw : ℕ) × (handle : List ℕ) × (nonce : List ℕ) × (begun.task ≡ Newest client draw handle nonce) × (is_open begun.progress ≡ true)

-- One more was begun, and the name means it.
pub record HasMore (old new : Operations) (name : List ℕ) (begun : Begun) : Type 0 where
  pub all : new.all ≡ old.all ++ begun ∷ []
  pub names : means new.names ≡ with_name (means old.names) name (length old.all)
  pub open_from : new.open_from ≡ old.open_from

-- An operation for the task that made no call yet, and begins with this chain.
abbrev pub IsFresh : ViewChain → Task → Progress → Type 0
IsFresh chain (Own client draw entry) (InEntry state) = ((accepts : Accepts) → Sound accepts (ask_for entry) chain state []) × (is_entry_live state ≡ true)
IsFresh chain (Newest client draw handle nonce) (InNewest state) =
    ((accepts : Accepts) → LatestSound accepts (record { handle = handle; nonce = nonce }) chain state []) × (is_latest_live state ≡ true)
IsFresh chain (Height client handle height) (InEntry state) = ((accepts : Accepts) → Sound accepts (ReadAt handle height) chain state []) × (is_entry_live state ≡ true)
IsFresh chain (Own client draw entry) Closed = ⊥
IsFresh chain (Own client draw entry) (InNewest state) = ⊥
IsFresh chain (Newest client draw handle nonce) Closed = ⊥
IsFresh chain (Newest client draw handle nonce) (InEntry state) = ⊥
IsFresh chain (Height client handle height) Closed = ⊥
IsFresh chain (Height client handle height) (InNewest state) = ⊥

-- Such a one was begun, open, under this name.
pub record HasBegun (old new : Operations) (name : List ℕ) (task : Task) (label : List ℕ) (chain : ViewChain) : Type 0 where
  pub progress : Progress
  pub fresh : IsFresh chain task progress
  pub more : HasMore old new name (record { task = task; label = label; progress = progress })

-- how far a new ledger or an append has come
abbrev pub state_of : OwnRun → EntryState
state_of (runs.New op) = op
state_of (runs.Append op) = op

abbrev pub own_progress : Option OwnRun → Progress
own_progress None = Closed
own_progress (Some run) = InEntry (state_of run)

abbrev pub height_progress : Option EntryState → Progress
height_progress None = Closed
height_progress (Some state) = InEntry state

abbrev pub newest_progress : Option LatestState → Progress
newest_progress None = Closed
newest_progress (Some state) = InNewest state

-- what contracts see of an operation
abbrev pub begun_of : Operation → Begun
begun_of (kinds.Own operation) = record {
  task = Own operation.asked.client operation.asked.draw (bare operation.asked.entry);
  label = operation.asked.label.bytes;
  progress = own_progress operation.running;
}
begun_of (kinds.Newest operation) = record {
  task = Newest operation.asked.client operation.asked.draw operation.asked.handle operation.asked.nonce;
  label = operation.asked.label.bytes;
  progress = newest_progress operation.running;
}
begun_of (kinds.Height operation) = record {
  task = Height operation.asked.client operation.asked.handle operation.asked.height;
  label = operation.asked.label.bytes;
  progress = height_progress operation.running;
}
