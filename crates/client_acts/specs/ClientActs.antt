-- The clients of a run: what contracts see of them.
use Rattle.std.specs.Prelude.{◌≡◌, ℕ, List, Some, length, slice_get, slice_set}
use Rattle.std.specs.Option.{option_map_or}
use Rattle.view_ledger.specs.Views.{ViewChain}
use Rattle.view_ledger.specs.Receipts.{Accepts}
use Rattle.client_pass.specs.ClientPass.{ClientPass}
use Rattle.reply_taking.specs.Learning.{Grows}
use Rattle.client_acts.specs.declared.turn.Turn.{Turn}
use Rattle.client_acts.specs.Turns.{lines_by}

-- the chain that has view 0 alone, the clients and their names in the order in which they came, and their turns
pub record ClientActs (C : Type 0) : Type 0 where
  pub first : ViewChain
  pub names : List (List ℕ)
  pub clients : List (ClientPass C)
  pub turns : List Turn

-- this holds of each element
abbrev pub Each : {A : Type 0} → (A → Type 0) → List A → Type 0
Each {A} P xs = (place : ℕ) (x : A) → slice_get xs place ≡ Some x → P x

-- how many lines the client at a place has
abbrev pub line_count : {C : Type 0} → List (ClientPass C) → ℕ → ℕ
line_count clients place = option_map_or (λ client. length client.lines) (slice_get clients place) 0

-- each client began with view 0, and its checker accepts this
abbrev pub IsOf : {C : Type 0} → (C → Accepts) → ViewChain → Accepts → ClientPass C → Type 0
IsOf accepts first checks client = (client.first ≡ first) × (accepts client.checker ≡ checks)

-- each client is such, and each of its lines was noted in one turn
abbrev pub AreNoted : {C : Type 0} → (C → Accepts) → ViewChain → Accepts → List (ClientPass C) → List Turn → Type 0
AreNoted accepts first checks clients turns =
    Each (IsOf accepts first checks) clients × ((place : ℕ) → lines_by place turns ≡ line_count clients place)

-- the client at this place did more, and all others are as they were
pub record Acts {C : Type 0} (old new : ClientActs C) (place : ℕ) (from to : ClientPass C) : Type 0 where
  pub stood : slice_get old.clients place ≡ Some from
  pub stands : new.clients ≡ slice_set old.clients place to
  pub grows : Grows from to
  pub first : new.first ≡ old.first
  pub names : new.names ≡ old.names

-- Whatever was done: each client is where it was, with its lines and perhaps more.
pub record StaysOn {C : Type 0} (old new : ClientActs C) : Type 0 where
  pub first : new.first ≡ old.first
  pub names : new.names ≡ old.names
  pub count : length new.clients ≡ length old.clients
  pub grow : (place : ℕ) (from : ClientPass C) → slice_get old.clients place ≡ Some from
      → (to : ClientPass C) × (slice_get new.clients place ≡ Some to) × Grows from to
