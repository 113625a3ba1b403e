-- What the calls of an operation are.
use Rattle.std.specs.Prelude.{◌≡◌, ◌⊎◌, ℕ, List, ◌++◌}
use Rattle.statement.specs.declared.member.Member.{Member}
use Rattle.port.specs.declared.key.Key.TheVariants as keys
use Rattle.port.specs.declared.store_answers.Put.{Put}
use Rattle.port.specs.declared.store_answers.Got.{Got}
use Rattle.port.specs.GoodRow.{IsRowAt}
use Rattle.port.specs.Row.{Content}
use Rattle.port.specs.Trace.{Event, Had}
use Rattle.view_ledger.specs.Receipts.{Accepts}
use Rattle.settle.specs.Laws.{IsOwnCall as IsSettleCall}
use Rattle.op_entry.specs.Ask.{Ask, NewLedger, AppendEntry, ReadAt, ledger_of, place_of}
use Rattle.op_entry.specs.OwnRow.{row_on, get_of, put_of, get_below}
use Rattle.op_entry.specs.Standing.{settling_of}
use Rattle.op_entry.specs.Says.{IsRowKnown, IsTailBelow}

-- a get of a view, or of what ended one
abbrev pub IsRefreshGet : Event → Type 0
IsRefreshGet event = (number : ℕ) × (got : Got) × ((event ≡ get_of (keys.View number) got) ⊎ (event ≡ get_of (keys.Finals number) got))

-- the get of the row below an entry that is to be appended
abbrev pub IsBelowGet : Ask → Event → Type 0
IsBelowGet (AppendEntry entry) event = (got : Got) × (event ≡ get_below entry got)
IsBelowGet ask event = ⊥

-- the get of the own row
abbrev pub IsOwnGet : Ask → Event → Type 0
IsOwnGet ask event = (got : Got) × (event ≡ get_of (keys.Row (ledger_of ask) (place_of ask)) got)

-- the put of the own entry, on the tail below it
abbrev pub IsOwnPut : Ask → List Event → Event → Type 0
IsOwnPut (NewLedger entry) past event = (tail : List ℕ) × (put : Put) × (event ≡ put_of (row_on tail entry) put) × IsTailBelow (NewLedger entry) past tail
IsOwnPut (AppendEntry entry) past event = (tail : List ℕ) × (put : Put) × (event ≡ put_of (row_on tail entry) put) × IsTailBelow (AppendEntry entry) past tail
IsOwnPut (ReadAt handle height) past event = ⊥

-- a call of the settling of the row, which the store took or gave before it
abbrev pub IsSettlingCall : Accepts → Ask → List (List Member) → List Event → Event → Type 0
IsSettlingCall accepts ask configs past event =
    (row : Content) × (calls before : List Event) × (past ≡ calls ++ before) × IsRowAt (ledger_of ask) (place_of ask) row × IsRowKnown ask before row
    × IsSettleCall accepts (settling_of configs row) calls event

abbrev pub IsOwnCall : Accepts → Ask → List (List Member) → List Event → Event → Type 0
IsOwnCall accepts ask configs past event =
    IsRefreshGet event ⊎ (IsBelowGet ask event ⊎ (IsOwnPut ask past event ⊎ (IsOwnGet ask event ⊎ IsSettlingCall accepts ask configs past event)))

-- no call but those
abbrev pub OwnCalls : Accepts → Ask → List (List Member) → List Event → Type 0
OwnCalls accepts ask configs past = (event : Event) → Had past event → IsOwnCall accepts ask configs past event
