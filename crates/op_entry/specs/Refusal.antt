-- Why an operation was refused at a call, but for its settling.
use Rattle.std.specs.Prelude.{◌≡◌, ℕ, List, length, Some, None}
use Rattle.port.specs.declared.key.Key.TheVariants as keys
use Rattle.port.specs.declared.store_answers.Put.{Put}
use Rattle.port.specs.declared.store_answers.Put.TheVariants as puts
use Rattle.port.specs.declared.store_answers.Got.{Got}
use Rattle.port.specs.declared.store_answers.Got.TheVariants as gots
use Rattle.port.specs.Cause.{Cause, StoreFault, Gap, BadRow, NoMemory}
use Rattle.port.specs.GoodRow.{IsBadRow}
use Rattle.port.specs.Row.{Content}
use Rattle.port.specs.Stored.{Stored}
use Rattle.port.specs.Trace.{Event}
use Rattle.view_ledger.specs.Views.{ViewChain}
use Rattle.view_ledger.specs.Receipts.{Accepts}
use Rattle.op_parts.specs.RefreshState.{RefreshState, AtView, AtFinals, AtEnd}
use Rattle.op_parts.specs.RefreshSays.{IsRefusedAtView, IsRefusedAtFinals}
use Rattle.op_entry.specs.OwnRow.{IsOutOfPlace, key_of}

-- memory was wanted, which may be at any call, or the cause is one of these
abbrev pub OrMemory : (Cause → Type 0) → Cause → Type 0
OrMemory P NoMemory = Unit {0}
OrMemory P cause = P cause

-- a refresh in this state was refused by this call
abbrev pub IsRefreshRefused : Accepts → ViewChain → RefreshState → Event → Cause → Type 0
IsRefreshRefused accepts chain AtView event cause = IsRefusedAtView (length chain.configs) event cause
IsRefreshRefused accepts chain (AtFinals body block config) event cause = IsRefusedAtFinals accepts chain body block config event cause
IsRefreshRefused accepts chain AtEnd event cause = ⊥

-- the store gave these bytes
abbrev pub GaveBytes : Got → List ℕ → Type 0
GaveBytes got bytes = (stored : Stored) × (got ≡ gots.Some stored) × (stored.body ≡ bytes)

-- What the store gave for the row of the ledger at the height is none that stands there: it failed; there is none; these bytes
-- aren't that row's.
abbrev pub IsRowRefused : List ℕ → ℕ → Got → Cause → Type 0
IsRowRefused handle height got StoreFault = got ≡ gots.Failed
IsRowRefused handle height got (Gap ledger missing) = (ledger ≡ handle) × (missing ≡ height) × (got ≡ gots.None)
IsRowRefused handle height got (BadRow key (Some bytes)) = (key ≡ keys.Row handle height) × GaveBytes got bytes × IsBadRow handle height bytes
IsRowRefused handle height got cause = ⊥

-- the put failed
abbrev pub IsPutRefused : Put → Cause → Type 0
IsPutRefused put StoreFault = put ≡ puts.Failed
IsPutRefused put cause = ⊥

-- What the store gave for the own row, whose place it had called taken: it failed; there is none; these bytes are no row's that
-- may stand in its place.
abbrev pub IsTakenRefused : Content → Got → Cause → Type 0
IsTakenRefused own got StoreFault = got ≡ gots.Failed
IsTakenRefused own got (BadRow key None) = (key ≡ key_of own) × (got ≡ gots.None)
IsTakenRefused own got (BadRow key (Some bytes)) = (key ≡ key_of own) × GaveBytes got bytes × IsOutOfPlace own bytes
IsTakenRefused own got cause = ⊥
