-- A latest read's own calls.
use Rattle.std.specs.Prelude.{◌≡◌, ◌⊎◌, ℕ, List, [], ◌∷◌}
use Rattle.port.specs.declared.key.Key.TheVariants as keys
use Rattle.port.specs.declared.store_answers.Got.TheVariants as gots
use Rattle.port.specs.Answer.{Answer}
use Rattle.port.specs.Call.{Append, Latest}
use Rattle.port.specs.Cause.{HadAnswer, TellsCount}
use Rattle.port.specs.GoodRow.{IsGoodRow}
use Rattle.port.specs.Heard.{Heard}
use Rattle.port.specs.Row.{Content}
use Rattle.port.specs.Store.{StoreCall, Get, WasGot}
use Rattle.port.specs.Stored.{Stored}
use Rattle.port.specs.Trace.{Event, AtStore, AtLink, Had}
use Rattle.view_ledger.specs.Receipts.{Accepts}
use Rattle.op_latest.specs.LatestAsked.{Asking, latest_to}
use Rattle.op_latest.specs.LatestSays.{IsIdIn, IsTargetCount}

-- the member wasn't asked before, or it has told the target's count
abbrev pub MayBeAsked : Accepts → Asking → List Event → ℕ → Type 0
MayBeAsked accepts ask past id =
    ((heard : Heard) → Had past (latest_to ask id heard) → ⊥)
    ⊎ ((count : ℕ) × (answer : Answer) × IsTargetCount accepts ask past count × HadAnswer past id answer × TellsCount answer count)

-- the store gave in these calls the ledger's good row at the height, which has this tail below it and this entry
abbrev pub GaveRow : List Event → List ℕ → List ℕ → List ℕ → ℕ → Type 0
GaveRow past handle prev entry height =
    (stored : Stored) × (row : Content) × Had past (AtStore (Get (keys.Row handle height)) (WasGot (gots.Some stored)))
    × IsGoodRow handle height stored.body row × (prev ≡ row.metablock.prev) × (entry ≡ row.metablock.entry)

-- a get of a view, of what ended one, or of a row of the ledger
abbrev pub IsOwnGet : List ℕ → StoreCall → Type 0
IsOwnGet ledger (Get (keys.View number)) = Unit {0}
IsOwnGet ledger (Get (keys.Finals number)) = Unit {0}
IsOwnGet ledger (Get (keys.Row handle height)) = handle ≡ ledger
IsOwnGet ledger call = ⊥

-- A call that may be made after these: such a get; the read, of a member of the newest view; and the append of a row of the
-- ledger to such a member.
abbrev pub IsOwnCall : Accepts → Asking → List Event → Event → Type 0
IsOwnCall accepts ask past (AtStore call answer) = IsOwnGet ask.claim.handle call
IsOwnCall accepts ask past (AtLink id (Latest handle nonce) heard) =
    IsIdIn ask id × (handle ≡ ask.claim.handle) × (nonce ≡ ask.claim.nonce) × MayBeAsked accepts ask past id
IsOwnCall accepts ask past (AtLink id (Append handle prev entry height) heard) =
    IsIdIn ask id × (handle ≡ ask.claim.handle) × GaveRow past handle prev entry height
IsOwnCall accepts ask past event = ⊥

-- no call but those
abbrev pub OwnCalls : Accepts → Asking → List Event → Type 0
OwnCalls accepts ask [] = Unit {0}
OwnCalls accepts ask (event ∷ past) = IsOwnCall accepts ask past event × OwnCalls accepts ask past
