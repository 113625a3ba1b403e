-- What the calls of a round show.
use Rattle.std.specs.Prelude.{◌≡◌, ◌⊎◌, ℕ, ◌<◌, true, List, [], ◌∷◌, ◌++◌}
use Rattle.statement.specs.declared.member.Member.{Member}
use Rattle.statement.specs.Mark.{Content as Mark}
use Rattle.statement.specs.Statement.{statement_bytes}
use Rattle.port.specs.declared.key.Key.TheVariants as keys
use Rattle.port.specs.declared.store_answers.Got.TheVariants as gots
use Rattle.port.specs.Answer.{Signed, Refused, Behind}
use Rattle.port.specs.Call.{Call, Append}
use Rattle.port.specs.Cause.{MemberCause, Denied}
use Rattle.port.specs.GoodRow.{IsGoodRow}
use Rattle.port.specs.Heard.{Answered}
use Rattle.port.specs.Row.{Content}
use Rattle.port.specs.Store.{Get, WasGot}
use Rattle.port.specs.Stored.{Stored}
use Rattle.port.specs.Trace.{Event, AtStore, AtLink, Had}
use Rattle.catch_up.specs.Told.{told}
use Rattle.catch_up.specs.OwnCalls.{append_of}
use Rattle.view_ledger.specs.Receipts.{Accepts}
use Rattle.op_parts.specs.RoundAsking.{Asking, claim, append_to}
use Rattle.op_parts.specs.RoundOutcome.{held}
use Rattle.op_parts.specs.RoundSound.{IsMember}

-- the append of the row, or of a good row below it that the store gave in these calls
abbrev pub IsOwnAppend : Asking → List Event → Call → Type 0
IsOwnAppend ask events call =
    (call ≡ append_of ask.handle ask.block)
    ⊎ ((height : ℕ) × (stored : Stored) × (row : Content) × (height < ask.block.height)
    × Had events (AtStore (Get (keys.Row ask.handle height)) (WasGot (gots.Some stored))) × IsGoodRow ask.handle height stored.body row
    × (call ≡ append_of ask.handle row.metablock))

-- a get of a row of the ledger below the own one, or such an append to a member of the view
abbrev pub IsOwnCall : Asking → List Event → Event → Type 0
IsOwnCall ask events (AtStore call answer) = (height : ℕ) × (height < ask.block.height) × (call ≡ Get (keys.Row ask.handle height))
IsOwnCall ask events (AtLink id call heard) =
    ((place : ℕ) × (member : Member) × IsMember ask place member × (id ≡ member.id)) × IsOwnAppend ask events call

-- a member answered the row's append with this signature, which is accepted under its key, over the claim
abbrev pub IsMarkShown : Accepts → Asking → List Event → Mark → Type 0
IsMarkShown accepts ask events mark =
    (place : ℕ) × (member : Member) × IsMember ask place member × (mark.id ≡ member.id)
    × (accepts member.key (statement_bytes (held (claim ask))) mark.sig ≡ true)
    × Had events (append_to ask mark.id (Answered (Signed (held (claim ask)) mark.sig)))

-- each of these ids stands in one of the two lists, and no other in either, and their order is kept
abbrev pub AreParted : List ℕ → List ℕ → List ℕ → Type 0
AreParted [] marked blamed = (marked ≡ []) × (blamed ≡ [])
AreParted (id ∷ ids) marked blamed =
    ((others : List ℕ) × (marked ≡ id ∷ others) × AreParted ids others blamed)
    ⊎ ((others : List ℕ) × (blamed ≡ id ∷ others) × AreParted ids marked others)

-- Where the reason is that the member is behind, this answers an append at the count that it had told last.
abbrev pub IsToldBehind : List Event → ℕ → MemberCause → Type 0
IsToldBehind events id (Denied (Behind count)) =
    (newer older : List Event) × (handle prev entry : List ℕ) × (height : ℕ)
    × (events ≡ newer ++ AtLink id (Append handle prev entry height) (Answered (Refused (Behind count))) ∷ older)
    × (count < height) × ((before : ℕ) → told id before older ≡ height)
IsToldBehind events id cause = Unit {0}
