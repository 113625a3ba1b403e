-- What a calm service answers to whole calls, and what it is then.
use Rattle.std.specs.Prelude.{◌≡◌, ◌≢◌, ◌⊎◌, ℕ, ◌+◌, ◌<◌, ◌≤◌, List, [], ◌∷◌, ◌++◌, length, Option, Some, None, Result, Ok, Err}
use Rattle.chain_block.specs.declared.entry.Entry.{Entry}
use Rattle.chain_block.specs.Entry.{handle_of, height_of}
use Rattle.statement.specs.declared.statement.Statement.TheVariants as statements
use Rattle.port.specs.Cause.{Cause, Conflict, Gap, Full, NoMemory}
use Rattle.port.specs.Contents.{Contents}
use Rattle.port.specs.Link.{Bank}
use Rattle.port.specs.Reply.{Standing, LatestReply}
use Rattle.port.specs.Row.{Content}
use Rattle.view_ledger.specs.Views.{newest_tail}
use Rattle.calm.specs.Ledgers.{tail_of, row_above}
use Rattle.calm.specs.Calm.{ServiceState, IsCalm, with_next}

-- what stands in the store and the endorsers after a call, and how many stamps and signatures each of these has left then
pub record Later : Type 0 where
  pub contents : Contents
  pub bank : Bank
  pub left : ℕ

-- nothing else stands than before, and the service is calm
abbrev pub StaysCalm : ServiceState → Later → Type 0
StaysCalm service later = (later.contents ≡ service.contents) × IsCalm (record service { bank = later.bank; left = later.left })

-- the entry stands on top of its ledger besides, and the service is calm
abbrev pub GrowsCalm : ServiceState → Entry → Later → Type 0
GrowsCalm service entry later = IsCalm (with_next service (handle_of entry) entry later.contents later.bank later.left)

-- the entry stands in the ledger above so many others
abbrev pub StandsAt : List Entry → List Entry → Entry → Type 0
StandsAt entries below entry = (above : List Entry) × (entries ≡ below ++ entry ∷ above)

-- the row of the entry above these, with its own receipt
abbrev pub IsOwnRow : List Entry → Entry → Standing → Type 0
IsOwnRow below entry standing = (standing.row ≡ row_above below entry) × (standing.chain ≡ [])

-- The entry came next and stands now, or it stood already; another one stands at its height; the height is above the count.
abbrev pub CalmAppend : ServiceState → Entry → Result Standing Cause → Later → Type 0
CalmAppend service entry (Ok standing) later =
    ((height_of entry ≡ length (service.ledgers (handle_of entry))) × IsOwnRow (service.ledgers (handle_of entry)) entry standing × GrowsCalm service entry later)
    ⊎ ((below : List Entry) × StandsAt (service.ledgers (handle_of entry)) below entry × (height_of entry ≡ length below) × IsOwnRow below entry standing × StaysCalm service later)
CalmAppend service entry (Err (Conflict standing)) later =
    (below : List Entry) × (other : Entry) × StandsAt (service.ledgers (handle_of entry)) below other × (height_of entry ≡ length below) × (other ≢ entry)
    × IsOwnRow below other standing × StaysCalm service later
CalmAppend service entry (Err (Gap handle missing)) later =
    (handle ≡ handle_of entry) × (height_of entry ≡ missing + 1) × (length (service.ledgers (handle_of entry)) ≤ missing) × StaysCalm service later
CalmAppend service entry (Err NoMemory) later = Unit {0}
CalmAppend service entry (Err cause) later = ⊥

-- the ledger of this first entry has no entry, or that one is its first
abbrev pub IsFirstOrNone : ServiceState → Entry → Type 0
IsFirstOrNone service entry =
    (service.ledgers (handle_of entry) ≡ []) ⊎ ((above : List Entry) × (service.ledgers (handle_of entry) ≡ entry ∷ above))

-- The ledger was made, where there was room for one, or it has this first entry already; or there was no room.
abbrev pub CalmNew : ServiceState → Entry → Result Standing Cause → Later → Type 0
CalmNew service entry (Ok standing) later =
    IsOwnRow [] entry standing
    × (((service.ledgers (handle_of entry) ≡ []) × (length service.rows < 4096) × GrowsCalm service entry later)
    ⊎ ((above : List Entry) × (service.ledgers (handle_of entry) ≡ entry ∷ above) × StaysCalm service later))
CalmNew service entry (Err (Full member)) later = (service.ledgers (handle_of entry) ≡ []) × (length service.rows ≡ 4096)
CalmNew service entry (Err NoMemory) later = Unit {0}
CalmNew service entry (Err cause) later = ⊥

-- the entry at the height stands, or the height isn't below the count
abbrev pub CalmAt : ServiceState → List ℕ → ℕ → Result Standing Cause → Later → Type 0
CalmAt service handle height (Ok standing) later =
    (below : List Entry) × (entry : Entry) × StandsAt (service.ledgers handle) below entry × (height ≡ length below) × IsOwnRow below entry standing × StaysCalm service later
CalmAt service handle height (Err (Gap ledger missing)) later =
    (ledger ≡ handle) × (missing ≡ height) × (length (service.ledgers handle) ≤ height) × StaysCalm service later
CalmAt service handle height (Err NoMemory) later = Unit {0}
CalmAt service handle height (Err cause) later = ⊥

-- the row of the newest entry, or none where there is no entry
abbrev pub IsNewestRow : List Entry → Option Content → Type 0
IsNewestRow entries None = entries ≡ []
IsNewestRow entries (Some row) = (below : List Entry) × (entry : Entry) × (entries ≡ below ++ entry ∷ []) × (row ≡ row_above below entry)

-- what is signed is the tail and count of the ledger, for the nonce
abbrev pub CalmLatest : ServiceState → List ℕ → List ℕ → Result LatestReply Cause → Later → Type 0
CalmLatest service handle nonce (Ok reply) later =
    (reply.receipt.statement ≡ statements.Latest (newest_tail service.configs) handle (tail_of (service.ledgers handle)) (length (service.ledgers handle)) nonce)
    × IsNewestRow (service.ledgers handle) reply.row × StaysCalm service later
CalmLatest service handle nonce (Err NoMemory) later = Unit {0}
CalmLatest service handle nonce (Err cause) later = ⊥
