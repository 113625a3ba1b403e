-- What an entry is, and what is read off it.
use Rattle.std.specs.Prelude.{◌≡◌, ℕ, List, length, ◌≤◌}
use Rattle.sha2.specs.Sha256.{sha256}
use Rattle.chain_block.specs.declared.entry.TheConstants.{MAX_PAYLOAD, MAX_HEIGHT}
use Rattle.chain_block.specs.declared.entry.Entry.{Entry}
use Rattle.chain_block.specs.declared.entry.Entry.TheVariants.{Genesis, Later}
use Rattle.chain_block.specs.Bytes.{genesis_bytes, later_bytes}

-- the payload is no longer than it may be, and a later entry stands above height 0 and no higher than it may
abbrev pub IsWithinLimits : Entry → Type 0
IsWithinLimits (Genesis nonce payload) = length payload.bytes ≤ MAX_PAYLOAD
IsWithinLimits (Later handle height nonce payload) = (1 ≤ height) × (height ≤ MAX_HEIGHT) × (length payload.bytes ≤ MAX_PAYLOAD)

-- within its limits, with a handle of 32 bytes and a nonce of 16, which each entry of the code has by its type
abbrev pub IsWellFormed : Entry → Type 0
IsWellFormed (Genesis nonce payload) = IsWithinLimits (Genesis nonce payload) × (length nonce ≡ 16)
IsWellFormed (Later handle height nonce payload) = IsWithinLimits (Later handle height nonce payload) × (length handle ≡ 32) × (length nonce ≡ 16)

-- of one kind, with equal fields, however much room the payloads have
abbrev pub SameEntry : Entry → Entry → Type 0
SameEntry (Genesis nonce payload) (Genesis nonce' payload') = (nonce ≡ nonce') × (payload.bytes ≡ payload'.bytes)
SameEntry (Later handle height nonce payload) (Later handle' height' nonce' payload') = (handle ≡ handle') × (height ≡ height') × (nonce ≡ nonce') × (payload.bytes ≡ payload'.bytes)
SameEntry (Genesis nonce payload) (Later handle' height' nonce' payload') = ⊥
SameEntry (Later handle height nonce payload) (Genesis nonce' payload') = ⊥

-- the same entry, with no room behind its payload
abbrev pub bare : Entry → Entry
bare (Genesis nonce payload) = Genesis nonce (record { bytes = payload.bytes; room = 0 })
bare (Later handle height nonce payload) = Later handle height nonce (record { bytes = payload.bytes; room = 0 })

abbrev pub entry_bytes : Entry → List ℕ
entry_bytes (Genesis nonce payload) = genesis_bytes nonce payload.bytes
entry_bytes (Later handle height nonce payload) = later_bytes handle height nonce payload.bytes

abbrev pub entry_digest : Entry → List ℕ
entry_digest entry = sha256 (entry_bytes entry)

-- the handle of the ledger: a first entry's own digest
abbrev pub handle_of : Entry → List ℕ
handle_of (Genesis nonce payload) = sha256 (genesis_bytes nonce payload.bytes)
handle_of (Later handle height nonce payload) = handle

abbrev pub height_of : Entry → ℕ
height_of (Genesis nonce payload) = 0
height_of (Later handle height nonce payload) = height

abbrev pub nonce_of : Entry → List ℕ
nonce_of (Genesis nonce payload) = nonce
nonce_of (Later handle height nonce payload) = nonce
