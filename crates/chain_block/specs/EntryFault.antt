-- What is wrong with bytes that are to be an entry: the first cause that applies, or None.
use Rattle.std.specs.Prelude.{◌≡◌, ℕ, List, [], ◌∷◌, length, Option, Some, None, ◌-◌, ◌+◌, ◌==◌, ◌&&◌, nat_lt, nat_le, if◌then◌else◌, slice_range, Result, Err, IsOkUnless, MatchOption}
use Rattle.std.specs.Int.{Width, w32, w64, byte_len, from_be_bytes}
use Rattle.chain_block.specs.declared.entry.TheConstants.{MAX_PAYLOAD, MAX_HEIGHT}
use Rattle.chain_block.specs.declared.entry_fault.EntryFault.{EntryFault}
use Rattle.chain_block.specs.declared.entry_fault.EntryFault.TheVariants.{Short, Kind, Height, Length, Trailing, NoMemory}

-- the number whose bytes begin at this place
abbrev pub number_at : Width → ℕ → List ℕ → ℕ
number_at w at bytes = from_be_bytes w (slice_range bytes at (at + byte_len w))

-- a payload is stated to have so many bytes, and so many bytes are left
unfoldable pub payload_fault : ℕ → ℕ → Option EntryFault
payload_fault stated left =
    if nat_lt MAX_PAYLOAD stated then Some Length
    else (if nat_lt left stated then Some Short
    else (if nat_lt stated left then Some Trailing else None))

-- behind 01: nonce (16), length of the payload (4), payload
unfoldable pub genesis_fault : List ℕ → Option EntryFault
genesis_fault bytes =
    if nat_lt (length bytes) 20 then Some Short
    else payload_fault (number_at w32 16 bytes) (length bytes - 20)

-- behind 02: handle (32), height (8), nonce (16), length of the payload (4), payload
unfoldable pub later_fault : List ℕ → Option EntryFault
later_fault bytes =
    if nat_lt (length bytes) 60 then Some Short
    else (if nat_lt 0 (number_at w64 32 bytes) && nat_le (number_at w64 32 bytes) MAX_HEIGHT
    then payload_fault (number_at w32 56 bytes) (length bytes - 60) else Some Height)

abbrev pub entry_fault : List ℕ → Option EntryFault
entry_fault [] = Some Short
entry_fault (kind ∷ bytes) =
    if kind == 1 then genesis_fault bytes
    else (if kind == 2 then later_fault bytes else Some Kind)

-- the result is just the fault, or without a fault a value, unless memory runs out
abbrev pub Reports : {T : Type 0} → Option EntryFault → Result T EntryFault → Type 0
Reports fault result = MatchOption fault (IsOkUnless result NoMemory) (λ cause. result ≡ Err cause)
