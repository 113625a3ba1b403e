-- The bytes of what a ledger is made of, field by field.
use Rattle.std.specs.Prelude.{ℕ, List, ◌∷◌, ◌++◌, length}
use Rattle.std.specs.Int.{w32, w64, to_be_bytes}

-- 01, nonce (16), length of the payload (4), payload
abbrev pub genesis_bytes : List ℕ → List ℕ → List ℕ
genesis_bytes nonce payload = 1 ∷ nonce ++ to_be_bytes w32 (length payload) ++ payload

-- 02, handle (32), height (8), nonce (16), length of the payload (4), payload
abbrev pub later_bytes : List ℕ → ℕ → List ℕ → List ℕ → List ℕ
later_bytes handle height nonce payload = 2 ∷ handle ++ to_be_bytes w64 height ++ nonce ++ to_be_bytes w32 (length payload) ++ payload

-- 10, prev (32), digest of the entry (32), height (8)
abbrev pub metablock_bytes : List ℕ → List ℕ → ℕ → List ℕ
metablock_bytes prev entry height = 0x10 ∷ prev ++ entry ++ to_be_bytes w64 height
