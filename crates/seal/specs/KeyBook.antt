-- What a book of ids accepts.
use Rattle.std.specs.Prelude.{◌≡◌, ℕ, Bool, ◌&&◌, List, Contains, bytes_eq}
use Rattle.std.specs.List.{list_any}
use Rattle.seal.specs.MacKey.{mac_key, mac}

-- whether this is the key of the id, and this its signature over the bytes
abbrev pub is_signed_by : ℕ → List ℕ → List ℕ → List ℕ → Bool
is_signed_by id key bytes sig = bytes_eq (mac_key id) key && bytes_eq (mac id bytes) sig

-- whether it is so for one of the ids
abbrev pub book_accepts : List ℕ → List ℕ → List ℕ → List ℕ → Bool
book_accepts ids key bytes sig = list_any (λ id. is_signed_by id key bytes sig) ids

-- one of the ids has this key, and this signature over the bytes
abbrev pub IsSignedByOne : List ℕ → List ℕ → List ℕ → List ℕ → Type 0
IsSignedByOne ids key bytes sig = (id : ℕ) × Contains ids id × (key ≡ mac_key id) × (sig ≡ mac id bytes)
