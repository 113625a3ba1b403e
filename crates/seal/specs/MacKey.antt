-- What stands in for the attested key of an id: its secret, its key, and its signatures.
use Rattle.std.specs.Prelude.{ℕ, List, ◌∷◌}
use Rattle.std.specs.Int.{w32, to_be_bytes}
use Rattle.sha2.specs.Sha256.{sha256}
use Rattle.seal.specs.Hmac.{hmac}

-- 41, id (4)
abbrev pub secret_text : ℕ → List ℕ
secret_text id = 0x41 ∷ to_be_bytes w32 id

abbrev pub secret_of : ℕ → List ℕ
secret_of id = sha256 (secret_text id)

-- 40, secret (32)
abbrev pub key_text : List ℕ → List ℕ
key_text secret = 0x40 ∷ secret

abbrev pub key_of_secret : List ℕ → List ℕ
key_of_secret secret = sha256 (key_text secret)

-- the key of an id
abbrev pub mac_key : ℕ → List ℕ
mac_key id = key_of_secret (secret_of id)

-- the signature of an id over bytes
abbrev pub mac : ℕ → List ℕ → List ℕ
mac id bytes = hmac (secret_of id) bytes
