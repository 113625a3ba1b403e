-- HMAC over SHA-256 (RFC 2104, section 2) under a key of at most a block, which is 64 bytes.
use Rattle.std.specs.Prelude.{ℕ, ◌-◌, List, ◌++◌, length, map, replicate, bit_xor}
use Rattle.sha2.specs.Sha256.{sha256}

-- the key, filled with zeros to a block
abbrev pub key_block : List ℕ → List ℕ
key_block key = key ++ replicate (64 - length key) 0

-- each byte xor this one
abbrev pub xor_each : ℕ → List ℕ → List ℕ
xor_each pad block = map (λ byte. bit_xor byte pad) block

abbrev pub ipad : ℕ
ipad = 0x36

abbrev pub opad : ℕ
opad = 0x5C

-- H(K xor opad, H(K xor ipad, text))
abbrev pub hmac : List ℕ → List ℕ → List ℕ
hmac key bytes = sha256 (xor_each opad (key_block key) ++ sha256 (xor_each ipad (key_block key) ++ bytes))
