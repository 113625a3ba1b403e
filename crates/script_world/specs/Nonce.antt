-- The nonces of a run, by their numbers.
use Rattle.std.specs.Prelude.{ℕ, ◌++◌, List, replicate}
use Rattle.std.specs.Int.{to_be_bytes, w64}

-- the nonce of this number: the number in 16 bytes, big-endian
abbrev pub nonce : ℕ → List ℕ
nonce number = replicate 8 0 ++ to_be_bytes w64 number
