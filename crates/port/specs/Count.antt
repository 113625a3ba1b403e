-- Counts of 64 bits.
use Rattle.std.specs.Prelude.{ℕ, ◌+◌, ◌-◌, ◌^◌, min, max}

-- one further; at the last number it stands still
abbrev pub next : ℕ → ℕ
next n = max n (min (n + 1) (2 ^ 64 - 1))
