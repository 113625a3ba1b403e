-- How long signatures are.
use Rattle.std.specs.Prelude.{ℕ, ◌≤◌}

-- from 1 to 16,384 bytes
abbrev pub IsSize : ℕ → Type 0
IsSize size = (1 ≤ size) × (size ≤ 16384)
