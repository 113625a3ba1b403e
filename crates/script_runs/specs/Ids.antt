-- The ids of a run's endorsers.
use Rattle.std.specs.Prelude.{ℕ, ◌≤◌, List}
use Rattle.std.specs.List.{range_with_len}

-- 1 to 64
unfoldable pub all_ids : List ℕ
all_ids = range_with_len 1 64

abbrev pub IsId : ℕ → Type 0
IsId id = (1 ≤ id) × (id ≤ 64)
