-- What a metablock is.
use Rattle.std.specs.Prelude.{◌≡◌, ℕ, List, length, ◌<◌, ◌^◌}

-- 32 bytes, 32 bytes and a number of eight bytes, which each metablock of the code has by its type
abbrev pub IsMetaBlock : List ℕ → List ℕ → ℕ → Type 0
IsMetaBlock prev entry height = (length prev ≡ 32) × (length entry ≡ 32) × (height < 2 ^ 64)
