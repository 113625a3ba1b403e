-- What a read from the front of some bytes answers and leaves.
use Rattle.std.specs.Prelude.{◌≡◌, ◌<◌, ℕ, List, ◌++◌, length, Option, MatchOption}

-- A read of n bytes took them from the front, and `shows` ties its answer to them. It answers None exactly
-- where fewer are left, and then nothing moved.
abbrev pub Takes : {T : Type 0} → ℕ → (List ℕ → T → Type 0) → List ℕ → List ℕ → Option T → Type 0
Takes n shows old new result =
    MatchOption result ((length old < n) × (new ≡ old)) (λ value. (bytes : List ℕ) × (length bytes ≡ n) × (old ≡ bytes ++ new) × shows bytes value)
