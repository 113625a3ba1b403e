-- What a call over a handed-in object may answer, and why.
use Rattle.std.specs.Prelude.{ℕ, ◌+◌, ◌-◌, ◌^◌, ◌≤◌, min, List, take, Option, Result, MatchResult, OnErr}
use Rattle.std.specs.Io.KnownBytes.{Appends}

-- a count of 64 bits, one further; at the last number it stands still
abbrev pub counted : ℕ → ℕ
counted n = min (n + 1) (2 ^ 64 - 1)

-- the count has gone up, or stands at its last number
abbrev pub Rose : ℕ → ℕ → Type 0
Rose before now = counted before ≤ now

-- The count of faults never falls, and the call failed only where it rose.
pub record HasCause {T E : Type 0} (before now : ℕ) (result : Result T E) : Type 0 where
  pub later : before ≤ now
  pub failed : OnErr result (Rose before now)

-- `put(bytes)` wrote all of them at `Ok`, and their first n at `Err`
abbrev pub Puts : {T E : Type 0} → Option (List ℕ) → Option (List ℕ) → Result T E → List ℕ → Type 0
Puts old new result bytes = MatchResult result (λ _. Appends old new bytes) (λ _. (n : ℕ) × Appends old new (take n bytes))
