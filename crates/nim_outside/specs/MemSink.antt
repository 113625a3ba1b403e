-- What contracts see of a sink in memory.
use Rattle.std.specs.Prelude.{ℕ, List}

-- the bytes written, the numbers of the calls that fail, how many calls there were, and how many of them failed
pub record Collected : Type 0 where
  pub bytes : List ℕ
  pub fails : List ℕ
  pub calls : ℕ
  pub faults : ℕ
