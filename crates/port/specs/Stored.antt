-- What stands at a key: what contracts see of it.
use Rattle.std.specs.Prelude.{ℕ, List, Option}

-- the bytes of the body, and those that are attached
pub record Stored : Type 0 where
  pub body : List ℕ
  pub attached : Option (List ℕ)
