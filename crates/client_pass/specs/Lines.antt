-- The lines as they are kept, with a mark at each draw that has its reply.
use Rattle.std.specs.Prelude.{◌≡◌, ℕ, Bool, true, false, if◌then◌else◌, List, length, set, slice_index_or, Option, Some, None}
use Rattle.stamp_clock.specs.Stamps.{times}
use Rattle.client_pass.specs.Act.{Line}
use Rattle.client_pass.specs.ClientList.{answered}

-- the lines, and how many more can be added without taking memory
pub record Lines : Type 0 where
  pub lines : List Line
  pub room : ℕ

-- the marks with that of a draw set, if there is one
abbrev pub marked : List Bool → Option ℕ → List Bool
marked marks None = marks
marked marks (Some draw) = set marks draw true

-- there is a mark for each line, and it is set where an accepted reply names that line
pub record AreMarked (lines : List Line) (marks : List Bool) : Type 0 where
  pub each : length marks ≡ length lines
  pub set : (number : ℕ) → times number (answered lines) ≡ (if slice_index_or marks number false then 1 else 0)
