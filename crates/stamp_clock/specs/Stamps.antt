-- What contracts see of a pass, and lists in which numbers stand once.
use Rattle.std.specs.Prelude.{◌≡◌, ℕ, ◌+◌, ◌≤◌, List, [], ◌∷◌, ltb, eqb, cond}

-- the stamps that a pass drew, in order, and how many it may still draw
pub record Stamps : Type 0 where
  pub drawn : List ℕ
  pub left : ℕ

abbrev pub stamps : List ℕ → ℕ → Stamps
stamps drawn left = record { drawn = drawn; left = left }

-- how often the number stands in the list
abbrev pub times : ℕ → List ℕ → ℕ
times number [] = 0
times number (x ∷ xs) = cond (eqb x number) 1 0 + times number xs

-- 1 for a number below the count, and 0 for all others
abbrev pub below : ℕ → ℕ → ℕ
below count number = cond (ltb number count) 1 0

-- the list has the numbers from 0 up to the count, each once, in some order
abbrev pub EachOnce : List ℕ → ℕ → Type 0
EachOnce numbers count = (number : ℕ) → times number numbers ≡ below count number

-- no number stands twice in the list
abbrev pub NoneTwice : List ℕ → Type 0
NoneTwice numbers = (number : ℕ) → times number numbers ≤ 1
