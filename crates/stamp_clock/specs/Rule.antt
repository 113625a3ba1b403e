-- What holds of a clock's word and of all its passes between any two steps.
use Rattle.std.specs.Prelude.{◌≡◌, ℕ, ◌+◌, ◌^◌, List, [], ◌∷◌, length}
use Rattle.atomic_table.specs.Table.{State}
use Rattle.stamp_clock.specs.declared.steps.Known.{Known}
use Rattle.stamp_clock.specs.Stamps.{times, below}

-- what is known of a pass: the stamps that it drew, how many it has left, how many it has set aside
abbrev pub known : List ℕ → ℕ → ℕ → Known
known drawn left aside = record { drawn = drawn; left = left; aside = aside }

-- the sum over a list
abbrev pub total : {A : Type 0} → (A → ℕ) → List A → ℕ
total f [] = 0
total f (x ∷ xs) = f x + total f xs

-- each number below the word stands once in the lists of all passes together, and no other number in any; the
-- lists have as many numbers as the word says; the word and what all passes have left or aside are 2^63 together
pub record IsKept (word : ℕ) (passes : List Known) : Type 0 where
  pub each : (number : ℕ) → total (λ (pass : Known). times number pass.drawn) passes ≡ below word number
  pub drawn : total (λ (pass : Known). length pass.drawn) passes ≡ word
  pub whole : word + total (λ (pass : Known). pass.left + pass.aside) passes ≡ 2 ^ 63

-- a clock is one word and its passes
abbrev pub Holds : State (Unit {0}) Known → Type 0
Holds state = (word : ℕ) × (state.words ≡ word ∷ []) × IsKept word state.views
