-- The six kinds of step, each by what it does to the pass that makes it. The sixth, close, changes nothing: it
-- ends the clock.
use Rattle.std.specs.Prelude.{◌≡◌, ℕ, ◌+◌, ◌-◌, ◌^◌, ◌<◌, ◌≤◌, [], ◌∷◌, ◌++◌, length}
use Rattle.std.specs.List.{All}
use Rattle.atomic_table.specs.Table.{Me, Step}
use Rattle.stamp_clock.specs.declared.steps.Known.{Known}
use Rattle.stamp_clock.specs.Stamps.{NoneTwice}
use Rattle.stamp_clock.specs.Rule.{known}

-- what a step is told of the pass before or after it
abbrev pub Own : Type 0
Own = Me (Unit {0}) Known

-- stamp: the number goes to the end of the list, and left falls by one; it is above all that stood there
abbrev pub Stamped : Step (Unit {0}) → Own → ℕ → Own → Type 0
Stamped step before number after =
    (after.0 ≡ known (before.0.drawn ++ number ∷ []) (before.0.left - 1) before.0.aside)
    × (after.1 ≡ before.1)
    × All (λ earlier. earlier < number) before.0.drawn
    × NoneTwice (before.0.drawn ++ number ∷ [])
    × (number < 2 ^ 63)

-- set aside: the share goes from what is left to what is aside
abbrev pub SetAside : ℕ → Step (Unit {0}) → Own → ℕ → Own → Type 0
SetAside share step before number after =
    (after.0 ≡ known before.0.drawn (before.0.left - share) (before.0.aside + share))
    × (after.1 ≡ before.1)

-- split: the pass has nothing aside any more, and a new one, which drew nothing, has it left
abbrev pub without_aside : Known → Known
without_aside pass = known pass.drawn pass.left 0

abbrev pub split_off : Known → Known
split_off pass = known [] pass.aside 0

-- join: the pass has what both had, and the other has nothing
abbrev pub joined : Known → Known → Known
joined pass other = known (pass.drawn ++ other.drawn) (pass.left + other.left) (pass.aside + other.aside)

abbrev pub spent : Known
spent = known [] 0 0

-- give back: what is aside is left again; and it shows that no number stands twice in the list, and that what was
-- drawn and what is left are 2^63 together at most
abbrev pub GaveBack : Step (Unit {0}) → Own → ℕ → Own → Type 0
GaveBack step before number after =
    (after.0 ≡ known before.0.drawn (before.0.left + before.0.aside) 0)
    × (after.1 ≡ before.1)
    × (length before.0.drawn + (before.0.left + before.0.aside) ≤ 2 ^ 63)
    × NoneTwice before.0.drawn
