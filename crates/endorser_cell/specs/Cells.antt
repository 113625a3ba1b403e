-- Cells by the ids of their endorsers. Where an id stands twice, the first cell is meant.
use Rattle.std.specs.Prelude.{◌≡◌, ℕ, ◌==◌, ◌<◌, if◌then◌else◌, List, [], ◌∷◌, length, get_or, slice_set, Option, Some, None}
use Rattle.endorser_cell.specs.declared.losses.Losses.{Losses}
use Rattle.endorser_cell.specs.EndorserCell.{EndorserCell}

abbrev pub cell_of : {S C : Type 0} → List (EndorserCell S C) → ℕ → Option (EndorserCell S C)
cell_of [] id = None
cell_of (cell ∷ cells) id = if cell.endorser.id == id then Some cell else cell_of cells id

-- the cells with this one in the place of that of the id
abbrev pub put_cell : {S C : Type 0} → List (EndorserCell S C) → ℕ → EndorserCell S C → List (EndorserCell S C)
put_cell [] id next = []
put_cell (cell ∷ cells) id next = if cell.endorser.id == id then next ∷ cells else cell ∷ put_cell cells id next

-- the cell of the id stands at this place
pub record IsPlaceOf {S C : Type 0} (cells : List (EndorserCell S C)) (id place : ℕ) : Type 0 where
  pub in_range : place < length cells
  pub found : (other : EndorserCell S C) → cell_of cells id ≡ Some (get_or cells place other)
  pub set : (next : EndorserCell S C) → slice_set cells place next ≡ put_cell cells id next

-- a number of an endorser's losses, 0 where there is no such endorser
abbrev pub count_of : {S C : Type 0} → (Losses → ℕ) → Option (EndorserCell S C) → ℕ
count_of count None = 0
count_of count (Some cell) = count cell.losses
