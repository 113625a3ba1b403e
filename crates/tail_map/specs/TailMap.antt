-- A map of tails as the list of its rows.
use Rattle.std.specs.Prelude.{◌≡◌, ℕ, ◌<◌, ◌≤◌, ◌^◌, Bool, false, ◌||◌, if◌then◌else◌, List, [], ◌∷◌, length, replicate, bytes_eq, ⊤}
use Rattle.std.specs.declared.cmp.Ordering.TheVariants.{Less}
use Rattle.std.specs.Cmp.Lexicographic.{slice_cmp}
use Rattle.std.specs.Ordering.{nat_cmp, match_ordering}
use Rattle.std.specs.List.{AllByRecursion}
use Rattle.tail_map.specs.declared.tail_row.TailRow.{TailRow}

-- what contracts see of a map: its rows, and how many more can be set without taking memory
pub record Content : Type 0 where
  pub rows : List TailRow
  pub room : ℕ

-- bytes in dictionary order
abbrev pub IsBelow : List ℕ → List ℕ → Type 0
IsBelow a b = slice_cmp nat_cmp a b ≡ Less

-- each handle is below all those after it
abbrev pub IsRising : List TailRow → Type 0
IsRising [] = ⊤
IsRising (row ∷ rows) = AllByRecursion (λ later. IsBelow row.handle later.handle) rows × IsRising rows

-- a count of entries that a ledger can have
abbrev pub IsCount : ℕ → Type 0
IsCount count = (0 < count) × (count ≤ 2 ^ 32)

pub record IsRow (row : TailRow) : Type 0 where
  pub handle : length row.handle ≡ 32
  pub tail : length row.tail ≡ 32
  pub count : IsCount row.count

-- the rows of a map
pub record IsMap (rows : List TailRow) : Type 0 where
  pub rising : IsRising rows
  pub each : AllByRecursion IsRow rows
  pub few : length rows ≤ 4096

-- the tail and count of a handle, zeros and 0 where it is absent
abbrev pub get : List TailRow → List ℕ → List ℕ × ℕ
get [] handle = (replicate 32 0, 0)
get (row ∷ rows) handle = if bytes_eq row.handle handle then (row.tail, row.count) else get rows handle

abbrev pub has_handle : List TailRow → List ℕ → Bool
has_handle [] handle = false
has_handle (row ∷ rows) handle = bytes_eq row.handle handle || has_handle rows handle

-- the rows with this one at the place of its handle
abbrev pub set : List TailRow → TailRow → List TailRow
set [] row = row ∷ []
set (first ∷ rows) row =
    match_ordering (slice_cmp nat_cmp first.handle row.handle) (first ∷ set rows row) (row ∷ rows) (row ∷ first ∷ rows)
