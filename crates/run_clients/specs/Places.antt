-- Places by name, as they are kept.
use Rattle.std.specs.Prelude.{◌≡◌, ℕ, List, Option}
use Rattle.std.specs.BTreeMap.{get_by}
use Rattle.std.specs.Cmp.Lexicographic.{slice_cmp}
use Rattle.std.specs.Ordering.{nat_cmp}
use Rattle.run_clients.specs.Clients.{Client, place_of}
use Rattle.run_clients.specs.declared.places.Places.{Places}

abbrev pub at : Places → List ℕ → Option ℕ
at places name = get_by (λ key. slice_cmp nat_cmp name key.items) places.map

-- each name's place is kept
abbrev pub ArePlaced : {C : Type 0} → Places → List (Client C) → Type 0
ArePlaced places clients = (name : List ℕ) → at places name ≡ place_of clients name
