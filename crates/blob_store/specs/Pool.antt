-- The bytes that a pool holds.
use Rattle.std.specs.Prelude.{ℕ, Bool, List, [], ◌∷◌, ◌++◌, map, bytes_eq, if◌then◌else◌}
use Rattle.std.specs.Option.{option_map_or}
use Rattle.std.specs.List.{list_any}
use Rattle.std.specs.Map.{lookup}
use Rattle.port.specs.declared.key.Key.{Key}
use Rattle.port.specs.Contents.{is_same_key}
use Rattle.blob_store.specs.declared.pool.Pool.{Pool}

-- the bytes of a key that are held, in the order in which they came
abbrev pub held_at : Pool → Key → List (List ℕ)
held_at pool key = option_map_or (λ texts. map (λ text. text.value.bytes) texts.items) (lookup (is_same_key key) pool.texts.entries) []

-- one of these is the same
abbrev pub is_held : List (List ℕ) → List ℕ → Bool
is_held held bytes = list_any (λ one. bytes_eq one bytes) held

-- with these bytes among them, once
abbrev pub with_bytes : List (List ℕ) → List ℕ → List (List ℕ)
with_bytes held bytes = if is_held held bytes then held else held ++ bytes ∷ []
