-- What stands in a store, as a map by keys.
use Rattle.std.specs.Prelude.{ℕ, ◌==◌, ◌&&◌, Bool, false, if◌then◌else◌, List, bytes_eq, Option, Some, None}
use Rattle.port.specs.declared.key.Key.{Key}
use Rattle.port.specs.declared.key.Key.TheVariants.{Row, View, Finals}
use Rattle.port.specs.Stored.{Stored}

-- what stands at each key
abbrev pub Contents : Type 0
Contents = Key → Option Stored

abbrev pub is_same_key : Key → Key → Bool
is_same_key (Row handle height) (Row other k) = bytes_eq handle other && (height == k)
is_same_key (View number) (View other) = number == other
is_same_key (Finals number) (Finals other) = number == other
is_same_key key other = false

-- nothing
abbrev pub nothing : Contents
nothing = λ key. None

-- these contents, with this one at the key
abbrev pub put : Contents → Key → Stored → Contents
put contents key stored = λ other. if is_same_key key other then Some stored else contents other

-- a body to which nothing is attached
abbrev pub fresh : List ℕ → Stored
fresh body = record { body = body; attached = None }

-- the same body with these bytes attached
abbrev pub with_attached : Stored → List ℕ → Stored
with_attached stored bytes = record { body = stored.body; attached = Some bytes }
