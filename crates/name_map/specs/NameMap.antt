-- Values by names.
use Rattle.std.specs.Prelude.{ℕ, List, Option, Some, if◌then◌else◌}
use Rattle.std.specs.Map.{lookup}
use Rattle.std.specs.Str.{bytes_eq}

-- what a name means, if anything
abbrev pub Names : Type 0 → Type 0
Names V = List ℕ → Option V

-- what a name means by a list of names with what they mean, of which none stands twice
abbrev pub means : {V : Type 0} → List (List ℕ × V) → Names V
means entries name = lookup (bytes_eq name) entries

-- this name means that, and all others what they did
abbrev pub with_name : {V : Type 0} → Names V → List ℕ → V → Names V
with_name names name value other = if bytes_eq other name then Some value else names other
