-- Lies that a store was told.
use Rattle.std.specs.Prelude.{Bool, true, false, if◌then◌else◌, Option, Some, None}
use Rattle.std.specs.Option.{unwrap_or}
use Rattle.std.specs.Map.{lookup}
use Rattle.port.specs.declared.key.Key.{Key}
use Rattle.port.specs.Contents.{is_same_key}
use Rattle.blob_store.specs.declared.lie.Lie.{Lie}
use Rattle.blob_store.specs.declared.lie.Lie.TheVariants as kinds
use Rattle.blob_store.specs.declared.lies.Lies.{Lies}

-- these sources, with this one of the key
abbrev pub point : (Key → Option Key) → Key → Option Key → Key → Option Key
point sources key source = λ other. if is_same_key key other then source else sources other

-- these keys that fork, and this one
abbrev pub fork : (Key → Bool) → Key → Key → Bool
fork forks key = λ other. if is_same_key key other then true else forks other

-- where gets look after a lie
abbrev pub source_after : (Key → Option Key) → Lie → Key → Option Key
source_after sources (kinds.Hide key) = point sources key None
source_after sources (kinds.Stale key from) = point sources key (Some from)
source_after sources (kinds.Fork key) = sources

-- which keys fork after a lie
abbrev pub forks_after : (Key → Bool) → Lie → Key → Bool
forks_after forks (kinds.Hide key) = forks
forks_after forks (kinds.Stale key from) = forks
forks_after forks (kinds.Fork key) = fork forks key

abbrev pub source_of : Lies → Key → Option Key
source_of lies = λ key. unwrap_or (lookup (is_same_key key) lies.sources.entries) (Some key)

abbrev pub forks_of : Lies → Key → Bool
forks_of lies = λ key. unwrap_or (lookup (is_same_key key) lies.forks.entries) false
