-- The words that the program is called with.
use Rattle.std.specs.Prelude.{List, [], ◌∷◌, Bool, false, bytes_eq, codes}
use Rattle.nim_base.specs.Text.{Content}

-- the words are `replay` alone
abbrev pub is_replay : List Content → Bool
is_replay [] = false
is_replay (word ∷ []) = bytes_eq word.bytes (codes "replay")
is_replay (word ∷ second ∷ rest) = false
