-- Which ledger a label means.
use Rattle.std.specs.Prelude.{ℕ, List, ◌∷◌, Option, Some, None, if◌then◌else◌}
use Rattle.std.specs.Str.{bytes_eq}
use Rattle.sha2.specs.Sha256.{sha256}

-- the handle of each label for which a first entry was made
abbrev pub Labels : Type 0
Labels = List ℕ → Option (List ℕ)

abbrev pub no_labels : Labels
no_labels label = None

abbrev pub with_label : Labels → List ℕ → List ℕ → Labels
with_label labels label handle other = if bytes_eq other label then Some handle else labels other

abbrev pub or_own : List ℕ → Option (List ℕ) → List ℕ
or_own label (Some handle) = handle
or_own label None = sha256 (0x43 ∷ label)

-- the handle that a label means: that of its first entry, or the digest of 43 in hexadecimal and the label
abbrev pub handle_for : Labels → List ℕ → List ℕ
handle_for labels label = or_own label (labels label)
