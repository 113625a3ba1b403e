-- The texts that lead to a key.
use Rattle.std.proofs.Common.{refl}
use Rattle.std.specs.Prelude.{◌≡◌, ℕ, List, [], ◌∷◌, ◌++◌}
use Rattle.sha2.specs.Sha256.{sha256}
use Rattle.seal.specs.MacKey.{secret_text, secret_of, key_text, mac_key}

-- the key is the digest of the last of the texts
abbrev pub Leads : List (List ℕ) → List ℕ → Type 0
Leads texts key = (before : List (List ℕ)) × (last : List ℕ) × (texts ≡ before ++ last ∷ []) × (key ≡ sha256 last)

-- the texts of a stand-in's secret and of its key
abbrev pub mac_texts : ℕ → List (List ℕ)
mac_texts id = secret_text id ∷ key_text (secret_of id) ∷ []

pub mac_texts_lead : (id : ℕ) → Leads (mac_texts id) (mac_key id)
mac_texts_lead id = (secret_text id ∷ [], key_text (secret_of id), refl, refl)
