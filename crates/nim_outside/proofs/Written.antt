-- What a writer takes, piece by piece.
use Rattle.std.proofs.Common.{◌≡◌, ℕ, List, ◌++◌, length, take, drop, Option, sym, ap, subst, ◌∙◌, append_assoc, take-append-drop, refl}
use Rattle.std.specs.Io.KnownBytes.{Appends}
use Rattle.std.proofs.lemmas.List.{take_at}

-- so far the writer has taken the front of all bytes, and the rest is left
pub record Taken (old now : Option (List ℕ)) (all rest : List ℕ) : Type 0 where
  pub done : List ℕ
  pub split : all ≡ done ++ rest
  pub wrote : Appends old now done

pub front : (old now : Option (List ℕ)) (all rest : List ℕ) → Taken old now all rest → (n : ℕ) × Appends old now (take n all)
front old now all rest taken = (
  length taken.done,
  subst (λ (bs : List ℕ). Appends old now bs) (sym (ap (take (length taken.done)) taken.split ∙ take_at taken.done rest (length taken.done) refl)) taken.wrote,
)

pub split_later : (done rest all : List ℕ) (n : ℕ) → all ≡ done ++ rest → all ≡ (done ++ take n rest) ++ drop n rest
split_later done rest all n split = split ∙ ap (λ l. done ++ l) (sym (take-append-drop n rest)) ∙ sym (append_assoc done (take n rest) (drop n rest))
