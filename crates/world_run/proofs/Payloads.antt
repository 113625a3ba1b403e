-- What an act makes of the payloads of a label.
use Rattle.std.proofs.Common.{◌≡◌, ◌∙◌, refl, sym, ap, ℕ, List, [], ◌∷◌, ◌++◌, length, Bool, true, false, cond, ◌&&◌}
use Rattle.std.specs.Prelude.{bytes_eq, ◌==◌}
use Rattle.fault_script.specs.Command.{Append}
use Rattle.world_run.specs.Plain.{Known, with_ledger, after_request}
use Rattle.world_run.proofs.Bytes.{same_bytes, bytes_eq-self, bytes_eq-swap}

abbrev appended : Known → List ℕ → List ℕ → Known
appended known own payload = with_ledger known own (known.ledgers own ++ payload ∷ [])

own_label : (known : Known) (client label payload : List ℕ) (height : ℕ) (ps : List (List ℕ)) → ps ≡ known.ledgers label → (place : Bool) → (height == length (known.ledgers label)) ≡ place
    → cond place (ps ++ payload ∷ []) ps ≡ (after_request known (Append client label height payload)).ledgers label
own_label known client label payload height ps tied true is =
    ap (λ qs. qs ++ payload ∷ []) tied
    ∙ sym (ap (λ b. (cond b (appended known label payload) known).ledgers label) is ∙ ap (λ b. cond b (known.ledgers label ++ payload ∷ []) (known.ledgers label)) (bytes_eq-self label))
own_label known client label payload height ps tied false is =
    tied ∙ sym (ap (λ b. (cond b (appended known label payload) known).ledgers label) is)

other_label : (known : Known) (client own label payload : List ℕ) (height : ℕ) → bytes_eq label own ≡ false
    → known.ledgers label ≡ (after_request known (Append client own height payload)).ledgers label
other_label known client own label payload height differ = go (height == length (known.ledgers own)) where
  go : (b : Bool) → known.ledgers label ≡ (cond b (appended known own payload) known).ledgers label
  go true = sym (ap (λ b. cond b (known.ledgers own ++ payload ∷ []) (known.ledgers label)) differ)
  go false = refl

-- an append adds a payload to its own label alone, and there where it comes next
pub payloads_more : (known : Known) (client own label payload : List ℕ) (height : ℕ) (ps : List (List ℕ)) → ps ≡ known.ledgers label
    → (same place : Bool) → bytes_eq own label ≡ same → (same ≡ true → (height == length ps) ≡ place)
    → cond (same && place) (ps ++ payload ∷ []) ps ≡ (after_request known (Append client own height payload)).ledgers label
payloads_more known client own label payload height ps tied true place is at =
    own_label known client label payload height ps tied place (ap (λ (qs : List (List ℕ)). height == length qs) (sym tied) ∙ at refl)
    ∙ ap (λ (name : List ℕ). (after_request known (Append client name height payload)).ledgers label) (sym (same_bytes own label is))
payloads_more known client own label payload height ps tied false place is at =
    tied ∙ other_label known client own label payload height (bytes_eq-swap label own ∙ is)
