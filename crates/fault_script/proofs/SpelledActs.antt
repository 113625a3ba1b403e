-- An act that was read is written with its own words.
use Rattle.std.proofs.Common.{◌≡◌, refl, subst, ℕ, ◌+◌, List, [], ◌∷◌, Result, Ok, lit<}
use Rattle.fault_script.specs.declared.bad_cause.BadCause.{BadCause}
use Rattle.fault_script.specs.declared.form.ActForm.{ActForm}
use Rattle.fault_script.specs.declared.form.ActForm.TheVariants as acts
use Rattle.fault_script.specs.Command.{Request, New, Append, Latest, At, Reconfigure}
use Rattle.fault_script.specs.Words.{word_at, name_in, ids_in, payload_in}
use Rattle.fault_script.specs.Reading.{later_height_in, height_in, request_in}
use Rattle.fault_script.specs.Spelling.{act_word, act_values}
use Rattle.fault_script.proofs.Steps.{bind_ok}
use Rattle.fault_script.proofs.Spelled.{name_spelled, payload_spelled, number_spelled, ids_spelled}
use Rattle.fault_script.proofs.Heads.{act_name}

-- the words behind the word of an act that stands at a place
abbrev pub behind : ActForm → List (List ℕ) → ℕ → List (List ℕ)
behind acts.New words at = word_at words (at + 1) ∷ word_at words (at + 2) ∷ word_at words (at + 3) ∷ []
behind acts.Append words at = word_at words (at + 1) ∷ word_at words (at + 2) ∷ word_at words (at + 3) ∷ word_at words (at + 4) ∷ []
behind acts.Latest words at = word_at words (at + 1) ∷ word_at words (at + 2) ∷ []
behind acts.At words at = word_at words (at + 1) ∷ word_at words (at + 2) ∷ word_at words (at + 3) ∷ []
behind acts.Reconfigure words at = word_at words (at + 1) ∷ []

-- what is written is what was read
abbrev pub IsSpelled : ActForm → List (List ℕ) → ℕ → Request → Type 0
IsSpelled form words at request = (act_word request ≡ act_name form) × (act_values request ≡ behind form words at)

made : (form : ActForm) (words : List (List ℕ)) (at : ℕ) (one request : Request) → ◌≡◌ {A = Result Request BadCause} (Ok one) (Ok request) → IsSpelled form words at one → IsSpelled form words at request
made form words at one request h spelled = let same : one ≡ request = cc in subst (IsSpelled form words at) same spelled

pub act_spelled : (form : ActForm) (words : List (List ℕ)) (at : ℕ) (request : Request) → request_in form words at ≡ Ok request → IsSpelled form words at request
unfolding request_in
act_spelled acts.New words at request h =
    let client = bind_ok (name_in (word_at words (at + 1))) _ request h in
    let label = bind_ok (name_in (word_at words (at + 2))) _ request client.2 in
    let payload = bind_ok (payload_in (word_at words (at + 3))) _ request label.2 in
    let a : client.0 ≡ word_at words (at + 1) = name_spelled (word_at words (at + 1)) client.0 client.1 in
    let b : label.0 ≡ word_at words (at + 2) = name_spelled (word_at words (at + 2)) label.0 label.1 in
    let d : 61 ∷ payload.0 ≡ word_at words (at + 3) = payload_spelled (word_at words (at + 3)) payload.0 payload.1 in
    made acts.New words at (New client.0 label.0 payload.0) request payload.2 (refl, cc)
act_spelled acts.Append words at request h =
    let client = bind_ok (name_in (word_at words (at + 1))) _ request h in
    let label = bind_ok (name_in (word_at words (at + 2))) _ request client.2 in
    let height = bind_ok (later_height_in (word_at words (at + 3))) _ request label.2 in
    let payload = bind_ok (payload_in (word_at words (at + 4))) _ request height.2 in
    let a = name_spelled (word_at words (at + 1)) client.0 client.1 in
    let b = name_spelled (word_at words (at + 2)) label.0 label.1 in
    let n = number_spelled 1 4294967295 (word_at words (at + 3)) height.0 (lit< tt) height.1 in
    let d = payload_spelled (word_at words (at + 4)) payload.0 payload.1 in
    made acts.Append words at (Append client.0 label.0 height.0 payload.0) request payload.2 (refl, cc)
act_spelled acts.Latest words at request h =
    let client = bind_ok (name_in (word_at words (at + 1))) _ request h in
    let label = bind_ok (name_in (word_at words (at + 2))) _ request client.2 in
    let a = name_spelled (word_at words (at + 1)) client.0 client.1 in
    let b = name_spelled (word_at words (at + 2)) label.0 label.1 in
    made acts.Latest words at (Latest client.0 label.0) request label.2 (refl, cc)
act_spelled acts.At words at request h =
    let client = bind_ok (name_in (word_at words (at + 1))) _ request h in
    let label = bind_ok (name_in (word_at words (at + 2))) _ request client.2 in
    let height = bind_ok (height_in (word_at words (at + 3))) _ request label.2 in
    let a = name_spelled (word_at words (at + 1)) client.0 client.1 in
    let b = name_spelled (word_at words (at + 2)) label.0 label.1 in
    let n = number_spelled 0 4294967295 (word_at words (at + 3)) height.0 (lit< tt) height.1 in
    made acts.At words at (At client.0 label.0 height.0) request height.2 (refl, cc)
act_spelled acts.Reconfigure words at request h =
    let ids = bind_ok (ids_in (word_at words (at + 1))) _ request h in
    let l = ids_spelled (word_at words (at + 1)) ids.0 ids.1 in
    made acts.Reconfigure words at (Reconfigure ids.0) request ids.2 (refl, cc)
