-- What reading the kind and the number of rows tells, and the rows after them.
use Rattle.std.proofs.Common.{◌≡◌, ℕ, ◌<◌, ◌≤◌, ◌⊎◌, inl, inr, List, [], ◌∷◌, ◌++◌, length, Result, Ok, Err, IfOk, IfErr, sym, ap, subst, ◌∙◌, append_assoc, arith}
use Rattle.std.specs.List.{flat_map, AllByRecursion}
use Rattle.std.specs.Int.{w8, w32, from_be_bytes, to_be_bytes}
use Rattle.std.proofs.lemmas.List.{append-nil, nil_from_length}
use Rattle.std.proofs.lemmas.Nat.{be_bytes_4}
use Rattle.nim_base.specs.declared.form_fault.FormFault.{FormFault}
use Rattle.nim_base.specs.declared.form_fault.FormFault.TheVariants.{Short, Kind, Value, Order, Trailing, NoMemory}
use Rattle.tail_map.specs.declared.tail_row.TailRow.{TailRow}
use Rattle.tail_map.specs.TailMap.{Content, IsRising, IsRow, IsMap}
use Rattle.tail_map.specs.MapForm.{row_bytes, head_bytes, map_bytes, IsBytes}
use Rattle.tail_map.specs.FormFault.{ShowsAmong, Shows, Gives}
use Rattle.tail_map.proofs.Texts.{front_bytes, rest_bytes}
use Rattle.tail_map.proofs.Reader.{map_at, map_again}
use Rattle.tail_map.proofs.Faults.{shows_read, answers}

single : (bytes : List ℕ) (n : ℕ) → length bytes ≡ 1 → n ≡ from_be_bytes w8 bytes → bytes ≡ n ∷ []
single [] n len is = absurd (omega (arith, len))
single (b ∷ []) n len is = ap (λ (m : ℕ). m ∷ []) (sym is)
single (b ∷ c ∷ bytes) n len is = absurd (omega (arith, len))

module _ (bytes k one n two : List ℕ) (kind number : ℕ) (fits : IsBytes bytes) (len_k : length k ≡ 1) (form_k : bytes ≡ k ++ one) (is_k : kind ≡ from_be_bytes w8 k) (right : kind ≡ 48)
    (len_n : length n ≡ 4) (form_n : one ≡ n ++ two) (is_n : number ≡ from_be_bytes w32 n) where
  pub later_bytes : IsBytes two
  later_bytes = rest_bytes one n two form_n (rest_bytes bytes k one form_k fits)

  pub head_form : bytes ≡ head_bytes number ++ two
  head_form =
      let first : k ≡ 48 ∷ [] = single k kind len_k is_k ∙ ap (λ (m : ℕ). m ∷ []) right in
      let count : to_be_bytes w32 number ≡ n = be_bytes_4 n number len_n (front_bytes one n two form_n (rest_bytes bytes k one form_k fits)) is_n in
      form_k ∙ ap (λ (bs : List ℕ). bs ++ one) first ∙ ap (λ (bs : List ℕ). 48 ∷ bs) (form_n ∙ ap (λ (bs : List ℕ). bs ++ two) (sym count))

pub shows_from : (bytes : List ℕ) (number : ℕ) (text : List ℕ) (fault : FormFault) → bytes ≡ head_bytes number ++ text → number ≤ 4096 → (fault ≡ NoMemory) ⊎ ShowsAmong number text fault → (fault ≡ NoMemory) ⊎ Shows bytes fault
shows_from bytes number text fault form few (inl e) = inl e
shows_from bytes number text Short form few (inr p) = inr (inr (inr (number, text, form, few, p)))
shows_from bytes number text Value form few (inr p) = inr (inr (number, text, form, few, p))
shows_from bytes number text Order form few (inr p) = inr (number, text, form, few, p)
shows_from bytes number text Kind form few (inr (rows, rest, parts, rising, each, more, shows)) = absurd shows
shows_from bytes number text Trailing form few (inr (rows, rest, parts, rising, each, more, shows)) = absurd shows
shows_from bytes number text NoMemory form few (inr (rows, rest, parts, rising, each, more, shows)) = absurd shows

module _ (bytes : List ℕ) (number : ℕ) (text : List ℕ) (rows : List TailRow) (rest : List ℕ) (form : bytes ≡ head_bytes number ++ text) (few : number ≤ 4096)
    (count : length rows ≡ number) (rising : IsRising rows) (each : AllByRecursion IsRow rows) (parts : text ≡ flat_map row_bytes rows ++ rest) where
  map : IsMap rows
  map = record { rising = rising; each = each; few = omega (arith, count, few) }

  whole : bytes ≡ map_bytes rows ++ rest
  whole =
      form ∙ ap (λ (n : ℕ). head_bytes n ++ text) (sym count) ∙ ap (λ (bs : List ℕ). head_bytes (length rows) ++ bs) parts
      ∙ sym (append_assoc (head_bytes (length rows)) (flat_map row_bytes rows) rest)

  pub trailing : 0 < length rest → Shows bytes Trailing
  trailing some = (rows, rest, map, whole, some)

  pub found_whole : length rest ≡ 0 → IsMap rows × (bytes ≡ map_bytes rows)
  found_whole none = (map, whole ∙ ap (λ (bs : List ℕ). map_bytes rows ++ bs) (nil_from_length rest none) ∙ append-nil (map_bytes rows))

-- ---- from what was found, and what fault was shown, to what reading gives

pub only_from : (bytes : List ℕ) (r : Result Content FormFault) → IfOk r (λ map. IsMap map.rows × (bytes ≡ map_bytes map.rows)) → IfErr r (λ fault. (fault ≡ NoMemory) ⊎ Shows bytes fault)
    → (rows : List TailRow) → IsMap rows → bytes ≡ map_bytes rows → Gives r (Ok rows)
only_from bytes r found shown rows map form = subst (Gives r) (ap map_at form ∙ map_again rows map) (answers bytes r found shown)

pub first_from : (bytes : List ℕ) (r : Result Content FormFault) → IfOk r (λ map. IsMap map.rows × (bytes ≡ map_bytes map.rows)) → IfErr r (λ fault. (fault ≡ NoMemory) ⊎ Shows bytes fault)
    → (fault : FormFault) → Shows bytes fault → Gives r (Err fault)
first_from bytes r found shown fault shows = subst (Gives r) (shows_read bytes fault shows) (answers bytes r found shown)
