-- Words that were read are within their limits.
use Rattle.std.proofs.Common.{◌≡◌, refl, ap, subst, true, ◌&&◌, ℕ, ◌+◌, ◌<◌, ◌≤◌, List, [], ◌∷◌, length, Some, Result, Ok, eqb, leb, arith}
use Rattle.std.specs.Option.{option_map}
use Rattle.std.specs.List.{slice_split}
use Rattle.std.proofs.lemmas.Bool.{and_parts, leb-true}
use Rattle.std.proofs.lemmas.List.Splits.{length-slice_split}
use Rattle.fault_script.specs.declared.bad_cause.BadCause.{BadCause}
use Rattle.fault_script.specs.declared.bad_cause.BadCause.TheVariants as causes
use Rattle.fault_script.specs.Words.{is_number, is_payload, value, number_within, rising, ids_of, number_in, ids_in, payload_in}
use Rattle.fault_script.specs.Within.{AreRising, AreIds, IsFrom}
use Rattle.fault_script.proofs.Spelled.{after, same_value}
use Rattle.fault_script.proofs.Steps.{if_ok, ok_or_some, if_some, map_some}

pub number_from : (low high : ℕ) (word : List ℕ) (n : ℕ) → number_within low high word ≡ Some n → IsFrom low high n
unfolding number_within
number_from low high word n h =
    let found = if_some (is_number word && (leb low (value word) && leb (value word) high)) (Some (value word)) n h in
    let tests = and_parts (is_number word) (leb low (value word) && leb (value word) high) found.0 in
    let ends = and_parts (leb low (value word)) (leb (value word) high) tests.1 in
    subst (IsFrom low high) (same_value (value word) n found.1) (leb-true low (value word) ends.0, leb-true (value word) high ends.1)

pub number_limits : (low high : ℕ) (word : List ℕ) (n : ℕ) → number_in low high word ≡ Ok n → IsFrom low high n
number_limits low high word n h = number_from low high word n (ok_or_some (number_within low high word) causes.Number n h)

payload_size : (word : List ℕ) → is_payload word ≡ true → length word ≤ 65537
payload_size word h = leb-true (length word) 65537 (and_parts _ _ (and_parts _ _ h).1).0

pub payload_limits : (word payload : List ℕ) → payload_in word ≡ Ok payload → length payload ≤ 65536
payload_limits [] payload h = cc
payload_limits (b ∷ bytes) payload h =
    let read = if_ok (is_payload (b ∷ bytes)) (Ok bytes) causes.Payload payload h in
    let same : ◌≡◌ {A = Result (List ℕ) BadCause} (Ok bytes) (Ok payload) = read.1 in
    let rest : bytes ≡ payload = cc in
    omega (arith, payload_size (b ∷ bytes) read.0, ap length rest)

rising_limits : (low : ℕ) (words : List (List ℕ)) (ids : List ℕ) → rising low words ≡ Some ids → AreRising low ids × (length ids ≡ length words)
rising_limits low [] ids h =
    let e : [] ≡ ids = cc in
    subst (λ (l : List ℕ). AreRising low l × (length l ≡ 0)) e (tt, refl)
rising_limits low (word ∷ words) ids h =
    let first = after (number_within (low + 1) 64 word) (λ id. option_map (λ ids. id ∷ ids) (rising id words)) ids h in
    let rest = map_some (λ ids. first.0 ∷ ids) (rising first.0 words) ids first.2 in
    let limits = number_from (low + 1) 64 word first.0 first.1 in
    let others = rising_limits first.0 words rest.0 rest.1 in
    let above : low < first.0 = omega (arith, limits.0) in
    subst (λ (l : List ℕ). AreRising low l × (length l ≡ length (word ∷ words))) rest.2 ((above, limits.1, others.0), omega (arith, others.1))

pub ids_limits : (word ids : List ℕ) → ids_in word ≡ Ok ids → AreIds ids
unfolding ids_of
ids_limits word ids h =
    let parts = slice_split (λ b. eqb b 44) word in
    let found = if_some (leb (length parts) 15) (rising 0 parts) ids (ok_or_some (ids_of word) causes.Ids ids h) in
    let limits = rising_limits 0 parts ids found.1 in
    let most = leb-true (length parts) 15 found.0 in
    let some = length-slice_split (λ b. eqb b 44) word in
    (omega (arith, limits.1, some), omega (arith, limits.1, most), limits.0)
