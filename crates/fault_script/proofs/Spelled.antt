-- Words that were read are the words that are written.
use Rattle.std.proofs.Common.{Result, ◌≡◌, refl, sym, ap, ◌∙◌, Bool, true, false, not, ◌&&◌, ◌||◌, ℕ, ◌+◌, ◌-◌, ◌*◌, ◌<◌, ◌^◌, List, [], ◌∷◌, ◌++◌, length, get_or, map, fold, Option, Some, None, Ok, eqb, leb, lit<, arith}
use Rattle.std.specs.Option.{option_map}
use Rattle.std.specs.Prelude.{option_and_then}
use Rattle.std.specs.Fmt.{decimal}
use Rattle.std.specs.List.{list_all, slice_split, join_with_byte, flat_map}
use Rattle.std.proofs.lemmas.Bool.{and_parts, leb-true, le-leb, ltb-true, eqb-true}
use Rattle.std.proofs.lemmas.Fmt.{decimal-digits_value}
use Rattle.std.proofs.lemmas.List.{append-nil}
use Rattle.std.proofs.lemmas.List.Splits.{join_with_byte-slice_split}
use Rattle.std.proofs.lemmas.Str.Parse.{IsNumeralModel, IsDigitsTest, FoldsDigits, numerals_by_fold}
use Rattle.fault_script.specs.declared.bad_cause.BadCause.{BadCause}
use Rattle.fault_script.specs.Words.{is_name, is_digit, is_number, is_payload, value, number_within, rising, ids_of, name_in, number_in, ids_in, payload_in}
use Rattle.fault_script.specs.Spelling.{spaced, joined}
use Rattle.fault_script.proofs.Steps.{if_ok, ok_or_some, if_some, map_some}

pub name_spelled : (word name : List ℕ) → name_in word ≡ Ok name → name ≡ word
name_spelled word name h = let e = (if_ok (is_name word) (Ok word) _ name h).1 in cc

pub payload_spelled : (word payload : List ℕ) → payload_in word ≡ Ok payload → 61 ∷ payload ≡ word
payload_spelled [] payload h = cc
payload_spelled (b ∷ bytes) payload h =
    let read = if_ok (is_payload (b ∷ bytes)) (Ok bytes) _ payload h in
    let same : ◌≡◌ {A = Result (List ℕ) BadCause} (Ok bytes) (Ok payload) = read.1 in
    let rest : payload ≡ bytes = cc in
    ap (λ x. x ∷ payload) (sym (eqb-true b 61 (and_parts _ _ (and_parts _ _ (and_parts _ _ read.0).1).1).0)) ∙ ap (λ xs. b ∷ xs) rest

and_both : (a b : Bool) → a ≡ true → b ≡ true → (a && b) ≡ true
and_both a b p q = ap (λ x. x && b) p ∙ q

are_digits : IsDigitsTest (λ ds. list_all is_digit ds ≡ true)
are_digits = record {
  empty = refl;
  parts = λ c cs h. let p = and_parts (is_digit c) (list_all is_digit cs) h in let q = and_parts _ _ p.0 in ((leb-true 48 c q.0, leb-true c 57 q.1), p.1);
  more = λ c cs r h. and_both (is_digit c) (list_all is_digit cs) (and_both (leb 48 c) (leb c 57) (le-leb 48 c r.0) (le-leb c 57 r.1)) h;
}

folds : FoldsDigits (λ n ds. fold (λ n digit. n * 10 + (digit - 48)) n ds)
folds = record { empty = λ n. refl; more = λ n c cs r. refl }

own : IsNumeralModel (λ ds. list_all is_digit ds ≡ true) value
own = numerals_by_fold (λ ds. list_all is_digit ds ≡ true) are_digits (λ n ds. fold (λ n digit. n * 10 + (digit - 48)) n ds) folds

or_not : (a b : Bool) → (a || not b) ≡ true → b ≡ true → a ≡ true
or_not true b h e = refl
or_not false true h e = h
or_not false false h e = cc

pub digits_spelled : (word : List ℕ) → is_number word ≡ true → value word < 2 ^ 64 → decimal (value word) ≡ word
digits_spelled word h small =
    let p = and_parts _ _ h in
    let q = and_parts _ _ p.1 in
    decimal-digits_value own word q.0 (ltb-true 0 (length word) p.0)
    (λ zero. eqb-true (length word) 1 (or_not (eqb (length word) 1) (eqb (get_or word 0 0) 48) q.1 (ap (λ b. eqb b 48) zero)))
    small

pub same_value : (one other : ℕ) → ◌≡◌ {A = Option ℕ} (Some one) (Some other) → one ≡ other
same_value one other h = cc

pub within_spelled : (low high : ℕ) (word : List ℕ) (n : ℕ) → high < 2 ^ 64 → number_within low high word ≡ Some n → decimal n ≡ word
unfolding number_within
within_spelled low high word n limit h =
    let found = if_some (is_number word && (leb low (value word) && leb (value word) high)) (Some (value word)) n h in
    let tests = and_parts (is_number word) (leb low (value word) && leb (value word) high) found.0 in
    let below = leb-true (value word) high (and_parts (leb low (value word)) (leb (value word) high) tests.1).1 in
    ap decimal (sym (same_value (value word) n found.1)) ∙ digits_spelled word tests.0 (omega (arith, below, limit))

pub number_spelled : (low high : ℕ) (word : List ℕ) (n : ℕ) → high < 2 ^ 64 → number_in low high word ≡ Ok n → decimal n ≡ word
number_spelled low high word n limit h = within_spelled low high word n limit (ok_or_some (number_within low high word) _ n h)

pub after : (o : Option ℕ) (f : ℕ → Option (List ℕ)) (y : List ℕ) → option_and_then f o ≡ Some y → (x : ℕ) × (o ≡ Some x) × (f x ≡ Some y)
after None f y h = cc
after (Some x) f y h = (x, refl, h)

rising_spelled : (low : ℕ) (words : List (List ℕ)) (ids : List ℕ) → rising low words ≡ Some ids → map decimal ids ≡ words
rising_spelled low [] ids h = let e : ids ≡ [] = cc in ap (map decimal) e
rising_spelled low (word ∷ words) ids h =
    let first = after (number_within (low + 1) 64 word) (λ id. option_map (λ ids. id ∷ ids) (rising id words)) ids h in
    let rest = map_some (λ ids. first.0 ∷ ids) (rising first.0 words) ids first.2 in
    ap (map decimal) (sym rest.2)
    ∙ ap (λ d. d ∷ map decimal rest.0) (within_spelled (low + 1) 64 word first.0 (lit< tt) first.1)
    ∙ ap (λ ds. word ∷ ds) (rising_spelled first.0 words rest.0 rest.1)

joined_behind : (first : List ℕ) (ids : List ℕ) → first ++ flat_map (λ other. 44 ∷ decimal other) ids ≡ join_with_byte 44 (first ∷ map decimal ids)
joined_behind first [] = append-nil first
joined_behind first (id ∷ ids) = ap (λ text. first ++ 44 ∷ text) (joined_behind (decimal id) ids)

joined_is : (ids : List ℕ) → joined ids ≡ join_with_byte 44 (map decimal ids)
joined_is [] = refl
joined_is (id ∷ ids) = joined_behind (decimal id) ids

pub ids_spelled : (word ids : List ℕ) → ids_in word ≡ Ok ids → joined ids ≡ word
unfolding ids_of
ids_spelled word ids h =
    let parts = slice_split (λ b. eqb b 44) word in
    let found = if_some (leb (length parts) 15) (rising 0 parts) ids (ok_or_some (ids_of word) _ ids h) in
    joined_is ids ∙ ap (join_with_byte 44) (rising_spelled 0 parts ids found.1) ∙ join_with_byte-slice_split 44 word

-- words behind a first one
pub spaced_is : (first : List ℕ) (words : List (List ℕ)) → first ++ spaced words ≡ join_with_byte 32 (first ∷ words)
spaced_is first [] = append-nil first
spaced_is first (word ∷ words) = ap (λ text. first ++ 32 ∷ text) (spaced_is word words)
