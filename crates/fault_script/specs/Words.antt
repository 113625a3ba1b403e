-- The words of a line, and what each of them may be.
use Rattle.std.specs.Prelude.{ℕ, Bool, not, ◌&&◌, ◌||◌, List, [], ◌∷◌, length, drop, slice_index, Option, Some, None, option_and_then, Result, Ok, Err, nat_lt, nat_le, ◌==◌, if◌then◌else◌, fold, ◌+◌, ◌-◌, ◌*◌}
use Rattle.std.specs.Option.{option_map, ok_or}
use Rattle.std.specs.List.{list_all, slice_index_or, slice_split}
use Rattle.fault_script.specs.declared.bad_cause.BadCause.{BadCause}
use Rattle.fault_script.specs.declared.bad_cause.BadCause.TheVariants as causes

-- the words of a line, with one space between each two
abbrev pub words : List ℕ → List (List ℕ)
words line = slice_split (λ b. b == 32) line

-- the word at a place, or no bytes where there is none
abbrev pub word_at : List (List ℕ) → ℕ → List ℕ
word_at words place = slice_index_or words place []

-- a to z
abbrev pub is_small_letter : ℕ → Bool
is_small_letter b = nat_le 97 b && nat_le b 122

-- a to z, A to Z
abbrev pub is_letter : ℕ → Bool
is_letter b = is_small_letter b || (nat_le 65 b && nat_le b 90)

-- 0 to 9
abbrev pub is_digit : ℕ → Bool
is_digit b = nat_le 48 b && nat_le b 57

-- a letter, a digit or `_`
abbrev pub is_name_byte : ℕ → Bool
is_name_byte b = is_letter b || (is_digit b || (b == 95))

-- a letter, and then up to 15 letters, digits or `_`
abbrev pub is_name : List ℕ → Bool
is_name word = nat_lt 0 (length word) && (nat_le (length word) 16 && (is_letter (slice_index word 0) && list_all is_name_byte word))

-- a to z, 0 to 9
abbrev pub is_payload_byte : ℕ → Bool
is_payload_byte b = is_small_letter b || is_digit b

-- `=`, and then 0 to 65,536 letters from a to z and digits
abbrev pub is_payload : List ℕ → Bool
is_payload word = nat_lt 0 (length word) && (nat_le (length word) 65537 && ((slice_index word 0 == 61) && list_all is_payload_byte (drop 1 word)))

-- digits without leading zeros
abbrev pub is_number : List ℕ → Bool
is_number word = nat_lt 0 (length word) && (list_all is_digit word && ((length word == 1) || not (slice_index word 0 == 48)))

-- the value of digits in decimal
abbrev pub value : List ℕ → ℕ
value word = fold (λ n digit. n * 10 + (digit - 48)) 0 word

-- the number that a word is, from `low` to `high`
unfoldable pub number_within : ℕ → ℕ → List ℕ → Option ℕ
number_within low high word = if is_number word && (nat_le low (value word) && nat_le (value word) high) then Some (value word) else None

-- these ids, each above the one before
abbrev pub rising : ℕ → List (List ℕ) → Option (List ℕ)
rising low [] = Some []
rising low (word ∷ words) = option_and_then (λ id. option_map (λ ids. id ∷ ids) (rising id words)) (number_within (low + 1) 64 word)

-- 1 to 15 numbers from 1 to 64, strictly rising, joined by commas
unfoldable pub ids_of : List ℕ → Option (List ℕ)
ids_of word = let parts = slice_split (λ b. b == 44) word in if nat_le (length parts) 15 then rising 0 parts else None

abbrev pub name_in : List ℕ → Result (List ℕ) BadCause
name_in word = if is_name word then Ok word else Err causes.Name

abbrev pub number_in : ℕ → ℕ → List ℕ → Result ℕ BadCause
number_in low high word = ok_or (number_within low high word) causes.Number

abbrev pub ids_in : List ℕ → Result (List ℕ) BadCause
ids_in word = ok_or (ids_of word) causes.Ids

-- a payload is kept without its `=`
abbrev pub payload_in : List ℕ → Result (List ℕ) BadCause
payload_in word = if is_payload word then Ok (drop 1 word) else Err causes.Payload
