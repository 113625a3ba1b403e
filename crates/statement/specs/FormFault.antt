-- Which fault shows first where bytes are read from the front, field by field. A fault shows in a field, or behind
-- good ones in the next.
use Rattle.std.specs.Prelude.{◌≡◌, ℕ, ◌^◌, ◌<◌, ◌⊎◌, ◌&&◌, nat_le, Bool, List, [], ◌∷◌, ◌++◌, length, map, Option, None, Result, Err, IsTrue, IsFalse}
use Rattle.std.specs.List.{flat_map, AllByRecursion}
use Rattle.std.specs.Int.{w32, to_be_bytes}
use Rattle.nim_base.specs.declared.form_fault.FormFault.{FormFault}
use Rattle.nim_base.specs.declared.form_fault.FormFault.TheVariants.{Short, Value, Order, Trailing, NoMemory}
use Rattle.statement.specs.Ids.{is_above, last_id, IsRising}

-- the bytes end inside fields that have so many bytes together
abbrev pub IsCut : ℕ → List ℕ → FormFault → Type 0
IsCut size text fault = (fault ≡ Short) × (length text < size)

-- in one value, or in the next behind a good one
abbrev pub ShowsBehind : {A : Type 0} → (A → Type 0) → (A → List ℕ) → (List ℕ → FormFault → Type 0) → (A → List ℕ → FormFault → Type 0) → List ℕ → FormFault → Type 0
ShowsBehind {A} IsGood form first next text fault =
    first text fault ⊎ ((value : A) × (rest : List ℕ) × IsGood value × (text ≡ form value ++ rest) × next value rest fault)

-- this cause where the test of what was read fails, or else what shows next
abbrev pub ShowsUnless : Bool → FormFault → (List ℕ → FormFault → Type 0) → List ℕ → FormFault → Type 0
ShowsUnless test cause next text fault = (IsFalse test × (fault ≡ cause)) ⊎ (IsTrue test × next text fault)

-- a field of one byte
abbrev pub byte_form : ℕ → List ℕ
byte_form byte = byte ∷ []

abbrev pub ShowsBehindByte : (ℕ → List ℕ → FormFault → Type 0) → List ℕ → FormFault → Type 0
ShowsBehindByte next = ShowsBehind (λ byte. byte < 2 ^ 8) byte_form (IsCut 1) next

-- an id of four bytes, above the one before
abbrev pub ShowsBehindId : Option ℕ → (List ℕ → FormFault → Type 0) → List ℕ → FormFault → Type 0
ShowsBehindId before next = ShowsBehind (λ id. id < 2 ^ 32) (to_be_bytes w32) (IsCut 4) (λ id. ShowsUnless (is_above before id) Order next)

-- one of so many items shows it, and all before that one are good, in rising ids
abbrev pub ShowsAmong : {A : Type 0} → (A → Type 0) → (A → List ℕ) → (A → ℕ) → (Option ℕ → List ℕ → FormFault → Type 0) → ℕ → List ℕ → FormFault → Type 0
ShowsAmong {A} IsGood form id shows number text fault =
    (before : List A) × (rest : List ℕ) × (text ≡ flat_map form before ++ rest) × IsRising (map id before) × AllByRecursion IsGood before × (length before < number) × shows (last_id None (map id before)) rest fault

-- members and marks are from 1 to 15
abbrev pub is_number : ℕ → Bool
is_number n = nat_le 1 n && nat_le n 15

-- the number of items in one byte, and these items
abbrev pub ShowsInList : {A : Type 0} → (A → Type 0) → (A → List ℕ) → (A → ℕ) → (Option ℕ → List ℕ → FormFault → Type 0) → List ℕ → FormFault → Type 0
ShowsInList IsGood form id shows = ShowsBehindByte (λ n. ShowsUnless (is_number n) Value (ShowsAmong IsGood form id shows n))

-- bytes that are to be one value, and no more
abbrev pub ShowsInWhole : {A : Type 0} → (A → Type 0) → (A → List ℕ) → (List ℕ → FormFault → Type 0) → List ℕ → FormFault → Type 0
ShowsInWhole IsGood form shows = ShowsBehind IsGood form shows (λ _ rest fault. (fault ≡ Trailing) × (0 < length rest))

-- this answer was given, or memory ran out
abbrev pub Gives : {A : Type 0} → Result A FormFault → Result A FormFault → Type 0
Gives result answer = (result ≡ answer) ⊎ (result ≡ Err NoMemory)
