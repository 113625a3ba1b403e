-- What reading gives: a value and the bytes after it, or the first fault.
use Rattle.std.specs.Prelude.{◌≡◌, ◌⊎◌, ℕ, zero, suc, List, [], ◌∷◌, length, take, drop, Option, Some, None, Result, Ok, Err, nat_lt, ◌==◌, if◌then◌else◌, MatchResult}
use Rattle.std.specs.Int.{Width, w16, w32, w64, byte_len, from_be_bytes}
use Rattle.nim_base.specs.declared.form_fault.FormFault.{FormFault}
use Rattle.nim_base.specs.declared.form_fault.FormFault.TheVariants.{Short, Kind, Value, Order, Trailing, NoMemory}
use Rattle.statement.specs.declared.member.Member.{Member}
use Rattle.statement.specs.declared.view_block.ViewBlock.{ViewBlock}
use Rattle.statement.specs.declared.statement.Statement.{Statement}
use Rattle.statement.specs.declared.statement.Statement.TheVariants.{Held, Latest, Final}
use Rattle.statement.specs.Receipt.{Receipt}
use Rattle.statement.specs.Ids.{is_above}
use Rattle.statement.specs.Mark.{Content, is_signature_size}
use Rattle.statement.specs.Mark.{id_of as mark_id}
use Rattle.statement.specs.Config.{id_of}
use Rattle.statement.specs.FormFault.{is_number}

infixl 10 ◌>>=◌
abbrev pub ◌>>=◌ : {A B : Type 0} → Result A FormFault → (A → Result B FormFault) → Result B FormFault
(Ok x) >>= f = f x
(Err e) >>= f = Err e

-- a function answered what reading gives, and left the bytes after it
abbrev pub Reads : {A : Type 0} → Result A FormFault → List ℕ → Result (A × List ℕ) FormFault → Type 0
Reads result rest read = MatchResult result (λ x. read ≡ Ok (x, rest)) (λ fault. read ≡ Err fault)

-- the same, where memory may run out
abbrev pub MayRead : {A B : Type 0} → (A → B) → Result A FormFault → List ℕ → Result (B × List ℕ) FormFault → Type 0
MayRead view result rest read = MatchResult result (λ x. read ≡ Ok (view x, rest)) (λ fault. (fault ≡ NoMemory) ⊎ (read ≡ Err fault))

abbrev pub byte_at : List ℕ → Result (ℕ × List ℕ) FormFault
byte_at [] = Err Short
byte_at (byte ∷ rest) = Ok (byte, rest)

abbrev pub bytes_at : ℕ → List ℕ → Result (List ℕ × List ℕ) FormFault
bytes_at n text = if nat_lt (length text) n then Err Short else Ok (take n text, drop n text)

abbrev pub number_at : Width → List ℕ → Result (ℕ × List ℕ) FormFault
number_at w text = if nat_lt (length text) (byte_len w) then Err Short else Ok (from_be_bytes w (take (byte_len w) text), drop (byte_len w) text)

-- one value and then another
abbrev pub pair_at : {A B : Type 0} → (List ℕ → Result (A × List ℕ) FormFault) → (List ℕ → Result (B × List ℕ) FormFault) → List ℕ → Result ((A × B) × List ℕ) FormFault
pair_at first second text = do
  x ← first text
  y ← second x.1
  Ok ((x.0, y.0), y.1)

-- so many items, in ids above this one and rising
unfoldable pub each_at : {A : Type 0} → (Option ℕ → List ℕ → Result (A × List ℕ) FormFault) → (A → ℕ) → ℕ → Option ℕ → List ℕ → Result (List A × List ℕ) FormFault
each_at item id zero before text = Ok ([], text)
each_at item id (suc n) before text = do
  first ← item before text
  others ← each_at item id n (Some (id first.0)) first.1
  Ok (first.0 ∷ others.0, others.1)

-- their number in one byte, and the items
unfoldable pub list_at : {A : Type 0} → (Option ℕ → List ℕ → Result (A × List ℕ) FormFault) → (A → ℕ) → List ℕ → Result (List A × List ℕ) FormFault
list_at item id text = do
  n ← byte_at text
  if is_number n.0 then each_at item id n.0 None n.1 else Err Value

-- all of the bytes
abbrev pub whole : {A : Type 0} → Result (A × List ℕ) FormFault → Result A FormFault
whole read = do
  x ← read
  if nat_lt 0 (length x.1) then Err Trailing else Ok x.0

unfoldable pub member_at : Option ℕ → List ℕ → Result (Member × List ℕ) FormFault
member_at before text = do
  id ← number_at w32 text
  if is_above before id.0 then (do
    key ← bytes_at 32 id.1
    Ok (record { id = id.0; key = key.0 }, key.1)) else Err Order

unfoldable pub config_at : List ℕ → Result (List Member × List ℕ) FormFault
config_at text = do
  kind ← byte_at text
  if kind.0 == 0x12 then list_at member_at id_of kind.1 else Err Kind

-- a function answered what reading all of the bytes gives
abbrev pub GivesJust : {A : Type 0} → Result A FormFault → Result A FormFault → Type 0
GivesJust result read = MatchResult result (λ x. read ≡ Ok x) (λ fault. read ≡ Err fault)

-- the same, where memory may run out
abbrev pub MayGive : {A B : Type 0} → (A → B) → Result A FormFault → Result B FormFault → Type 0
MayGive view result read = MatchResult result (λ x. read ≡ Ok (view x)) (λ fault. (fault ≡ NoMemory) ⊎ (read ≡ Err fault))

-- prev(32), config digest(32), number(8), behind the kind
unfoldable pub view_block_at : List ℕ → Result (ViewBlock × List ℕ) FormFault
view_block_at text = do
  kind ← byte_at text
  if kind.0 == 0x11 then (do
    x ← pair_at (bytes_at 32) (pair_at (bytes_at 32) (number_at w64)) kind.1
    Ok (record { prev = x.0.0; config = x.0.1.0; number = x.0.1.1 }, x.1)) else Err Kind

-- the fields of a statement, behind its kind
unfoldable pub held_at : List ℕ → Result (Statement × List ℕ) FormFault
held_at text = do
  x ← pair_at (bytes_at 32) (pair_at (bytes_at 32) (pair_at (bytes_at 32) (number_at w64))) text
  Ok (Held x.0.0 x.0.1.0 x.0.1.1.0 x.0.1.1.1, x.1)

unfoldable pub latest_at : List ℕ → Result (Statement × List ℕ) FormFault
latest_at text = do
  x ← pair_at (bytes_at 32) (pair_at (bytes_at 32) (pair_at (bytes_at 32) (pair_at (number_at w64) (bytes_at 16)))) text
  Ok (Latest x.0.0 x.0.1.0 x.0.1.1.0 x.0.1.1.1.0 x.0.1.1.1.1, x.1)

unfoldable pub final_at : List ℕ → Result (Statement × List ℕ) FormFault
final_at text = do
  x ← pair_at (bytes_at 32) (pair_at (bytes_at 32) (bytes_at 32)) text
  Ok (Final x.0.0 x.0.1.0 x.0.1.1, x.1)

abbrev pub fields_at : ℕ → List ℕ → Result (Statement × List ℕ) FormFault
fields_at kind text = if kind == 0x20 then held_at text else (if kind == 0x21 then latest_at text else (if kind == 0x22 then final_at text else Err Kind))

unfoldable pub statement_at : List ℕ → Result (Statement × List ℕ) FormFault
statement_at text = do
  kind ← byte_at text
  fields_at kind.0 kind.1

unfoldable pub signature_at : List ℕ → Result (List ℕ × List ℕ) FormFault
signature_at text = do
  size ← number_at w16 text
  if is_signature_size size.0 then bytes_at size.0 size.1 else Err Value

unfoldable pub mark_at : Option ℕ → List ℕ → Result (Content × List ℕ) FormFault
mark_at before text = do
  id ← number_at w32 text
  if is_above before id.0 then (do
    sig ← signature_at id.1
    Ok (record { id = id.0; sig = sig.0 }, sig.1)) else Err Order

unfoldable pub receipt_at : List ℕ → Result (Receipt × List ℕ) FormFault
receipt_at text = do
  kind ← byte_at text
  if kind.0 == 0x23 then (do
    x ← pair_at statement_at (list_at mark_at mark_id) kind.1
    Ok (record { statement = x.0.0; marks = x.0.1 }, x.1)) else Err Kind
