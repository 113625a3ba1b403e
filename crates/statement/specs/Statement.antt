-- Statements: what one is, its bytes, and which fault shows first in others.
use Rattle.std.specs.Prelude.{◌≡◌, ℕ, ◌^◌, ◌<◌, ◌==◌, if◌then◌else◌, List, ◌∷◌, ◌++◌, length, Option, Some, None, MatchOption}
use Rattle.std.specs.Int.{w64, to_be_bytes}
use Rattle.nim_base.specs.declared.form_fault.FormFault.{FormFault}
use Rattle.nim_base.specs.declared.form_fault.FormFault.TheVariants as faults
use Rattle.statement.specs.declared.statement.Statement.{Statement}
use Rattle.statement.specs.declared.statement.Statement.TheVariants.{Held, Latest, Final}
use Rattle.statement.specs.FormFault.{IsCut, ShowsBehindByte, ShowsInWhole}

-- digests of 32 bytes, a nonce of 16 and a count of eight, which each statement of the code has by its type
abbrev pub IsStatement : Statement → Type 0
IsStatement (Held view handle tail count) = (length view ≡ 32) × (length handle ≡ 32) × (length tail ≡ 32) × (count < 2 ^ 64)
IsStatement (Latest view handle tail count nonce) = (length view ≡ 32) × (length handle ≡ 32) × (length tail ≡ 32) × (count < 2 ^ 64) × (length nonce ≡ 16)
IsStatement (Final view next map) = (length view ≡ 32) × (length next ≡ 32) × (length map ≡ 32)

-- the tail of the view in which it is made
abbrev pub view_of : Statement → List ℕ
view_of (Held view handle tail count) = view
view_of (Latest view handle tail count nonce) = view
view_of (Final view next map) = view

-- Held: the kind, 20 in hexadecimal, view(32), handle(32), tail(32), count(8). Latest: 21, the same, and nonce(16).
-- Final: 22, view(32), next view(32), map(32).
abbrev pub statement_bytes : Statement → List ℕ
statement_bytes (Held view handle tail count) = 0x20 ∷ view ++ handle ++ tail ++ to_be_bytes w64 count
statement_bytes (Latest view handle tail count nonce) = 0x21 ∷ view ++ handle ++ tail ++ to_be_bytes w64 count ++ nonce
statement_bytes (Final view next map) = 0x22 ∷ view ++ next ++ map

-- how many bytes stand behind the kind, None where there is no such kind
abbrev pub fields_size : ℕ → Option ℕ
fields_size kind = if kind == 0x20 then Some 104 else (if kind == 0x21 then Some 120 else (if kind == 0x22 then Some 96 else None))

-- where the fields behind the kind are to begin
abbrev pub FieldsShow : ℕ → List ℕ → FormFault → Type 0
FieldsShow kind rest fault = MatchOption (fields_size kind) (fault ≡ faults.Kind) (λ size. IsCut size rest fault)

-- where a statement is to begin
abbrev pub StatementBegins : List ℕ → FormFault → Type 0
StatementBegins = ShowsBehindByte FieldsShow

-- in bytes that are to be a statement, and no more
abbrev pub StatementShows : List ℕ → FormFault → Type 0
StatementShows = ShowsInWhole IsStatement statement_bytes StatementBegins
