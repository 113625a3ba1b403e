-- Fields that hold a value's bytes, whole, and which fault shows first in others.
use Rattle.std.specs.Prelude.{◌≡◌, ℕ, ◌==◌, ◌^◌, ◌<◌, List, ◌++◌, length}
use Rattle.std.specs.Int.{w32, to_be_bytes}
use Rattle.nim_base.specs.declared.form_fault.FormFault.{FormFault}
use Rattle.nim_base.specs.declared.form_fault.FormFault.TheVariants.{Kind, Value}
use Rattle.statement.specs.FormFault.{IsCut, ShowsBehind, ShowsBehindByte, ShowsUnless}

-- the bytes of a good value, and no more
abbrev pub IsBytesOf : {A : Type 0} → (A → Type 0) → (A → List ℕ) → List ℕ → Type 0
IsBytesOf {A} IsGood form bytes = (value : A) × IsGood value × (bytes ≡ form value)

-- where a field of so many bytes is to begin: they end in it, or it is whole and isn't a value's
abbrev pub FieldBegins : {A : Type 0} → (A → Type 0) → (A → List ℕ) → ℕ → List ℕ → FormFault → Type 0
FieldBegins IsGood form size =
    ShowsBehind (λ field. length field ≡ size) (λ field. field) (IsCut size) (λ field rest fault. (¬ IsBytesOf IsGood form field) × (fault ≡ Value))

-- a value's bytes behind their number(4)
abbrev pub sized : {A : Type 0} → (A → List ℕ) → A → List ℕ
sized form value = to_be_bytes w32 (length (form value)) ++ form value

-- where the number of a field's bytes is to begin
abbrev pub SizedBegins : {A : Type 0} → (A → Type 0) → (A → List ℕ) → List ℕ → FormFault → Type 0
SizedBegins IsGood form = ShowsBehind (λ size. size < 2 ^ 32) (to_be_bytes w32) (IsCut 4) (FieldBegins IsGood form)

-- where the kind is to begin, which is a byte
abbrev pub ShowsBehindKind : ℕ → (List ℕ → FormFault → Type 0) → List ℕ → FormFault → Type 0
ShowsBehindKind kind next = ShowsBehindByte (λ byte. ShowsUnless (byte == kind) Kind next)
