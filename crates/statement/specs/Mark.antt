-- Marks: what contracts see of one, its bytes, and which fault shows first in others.
use Rattle.std.specs.Prelude.{ℕ, ◌^◌, ◌<◌, ◌≤◌, ◌&&◌, nat_le, Bool, List, ◌++◌, length, map, Option}
use Rattle.std.specs.List.{AllByRecursion}
use Rattle.std.specs.Int.{w16, w32, to_be_bytes}
use Rattle.nim_base.specs.declared.form_fault.FormFault.{FormFault}
use Rattle.nim_base.specs.declared.form_fault.FormFault.TheVariants.{Value}
use Rattle.statement.specs.Ids.{IsRising}
use Rattle.statement.specs.FormFault.{IsCut, ShowsBehind, ShowsBehindId, ShowsUnless}

-- an id, and the bytes of a signature
pub record Content : Type 0 where
  pub id : ℕ
  pub sig : List ℕ

abbrev pub id_of : Content → ℕ
id_of mark = mark.id

-- a signature has from 1 to 16,384 bytes
abbrev pub is_signature_size : ℕ → Bool
is_signature_size size = nat_le 1 size && nat_le size 16384

abbrev pub IsSignature : List ℕ → Type 0
IsSignature sig = (1 ≤ length sig) × (length sig ≤ 16384)

-- the marks that a receipt can have
pub record AreMarks (marks : List Content) : Type 0 where
  pub rising : IsRising (map id_of marks)
  pub each : AllByRecursion (λ mark. IsSignature mark.sig) marks
  pub some : 1 ≤ length marks
  pub few : length marks ≤ 15

-- within the limits, with an id of four bytes, which each mark of the code has by its type
pub record IsMark (mark : Content) : Type 0 where
  pub id : mark.id < 2 ^ 32
  pub sig : IsSignature mark.sig

-- id(4), length of the signature(2), signature
abbrev pub mark_bytes : Content → List ℕ
mark_bytes mark = to_be_bytes w32 mark.id ++ to_be_bytes w16 (length mark.sig) ++ mark.sig

-- where the length of a signature is to begin
abbrev pub SignatureBegins : List ℕ → FormFault → Type 0
SignatureBegins = ShowsBehind (λ size. size < 2 ^ 16) (to_be_bytes w16) (IsCut 2) (λ size. ShowsUnless (is_signature_size size) Value (IsCut size))

-- where a mark is to begin, behind the id before it
abbrev pub MarkBegins : Option ℕ → List ℕ → FormFault → Type 0
MarkBegins before = ShowsBehindId before SignatureBegins
