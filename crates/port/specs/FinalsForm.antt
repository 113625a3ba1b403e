-- The bytes of the finals of a view, and which fault shows first in others.
use Rattle.std.specs.Prelude.{ℕ, ◌^◌, ◌<◌, ◌≤◌, List, ◌∷◌, ◌++◌, length, map, Option}
use Rattle.std.specs.List.{flat_map, AllByRecursion}
use Rattle.std.specs.Int.{w16, w32, to_be_bytes}
use Rattle.nim_base.specs.declared.form_fault.FormFault.{FormFault}
use Rattle.tail_map.specs.TailMap.{IsMap}
use Rattle.tail_map.specs.MapForm.{map_bytes}
use Rattle.statement.specs.Ids.{IsRising}
use Rattle.statement.specs.Mark.{IsSignature, SignatureBegins}
use Rattle.statement.specs.FormFault.{ShowsBehind, ShowsBehindId, ShowsInList, ShowsInWhole}
use Rattle.port.specs.View.{FinalMap}
use Rattle.port.specs.Field.{sized, SizedBegins, ShowsBehindKind}

abbrev pub id_of : FinalMap → ℕ
id_of ended = ended.id

-- the finals that have bytes: from 1 to 15, in rising ids, with signatures within the limits
pub record AreFinals (finals : List FinalMap) : Type 0 where
  pub rising : IsRising (map id_of finals)
  pub each : AllByRecursion (λ ended. IsSignature ended.sig) finals
  pub some : 1 ≤ length finals
  pub few : length finals ≤ 15

-- a signature within the limits, and an id of four bytes and a map, which each has by its type
pub record IsFinal (ended : FinalMap) : Type 0 where
  pub id : ended.id < 2 ^ 32
  pub sig : IsSignature ended.sig
  pub map : IsMap ended.map

-- the finals that are read
pub record IsFinals (finals : List FinalMap) : Type 0 where
  pub within : AreFinals finals
  pub each : AllByRecursion IsFinal finals

-- length of the signature(2), signature
abbrev pub signature_bytes : List ℕ → List ℕ
signature_bytes sig = to_be_bytes w16 (length sig) ++ sig

-- id(4), length of the signature(2), signature, length of the map(4), map
abbrev pub final_bytes : FinalMap → List ℕ
final_bytes ended = to_be_bytes w32 ended.id ++ (signature_bytes ended.sig ++ sized map_bytes ended.map)

-- the kind, 31 in hexadecimal, the number of finals(1), and each final
abbrev pub finals_bytes : List FinalMap → List ℕ
finals_bytes finals = 0x31 ∷ length finals ∷ flat_map final_bytes finals

-- where a final is to begin, behind the id before it
abbrev pub FinalBegins : Option ℕ → List ℕ → FormFault → Type 0
FinalBegins before = ShowsBehindId before (ShowsBehind IsSignature signature_bytes SignatureBegins (λ _. SizedBegins IsMap map_bytes))

-- where finals are to begin
abbrev pub FinalsBegin : List ℕ → FormFault → Type 0
FinalsBegin = ShowsBehindKind 0x31 (ShowsInList IsFinal final_bytes id_of FinalBegins)

-- in bytes that are to be finals, and no more
abbrev pub FinalsShow : List ℕ → FormFault → Type 0
FinalsShow = ShowsInWhole IsFinals finals_bytes FinalsBegin
