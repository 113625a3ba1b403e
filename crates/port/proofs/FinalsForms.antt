-- Finals have bytes of their own, and show one fault at most.
use Rattle.std.proofs.Common.{◌≡◌, ℕ, ◌+◌, ◌*◌, ◌^◌, ◌<◌, ◌≤◌, List, [], ◌∷◌, ◌++◌, length, Option, refl, sym, ap, subst, ◌∙◌, arith}
use Rattle.std.specs.Prelude.{IsTrue}
use Rattle.std.specs.List.{flat_map, AllByRecursion}
use Rattle.std.specs.Int.{w16, w32, w64, to_be_bytes}
use Rattle.std.proofs.lemmas.Bool.{and_from, le-leb}
use Rattle.std.proofs.lemmas.List.{length-append}
use Rattle.std.proofs.lemmas.List.Concat.{flat_map-cons}
use Rattle.nim_base.specs.declared.form_fault.FormFault.TheVariants.{Value, Order}
use Rattle.tail_map.specs.declared.tail_row.TailRow.{TailRow}
use Rattle.tail_map.specs.TailMap.{IsRow, IsMap}
use Rattle.tail_map.specs.MapForm.{row_bytes, head_bytes, map_bytes}
use Rattle.statement.specs.Ids.{is_above}
use Rattle.statement.specs.Mark.{is_signature_size, IsSignature, SignatureBegins}
use Rattle.statement.specs.FormFault.{IsCut, ShowsBehind, ShowsUnless}
use Rattle.port.specs.View.{FinalMap}
use Rattle.port.specs.Field.{sized, SizedBegins}
use Rattle.port.specs.FinalsForm.{id_of, AreFinals, IsFinal, IsFinals, signature_bytes, final_bytes, finals_bytes, FinalBegins, FinalsBegin, FinalsShow}
use Rattle.port.proofs.Forms.{Any, Ended, IsForm, said, held, bytes, number16, number32, behind, guarded, kinded, sized_field, whole, own_bytes}
use Rattle.port.proofs.Lists.{list}

abbrev pub OwnMaps : Type 0
OwnMaps = (a b : List TailRow) → IsMap a → IsMap b → map_bytes a ≡ map_bytes b → a ≡ b

rows_size : (rows : List TailRow) → AllByRecursion IsRow rows → length (flat_map row_bytes rows) ≡ 72 * length rows
rows_size [] all = refl
rows_size (row ∷ rows) all =
    let count = to_be_bytes w64 row.count in
    omega (arith, ap length (flat_map-cons row_bytes row rows), length-append (row_bytes row) (flat_map row_bytes rows), length-append (row.handle ++ row.tail) count, length-append row.handle row.tail, all.0.handle, all.0.tail, rows_size rows all.1)

pub map_small : (rows : List TailRow) → IsMap rows → length (map_bytes rows) < 2 ^ 32
map_small rows ok = omega (arith, length-append (head_bytes (length rows)) (flat_map row_bytes rows), rows_size rows ok.each, ok.few)

size_fits : (size : ℕ) → 1 ≤ size → size ≤ 16384 → IsTrue (is_signature_size size)
size_fits size some few = and_from _ _ (le-leb 1 size some) (le-leb size 16384 few)

signature_form : (text : List ℕ) → IsForm Any IsSignature signature_bytes SignatureBegins text
signature_form text =
    said Any (λ sig. (length sig < 2 ^ 16) × IsTrue (is_signature_size (length sig))) IsSignature signature_bytes SignatureBegins text (λ sig good. (omega (arith, good.1), size_fits (length sig) good.0 good.1))
    (behind Any (λ size. size < 2 ^ 16) (to_be_bytes w16) (IsCut 2) (λ sig. IsTrue (is_signature_size (length sig))) (λ sig. sig) (λ size. ShowsUnless (is_signature_size size) Value (IsCut size)) (λ sig. length sig) text (number16 text)
    (λ size rest lt at. said Any (λ sig. IsTrue (is_signature_size size) × (length sig ≡ size)) (λ sig. (length sig ≡ size) × IsTrue (is_signature_size (length sig))) (λ sig. sig) (ShowsUnless (is_signature_size size) Value (IsCut size)) rest
    (λ sig good. (subst (λ (n : ℕ). IsTrue (is_signature_size n)) good.0 good.1, good.0))
    (guarded Any (is_signature_size size) Value (λ sig. length sig ≡ size) (λ sig. sig) (IsCut size) rest (bytes size rest))))

abbrev final_of : ℕ → List TailRow → List ℕ → FinalMap
final_of id map sig = record { id = id; map = map; sig = sig }

same_final : (a b : FinalMap) → a.id ≡ b.id → a.sig ≡ b.sig → a.map ≡ b.map → a ≡ b
same_final a b i s m = ap (λ id. final_of id a.map a.sig) i ∙ ap (λ map. final_of b.id map a.sig) m ∙ ap (λ sig. final_of b.id b.map sig) s

module _ (maps : OwnMaps) where
  -- behind an id
  fields_form : (id : ℕ) (text : List ℕ)
      → IsForm Any (λ (ended : FinalMap). (ended.id ≡ id) × IsSignature ended.sig × IsMap ended.map) (λ ended. signature_bytes ended.sig ++ sized map_bytes ended.map) (ShowsBehind IsSignature signature_bytes SignatureBegins (λ _. SizedBegins IsMap map_bytes)) text
  fields_form id text =
      said Any (λ ended. IsSignature ended.sig × ((ended.id ≡ id) × IsMap ended.map)) _ _ _ text (λ ended good. (good.1, (good.0, good.2)))
      (behind Any IsSignature signature_bytes SignatureBegins (λ ended. (ended.id ≡ id) × IsMap ended.map) (λ ended. sized map_bytes ended.map) (λ _. SizedBegins IsMap map_bytes) (λ (ended : FinalMap). ended.sig) text (signature_form text)
      (λ sig rest good at. held Any IsMap (sized map_bytes) (SizedBegins IsMap map_bytes) rest (λ ended. (ended.sig ≡ sig) × ((ended.id ≡ id) × IsMap ended.map)) (λ ended. ended.map)
      (λ ended holds. holds.1.1) (λ a b holds_a holds_b same. same_final a b (holds_a.1.0 ∙ sym holds_b.1.0) (holds_a.0 ∙ sym holds_b.0) same)
      (sized_field IsMap map_bytes maps map_small rest)))

  final_form : (before : Option ℕ) (text : List ℕ) → IsForm Any (λ ended. IsTrue (is_above before (id_of ended)) × IsFinal ended) final_bytes (FinalBegins before) text
  final_form before text =
      said Any (λ ended. (ended.id < 2 ^ 32) × (IsTrue (is_above before ended.id) × IsSignature ended.sig × IsMap ended.map)) _ final_bytes (FinalBegins before) text (λ ended good. (good.1.id, (good.0, good.1.sig, good.1.map)))
      (behind Any (λ id. id < 2 ^ 32) (to_be_bytes w32) (IsCut 4) (λ ended. IsTrue (is_above before ended.id) × IsSignature ended.sig × IsMap ended.map) (λ ended. signature_bytes ended.sig ++ sized map_bytes ended.map)
      (λ id. ShowsUnless (is_above before id) Order (ShowsBehind IsSignature signature_bytes SignatureBegins (λ _. SizedBegins IsMap map_bytes))) (λ (ended : FinalMap). ended.id) text (number32 text)
      (λ id rest lt at. said Any (λ ended. IsTrue (is_above before id) × ((ended.id ≡ id) × IsSignature ended.sig × IsMap ended.map)) _ _ _ rest
      (λ ended good. (subst (λ (n : ℕ). IsTrue (is_above before n)) good.0 good.1.0, (good.0, good.1.1, good.1.2)))
      (guarded Any (is_above before id) Order _ _ _ rest (fields_form id rest))))

  pub finals_form : (text : List ℕ) → IsForm Ended IsFinals finals_bytes FinalsShow text
  finals_form text =
      whole IsFinals finals_bytes FinalsBegin text
      (kinded Any 0x31 (omega arith) IsFinals (λ finals. length finals ∷ flat_map final_bytes finals) _ text
      (λ fields. said Any _ IsFinals _ _ fields
      (λ finals good. let n = length finals in (and_from _ _ (le-leb 1 n good.within.some) (le-leb n 15 good.within.few), good.within.rising, good.each))
      (list id_of IsFinal final_bytes FinalBegins final_form fields)))

  pub own_finals : (a b : List FinalMap) → IsFinals a → IsFinals b → finals_bytes a ≡ finals_bytes b → a ≡ b
  own_finals = own_bytes IsFinals finals_bytes FinalsShow finals_form
