-- The reader of receipts.
use Rattle.std.proofs.Common.{◌≡◌, ℕ, ◌^◌, ◌<◌, cond, List, [], ◌∷◌, ◌++◌, length, Option, Ok, Err, refl, sym, ap, subst, append_assoc, arith}
use Rattle.std.specs.Prelude.{IsTrue}
use Rattle.std.specs.List.{flat_map, AllByRecursion}
use Rattle.std.specs.Int.{w16, w32, to_be_bytes}
use Rattle.std.proofs.lemmas.Bool.{and_from, and_parts, le-leb, leb-true}
use Rattle.nim_base.specs.declared.form_fault.FormFault.TheVariants.{Value, Order}
use Rattle.statement.specs.Ids.{is_above}
use Rattle.statement.specs.Statement.{IsStatement, statement_bytes, StatementBegins}
use Rattle.statement.specs.Mark.{Content, id_of, is_signature_size, IsSignature, IsMark, mark_bytes, SignatureBegins, MarkBegins}
use Rattle.statement.specs.Receipt.{IsReceipt, receipt_bytes, ReceiptBegins}
use Rattle.statement.specs.Reading.{◌>>=◌, number_at, bytes_at, list_at, signature_at, mark_at, statement_at, receipt_at}
use Rattle.statement.proofs.Fields.{wide16, wide32}
use Rattle.statement.proofs.Readers.{IsReader, behind, guarded, said, formed, made, paired, fixed, bytes_field, number_field}
use Rattle.statement.proofs.Wholes.{IsList, few, list_reader, kinded}
use Rattle.statement.proofs.StatementReader.{statement_reader}

signature_reader : IsReader signature_at IsSignature (λ sig. to_be_bytes w16 (length sig) ++ sig) SignatureBegins
unfolding signature_at
signature_reader =
    said _ (λ sig. (length sig < 2 ^ 16) × IsTrue (is_signature_size (length sig))) IsSignature _ _
    (λ sig good. let p = and_parts _ _ good.1 in (leb-true 1 (length sig) p.0, leb-true (length sig) 16384 p.1))
    (λ sig good. (omega (arith, good.1), and_from _ _ (le-leb 1 (length sig) good.0) (le-leb (length sig) 16384 good.1)))
    (behind (number_at w16) (λ size text. cond (is_signature_size size) (bytes_at size text) (Err Value)) _ _ _ (λ sig. IsTrue (is_signature_size (length sig))) (λ sig. sig) _ (λ sig. length sig)
    (fixed 2 (number_at w16) _ _ (number_field w16 (2 ^ 16) wide16))
    (λ size lt. said _ (λ sig. IsTrue (is_signature_size size) × (length sig ≡ size)) (λ sig. (length sig ≡ size) × IsTrue (is_signature_size (length sig))) _ _
    (λ sig good. (good.1, subst (λ (n : ℕ). IsTrue (is_signature_size n)) (sym good.1) good.0))
    (λ sig good. (subst (λ (n : ℕ). IsTrue (is_signature_size n)) good.0 good.1, good.0))
    (guarded (is_signature_size size) Value (bytes_at size) _ _ _ (fixed size (bytes_at size) _ _ (bytes_field size)))))

abbrev sig_form : Content → List ℕ
sig_form mark = to_be_bytes w16 (length mark.sig) ++ mark.sig

mark_reader : (before : Option ℕ) → IsReader (mark_at before) (λ mark. IsTrue (is_above before (id_of mark)) × IsMark mark) mark_bytes (MarkBegins before)
unfolding mark_at
mark_reader before =
    let sig : (id : ℕ) → IsReader (λ text. signature_at text >>= λ sig. Ok (record { id = id; sig = sig.0 }, sig.1)) (λ (mark : Content). (mark.id ≡ id) × IsSignature mark.sig) sig_form _ =
    λ id. made signature_at _ _ _ (λ sig. record { id = id; sig = sig }) (λ mark. mark.sig) _ _
    (λ sig good. ((refl, good), refl))
    (λ mark good. (good.1, ap (λ (id : ℕ). record { id = id; sig = mark.sig }) (sym good.0), refl))
    signature_reader in
    formed _ _ (λ mark. to_be_bytes w32 mark.id ++ sig_form mark) mark_bytes _ (λ mark. append_assoc (to_be_bytes w32 mark.id) (to_be_bytes w16 (length mark.sig)) mark.sig)
    (said _ (λ mark. (mark.id < 2 ^ 32) × (IsTrue (is_above before mark.id) × IsSignature mark.sig)) (λ mark. IsTrue (is_above before mark.id) × IsMark mark) _ _
    (λ mark good. (good.1.0, record { id = good.0; sig = good.1.1 })) (λ mark good. (good.1.id, (good.0, good.1.sig)))
    (behind (number_at w32) _ _ _ _ (λ mark. IsTrue (is_above before mark.id) × IsSignature mark.sig) sig_form _ (λ mark. mark.id) (fixed 4 (number_at w32) _ _ (number_field w32 (2 ^ 32) wide32))
    (λ id lt. said _ (λ mark. IsTrue (is_above before id) × ((mark.id ≡ id) × IsSignature mark.sig)) (λ mark. (mark.id ≡ id) × (IsTrue (is_above before mark.id) × IsSignature mark.sig)) _ _
    (λ mark good. (good.1.0, (subst (λ (i : ℕ). IsTrue (is_above before i)) (sym good.1.0) good.0, good.1.1)))
    (λ mark good. (subst (λ (i : ℕ). IsTrue (is_above before i)) good.0 good.1.0, (good.0, good.1.1)))
    (guarded (is_above before id) Order _ _ _ _ (sig id)))))

ids_of : (marks : List Content) → AllByRecursion IsMark marks → AllByRecursion (λ mark. mark.id < 2 ^ 32) marks
ids_of [] all = tt
ids_of (m ∷ ms) all = (all.0.id, ids_of ms all.1)

sigs_of : (marks : List Content) → AllByRecursion IsMark marks → AllByRecursion (λ mark. IsSignature mark.sig) marks
sigs_of [] all = tt
sigs_of (m ∷ ms) all = (all.0.sig, sigs_of ms all.1)

marks_of : (marks : List Content) → AllByRecursion (λ mark. mark.id < 2 ^ 32) marks → AllByRecursion (λ mark. IsSignature mark.sig) marks → AllByRecursion IsMark marks
marks_of [] ids sigs = tt
marks_of (m ∷ ms) ids sigs = (record { id = ids.0; sig = sigs.0 }, marks_of ms ids.1 sigs.1)

abbrev IsMarkList : List Content → Type 0
IsMarkList = IsList mark_at id_of IsMark mark_bytes MarkBegins mark_reader

pub receipt_reader : IsReader receipt_at IsReceipt receipt_bytes ReceiptBegins
unfolding receipt_at
receipt_reader =
    kinded 0x23 (omega arith) _ IsReceipt (λ receipt. statement_bytes receipt.statement ++ length receipt.marks ∷ flat_map mark_bytes receipt.marks) _
    (made _ _ _ _ (λ x. record { statement = x.0; marks = x.1 }) (λ receipt. (receipt.statement, receipt.marks)) IsReceipt (λ receipt. statement_bytes receipt.statement ++ length receipt.marks ∷ flat_map mark_bytes receipt.marks)
    (λ x good.
    let n = few (length x.1) good.1.0 in
    (record { statement = good.0; marks = record { rising = good.1.1; each = sigs_of x.1 good.1.2; some = n.0; few = n.1 }; ids = ids_of x.1 good.1.2 }, refl))
    (λ receipt good.
    let marks = good.marks in
    let count = length receipt.marks in
    ((good.statement, (and_from _ _ (le-leb 1 count marks.some) (le-leb count 15 marks.few), marks.rising, marks_of receipt.marks good.ids marks.each)), refl, refl))
    (paired statement_at (list_at mark_at id_of) IsStatement statement_bytes StatementBegins IsMarkList _ _ statement_reader (list_reader mark_at id_of IsMark mark_bytes MarkBegins mark_reader)))
