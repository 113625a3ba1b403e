-- The reader of statements.
use Rattle.std.proofs.Common.{◌≡◌, ℕ, ◌^◌, ◌<◌, inl, inr, List, [], ◌∷◌, ◌++◌, length, Result, Ok, Err, refl, sym, ap, subst, ◌∙◌, append_assoc, arith}
use Rattle.std.specs.Int.{w64, to_be_bytes}
use Rattle.std.proofs.lemmas.Bool.{cases_eq, ne_eqb}
use Rattle.nim_base.specs.declared.form_fault.FormFault.{FormFault}
use Rattle.nim_base.specs.declared.form_fault.FormFault.TheVariants.{Kind}
use Rattle.statement.specs.declared.statement.Statement.{Statement}
use Rattle.statement.specs.declared.statement.Statement.TheVariants.{Held, Latest, Final}
use Rattle.statement.specs.Statement.{IsStatement, statement_bytes, FieldsShow, StatementBegins}
use Rattle.statement.specs.FormFault.{IsCut}
use Rattle.statement.specs.Reading.{byte_at, held_at, latest_at, final_at, fields_at, statement_at}
use Rattle.statement.proofs.Fields.{wide64}
use Rattle.statement.proofs.Readers.{IsReader, behind, said, formed, made, fixed, byte_reader, pair_field, bytes_field, number_field}

abbrev kind_of : Statement → ℕ
kind_of (Held view handle tail count) = 0x20
kind_of (Latest view handle tail count nonce) = 0x21
kind_of (Final view next map) = 0x22

abbrev fields : Statement → List ℕ
fields (Held view handle tail count) = view ++ handle ++ tail ++ to_be_bytes w64 count
fields (Latest view handle tail count nonce) = view ++ handle ++ tail ++ to_be_bytes w64 count ++ nonce
fields (Final view next map) = view ++ next ++ map

abbrev IsOf : ℕ → Statement → Type 0
IsOf kind statement = (kind_of statement ≡ kind) × IsStatement statement

abbrev IsDigest : List ℕ → Type 0
IsDigest digest = length digest ≡ 32

abbrev held_back : Statement → List ℕ × (List ℕ × (List ℕ × ℕ))
held_back (Held view handle tail count) = (view, (handle, (tail, count)))
held_back (Latest view handle tail count nonce) = ([], ([], ([], 0)))
held_back (Final view next map) = ([], ([], ([], 0)))

abbrev HeldGood : List ℕ × (List ℕ × (List ℕ × ℕ)) → Type 0
HeldGood x = IsDigest x.0 × (IsDigest x.1.0 × (IsDigest x.1.1.0 × (x.1.1.1 < 2 ^ 64)))

abbrev held_form : List ℕ × (List ℕ × (List ℕ × ℕ)) → List ℕ
held_form x = x.0 ++ (x.1.0 ++ (x.1.1.0 ++ to_be_bytes w64 x.1.1.1))

abbrev held_of : List ℕ × (List ℕ × (List ℕ × ℕ)) → Statement
held_of x = Held x.0 x.1.0 x.1.1.0 x.1.1.1

held_from : (s : Statement) → IsOf 0x20 s → HeldGood (held_back s) × (held_of (held_back s) ≡ s) × (fields s ≡ held_form (held_back s))
held_from (Held view handle tail count) (e, (v, h, t, c)) = ((v, (h, (t, c))), refl, simp append_assoc)
held_from (Latest view handle tail count nonce) (e, is) = absurd (omega (arith, e))
held_from (Final view next map) (e, is) = absurd (omega (arith, e))

held_reader : IsReader held_at (IsOf 0x20) fields (IsCut 104)
unfolding held_at
held_reader =
    made _ HeldGood held_form _ held_of held_back (IsOf 0x20) fields
    (λ x good. ((refl, (good.0, good.1.0, good.1.1.0, good.1.1.1)), simp append_assoc))
    held_from
    (fixed 104 _ _ _ (pair_field 32 72 _ _ _ _ _ _ (bytes_field 32) (pair_field 32 40 _ _ _ _ _ _ (bytes_field 32) (pair_field 32 8 _ _ _ _ _ _ (bytes_field 32) (number_field w64 (2 ^ 64) wide64)))))

abbrev latest_back : Statement → List ℕ × (List ℕ × (List ℕ × (ℕ × List ℕ)))
latest_back (Held view handle tail count) = ([], ([], ([], (0, []))))
latest_back (Latest view handle tail count nonce) = (view, (handle, (tail, (count, nonce))))
latest_back (Final view next map) = ([], ([], ([], (0, []))))

abbrev LatestGood : List ℕ × (List ℕ × (List ℕ × (ℕ × List ℕ))) → Type 0
LatestGood x = IsDigest x.0 × (IsDigest x.1.0 × (IsDigest x.1.1.0 × ((x.1.1.1.0 < 2 ^ 64) × (length x.1.1.1.1 ≡ 16))))

abbrev latest_form : List ℕ × (List ℕ × (List ℕ × (ℕ × List ℕ))) → List ℕ
latest_form x = x.0 ++ (x.1.0 ++ (x.1.1.0 ++ (to_be_bytes w64 x.1.1.1.0 ++ x.1.1.1.1)))

abbrev latest_of : List ℕ × (List ℕ × (List ℕ × (ℕ × List ℕ))) → Statement
latest_of x = Latest x.0 x.1.0 x.1.1.0 x.1.1.1.0 x.1.1.1.1

latest_from : (s : Statement) → IsOf 0x21 s → LatestGood (latest_back s) × (latest_of (latest_back s) ≡ s) × (fields s ≡ latest_form (latest_back s))
latest_from (Held view handle tail count) (e, is) = absurd (omega (arith, e))
latest_from (Latest view handle tail count nonce) (e, (v, h, t, c, n)) = ((v, (h, (t, (c, n)))), refl, simp append_assoc)
latest_from (Final view next map) (e, is) = absurd (omega (arith, e))

latest_reader : IsReader latest_at (IsOf 0x21) fields (IsCut 120)
unfolding latest_at
latest_reader =
    made _ LatestGood latest_form _ latest_of latest_back (IsOf 0x21) fields
    (λ x good. ((refl, (good.0, good.1.0, good.1.1.0, good.1.1.1.0, good.1.1.1.1)), simp append_assoc))
    latest_from
    (fixed 120 _ _ _ (pair_field 32 88 _ _ _ _ _ _ (bytes_field 32) (pair_field 32 56 _ _ _ _ _ _ (bytes_field 32) (pair_field 32 24 _ _ _ _ _ _ (bytes_field 32) (pair_field 8 16 _ _ _ _ _ _ (number_field w64 (2 ^ 64) wide64) (bytes_field 16))))))

abbrev final_back : Statement → List ℕ × (List ℕ × List ℕ)
final_back (Held view handle tail count) = ([], ([], []))
final_back (Latest view handle tail count nonce) = ([], ([], []))
final_back (Final view next map) = (view, (next, map))

abbrev FinalGood : List ℕ × (List ℕ × List ℕ) → Type 0
FinalGood x = IsDigest x.0 × (IsDigest x.1.0 × IsDigest x.1.1)

abbrev final_form : List ℕ × (List ℕ × List ℕ) → List ℕ
final_form x = x.0 ++ (x.1.0 ++ x.1.1)

abbrev final_of : List ℕ × (List ℕ × List ℕ) → Statement
final_of x = Final x.0 x.1.0 x.1.1

final_from : (s : Statement) → IsOf 0x22 s → FinalGood (final_back s) × (final_of (final_back s) ≡ s) × (fields s ≡ final_form (final_back s))
final_from (Held view handle tail count) (e, is) = absurd (omega (arith, e))
final_from (Latest view handle tail count nonce) (e, is) = absurd (omega (arith, e))
final_from (Final view next map) (e, (v, n, m)) = ((v, (n, m)), refl, simp append_assoc)

final_reader : IsReader final_at (IsOf 0x22) fields (IsCut 96)
unfolding final_at
final_reader =
    made _ FinalGood final_form _ final_of final_back (IsOf 0x22) fields
    (λ x good. ((refl, (good.0, good.1.0, good.1.1)), simp append_assoc))
    final_from
    (fixed 96 _ _ _ (pair_field 32 64 _ _ _ _ _ _ (bytes_field 32) (pair_field 32 32 _ _ _ _ _ _ (bytes_field 32) (bytes_field 32))))

no_statement : (s : Statement) (kind : ℕ) → kind_of s ≡ kind → (kind ≡ 0x20 → ⊥) → (kind ≡ 0x21 → ⊥) → (kind ≡ 0x22 → ⊥) → ⊥
no_statement (Held view handle tail count) kind e not_held not_latest not_final = not_held (sym e)
no_statement (Latest view handle tail count nonce) kind e not_held not_latest not_final = not_latest (sym e)
no_statement (Final view next map) kind e not_held not_latest not_final = not_final (sym e)

abbrev failed : FormFault → Result (Statement × List ℕ) FormFault
failed f = Err f

refused : (f g : FormFault) → failed f ≡ failed g → g ≡ f
refused f g e = cc

other_reader : (kind : ℕ) → (kind ≡ 0x20 → ⊥) → (kind ≡ 0x21 → ⊥) → (kind ≡ 0x22 → ⊥) → IsReader (fields_at kind) (IsOf kind) fields (FieldsShow kind)
other_reader kind not_held not_latest not_final =
    let a = ne_eqb kind 0x20 not_held in
    let b = ne_eqb kind 0x21 not_latest in
    let c = ne_eqb kind 0x22 not_final in
    let reads : (text : List ℕ) → fields_at kind text ≡ Err Kind = λ text. rw (a, b, c) refl in
    record {
      again = λ s rest is. absurd (no_statement s kind is.0 not_held not_latest not_final);
      found = λ text s rest fits e. absurd (let never : Err Kind ≡ Ok (s, rest) = sym (reads text) ∙ e in cc);
      shown_read = λ text f shown. let is : f ≡ Kind = rw (a, b, c) at shown in reads text ∙ ap (λ (f : FormFault). Err f) (sym is);
      read_shown = λ text f fits e. rw (a, b, c) (refused Kind f (sym (reads text) ∙ e));
    }

fields_reader : (kind : ℕ) → IsReader (fields_at kind) (IsOf kind) fields (FieldsShow kind)
fields_reader kind =
    elim (cases_eq kind 0x20) [
      | inl e ↦ subst (λ (k : ℕ). IsReader (fields_at k) (IsOf k) fields (FieldsShow k)) (sym e) held_reader
      | inr not_held ↦ elim (cases_eq kind 0x21) [
        | inl e ↦ subst (λ (k : ℕ). IsReader (fields_at k) (IsOf k) fields (FieldsShow k)) (sym e) latest_reader
        | inr not_latest ↦ elim (cases_eq kind 0x22) [
          | inl e ↦ subst (λ (k : ℕ). IsReader (fields_at k) (IsOf k) fields (FieldsShow k)) (sym e) final_reader
          | inr not_final ↦ other_reader kind not_held not_latest not_final
        ]
      ]
    ]

bytes_are : (s : Statement) → statement_bytes s ≡ kind_of s ∷ fields s
bytes_are (Held view handle tail count) = refl
bytes_are (Latest view handle tail count nonce) = refl
bytes_are (Final view next map) = refl

kind_fits : (s : Statement) → kind_of s < 2 ^ 8
kind_fits (Held view handle tail count) = omega arith
kind_fits (Latest view handle tail count nonce) = omega arith
kind_fits (Final view next map) = omega arith

pub statement_reader : IsReader statement_at IsStatement statement_bytes StatementBegins
unfolding statement_at
statement_reader =
    formed _ _ (λ s. kind_of s ∷ fields s) statement_bytes _ bytes_are
    (said _ (λ s. (kind_of s < 2 ^ 8) × IsStatement s) IsStatement _ _ (λ s good. good.1) (λ s good. (kind_fits s, good))
    (behind byte_at fields_at _ _ _ IsStatement fields FieldsShow kind_of byte_reader (λ kind lt. fields_reader kind)))
