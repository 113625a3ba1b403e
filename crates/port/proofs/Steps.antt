-- What a reader missed or found, by what its steps did.
use Rattle.std.proofs.Common.{◌≡◌, ℕ, zero, suc, ◌+◌, ◌^◌, ◌<◌, ◌≤◌, ◌⊎◌, inl, inr, List, [], ◌∷◌, ◌++◌, length, get_or, take, map, Option, Some, None, Result, Ok, Err, refl, sym, ap, subst, ◌∙◌, append_assoc, arith}
use Rattle.std.specs.Prelude.{IsTrue, IsFalse, MatchResult}
use Rattle.std.specs.List.{flat_map, AllByRecursion}
use Rattle.std.specs.Int.{w32, to_be_bytes}
use Rattle.std.proofs.lemmas.Bool.{and_from, le-leb, lt-leb}
use Rattle.std.proofs.lemmas.List.{get_or-append-add, length-append, append-nil}
use Rattle.std.proofs.lemmas.Grind.{flat_map-append}
use Rattle.nim_base.specs.declared.form_fault.FormFault.{FormFault}
use Rattle.nim_base.specs.declared.form_fault.FormFault.TheVariants.{Value, Order, Trailing, NoMemory}
use Rattle.chain_block.specs.declared.entry.Entry.{Entry}
use Rattle.chain_block.specs.declared.meta_block.MetaBlock.{MetaBlock}
use Rattle.chain_block.specs.Entry.{entry_bytes}
use Rattle.tail_map.specs.declared.tail_row.TailRow.{TailRow}
use Rattle.tail_map.specs.TailMap.{IsMap}
use Rattle.tail_map.specs.MapForm.{map_bytes}
use Rattle.statement.specs.declared.member.Member.{Member}
use Rattle.statement.specs.declared.view_block.ViewBlock.{ViewBlock}
use Rattle.statement.specs.Config.{IsConfig}
use Rattle.statement.specs.ConfigForm.{config_bytes}
use Rattle.statement.specs.ViewBlock.{IsViewBlock, view_block_bytes}
use Rattle.statement.specs.Ids.{is_above, RisesFrom, IsRising, last_id}
use Rattle.statement.specs.Mark.{IsSignature, SignatureBegins}
use Rattle.statement.specs.FormFault.{IsCut, ShowsAmong, ShowsInWhole, byte_form, is_number}
use Rattle.port.specs.Row.{Content}
use Rattle.port.specs.View.{FinalMap}
use Rattle.port.specs.Field.{FieldBegins, sized, SizedBegins}
use Rattle.port.specs.RowForm.{IsStored, IsBlock, block_bytes, IsRow, row_bytes, RowBegins}
use Rattle.port.specs.ViewForm.{IsView, view_bytes, ConfigShowsInView, ViewShows}
use Rattle.port.specs.FinalsForm.{id_of, IsFinal, IsFinals, signature_bytes, final_bytes, finals_bytes, FinalBegins, FinalsBegin}
use Rattle.port.specs.Finding.{AreBytes, Found, Missed, AreItems}

-- bytes that a cursor was made of
pub at_start : (bytes cursor : List ℕ) → cursor ≡ bytes → AreBytes bytes → AreBytes cursor
at_start bytes cursor same = subst AreBytes (sym same)

-- the bytes are read from their front, and no more may stand behind
pub whole_missed : {A : Type 0} (Good : A → Type 0) (form : A → List ℕ) (shows : List ℕ → FormFault → Type 0) (bytes cursor : List ℕ) (f : FormFault) → cursor ≡ bytes → Missed shows cursor f → Missed (ShowsInWhole Good form shows) bytes f
whole_missed Good form shows bytes cursor f same (inl none) = inl none
whole_missed Good form shows bytes cursor f same (inr shown) = inr (inl (subst (λ (bs : List ℕ). shows bs f) same shown))

pub rest_bytes : (old front rest : List ℕ) → old ≡ front ++ rest → AreBytes old → AreBytes rest
rest_bytes old front rest at fits i =
    let same : get_or old (length front + i) 0 ≡ get_or rest i 0 = ap (λ (bs : List ℕ). get_or bs (length front + i) 0) at ∙ get_or-append-add front rest i 0 in
    omega (arith, same, fits (length front + i))

-- ---- rows

module _ (old fields : List ℕ) (fits : AreBytes old) (kind : old ≡ 0x50 ∷ fields) where
  fits_fields : AreBytes fields
  fits_fields = rest_bytes old (0x50 ∷ []) fields kind fits

  pub entry_missed : (f : FormFault) → (AreBytes fields → Missed (SizedBegins IsStored entry_bytes) fields f) → Missed RowBegins old f
  entry_missed f missed = elim (missed fits_fields) [ inl none ↦ inl none | inr shown ↦ inr (inr (0x50, fields, omega arith, kind, inr (refl, inl shown))) ]

  module _ (entry : Entry) (after : List ℕ) (found : AreBytes fields → Found IsStored (sized entry_bytes) fields after entry) where
    fits_after : AreBytes after
    fits_after = rest_bytes fields (sized entry_bytes entry) after (found fits_fields).1 fits_fields

    pub block_missed : (f : FormFault) → (AreBytes after → Missed (FieldBegins IsBlock block_bytes 73) after f) → Missed RowBegins old f
    block_missed f missed =
        let held = found fits_fields in
        elim (missed fits_after) [ inl none ↦ inl none | inr shown ↦ inr (inr (0x50, fields, omega arith, kind, inr (refl, inr (entry, after, held.0, held.1, shown)))) ]

    pub row_found : (block : MetaBlock) (new : List ℕ) → (AreBytes after → Found IsBlock block_bytes after new block) → Found IsRow row_bytes old new (record { entry = entry; metablock = block })
    row_found block new last =
        let held = found fits_fields in
        let end = last fits_after in (
          record { entry = held.0; metablock = end.0 },
          kind ∙ ap (λ bs. 0x50 ∷ bs) (held.1 ∙ ap (λ bs. sized entry_bytes entry ++ bs) end.1 ∙ sym (append_assoc (sized entry_bytes entry) (block_bytes block) new)),
        )

-- ---- views

module _ (old fields : List ℕ) (fits : AreBytes old) (kind : old ≡ 0x51 ∷ fields) where
  fits_view : AreBytes fields
  fits_view = rest_bytes old (0x51 ∷ []) fields kind fits

  pub view_block_missed : (f : FormFault) → (AreBytes fields → Missed (FieldBegins IsViewBlock view_block_bytes 73) fields f) → Missed ViewShows old f
  view_block_missed f missed = elim (missed fits_view) [ inl none ↦ inl none | inr shown ↦ inr (inr (0x51, fields, omega arith, kind, inr (refl, inl shown))) ]

  module _ (block : ViewBlock) (after : List ℕ) (found : AreBytes fields → Found IsViewBlock view_block_bytes fields after block) where
    pub config_missed : (f : FormFault) → Missed ConfigShowsInView after f → Missed ViewShows old f
    config_missed f missed =
        let held = found fits_view in
        elim missed [ inl none ↦ inl none | inr shown ↦ inr (inr (0x51, fields, omega arith, kind, inr (refl, inr (block, after, held.0, held.1, shown)))) ]

    pub view_found : (members : List Member) → IsConfig members × (after ≡ config_bytes members) → IsView (block, members) × (old ≡ view_bytes (block, members))
    view_found members end =
        let held = found fits_view in
        (record { block = held.0; config = end.0 }, kind ∙ ap (λ bs. 0x51 ∷ bs) (held.1 ∙ ap (λ bs. view_block_bytes block ++ bs) end.1))

-- ---- finals

module _ (before : Option ℕ) (old fields : List ℕ) (id : ℕ) (fits : AreBytes old) (first : AreBytes old → Found (λ n. n < 2 ^ 32) (to_be_bytes w32) old fields id) (above : IsTrue (is_above before id)) where
  fits_final : AreBytes fields
  fits_final = rest_bytes old (to_be_bytes w32 id) fields (first fits).1 fits

  pub sig_missed : (f : FormFault) → (AreBytes fields → Missed SignatureBegins fields f) → Missed (FinalBegins before) old f
  sig_missed f missed =
      let held = first fits in
      elim (missed fits_final) [ inl none ↦ inl none | inr shown ↦ inr (inr (id, fields, held.0, held.1, inr (above, inl shown))) ]

  module _ (sig after : List ℕ) (found : AreBytes fields → Found IsSignature signature_bytes fields after sig) where
    fits_map : AreBytes after
    fits_map = rest_bytes fields (signature_bytes sig) after (found fits_final).1 fits_final

    pub map_missed : (f : FormFault) → (AreBytes after → Missed (SizedBegins IsMap map_bytes) after f) → Missed (FinalBegins before) old f
    map_missed f missed =
        let held = first fits in
        let next = found fits_final in
        elim (missed fits_map) [ inl none ↦ inl none | inr shown ↦ inr (inr (id, fields, held.0, held.1, inr (above, inr (sig, after, next.0, next.1, shown)))) ]

    pub final_found : (rows : List TailRow) (new : List ℕ) → (AreBytes after → Found IsMap (sized map_bytes) after new rows)
        → Found (λ ended. IsTrue (is_above before ended.id) × IsFinal ended) final_bytes old new (record { id = id; map = rows; sig = sig })
    final_found rows new last =
        let held = first fits in
        let next = found fits_final in
        let end = last fits_map in
        let fields_are : fields ≡ (signature_bytes sig ++ sized map_bytes rows) ++ new = next.1 ∙ ap (λ bs. signature_bytes sig ++ bs) end.1 ∙ sym (append_assoc (signature_bytes sig) (sized map_bytes rows) new) in (
          (above, record { id = held.0; sig = next.0; map = end.0 }),
          held.1 ∙ ap (λ bs. to_be_bytes w32 id ++ bs) fields_are ∙ sym (append_assoc (to_be_bytes w32 id) (signature_bytes sig ++ sized map_bytes rows) new),
        )

-- ---- one final after the other

all_push : {A : Type 0} (P : A → Type 0) (xs : List A) (x : A) → AllByRecursion P xs → P x → AllByRecursion P (xs ++ x ∷ [])
all_push P [] x all one = (one, tt)
all_push P (y ∷ xs) x all one = (all.0, all_push P xs x all.1 one)

-- one element more, as at a step of a loop
pub all_more : {A : Type 0} (P : A → Type 0) (xs : List A) (i : ℕ) (d : A) → i < length xs → AllByRecursion P (take i xs) → P (get_or xs i d) → AllByRecursion P (take (i + 1) xs)
all_more P [] i d below all one = absurd (omega arith)
all_more P (x ∷ xs) zero d below all one = (one, tt)
all_more P (x ∷ xs) (suc i) d below all one =
    let rest : AllByRecursion P (take (suc (i + 1)) (x ∷ xs)) = (all.0, all_more P xs i d (omega arith) all.1 one) in
    let count : suc (i + 1) ≡ suc i + 1 = omega arith in
    subst (λ (n : ℕ). AllByRecursion P (take n (x ∷ xs))) count rest

rises_push : (start : Option ℕ) (finals : List FinalMap) (ended : FinalMap) → RisesFrom start (map id_of finals) → IsTrue (is_above (last_id start (map id_of finals)) ended.id) → RisesFrom start (map id_of (finals ++ ended ∷ []))
rises_push start [] ended up above = (above, tt)
rises_push start (first ∷ finals) ended up above = (up.0, rises_push (Some first.id) finals ended up.1 above)

last_push : (start : Option ℕ) (finals : List FinalMap) (ended : FinalMap) → last_id start (map id_of (finals ++ ended ∷ [])) ≡ Some ended.id
last_push start [] ended = refl
last_push start (first ∷ finals) ended = last_push (Some first.id) finals ended

-- these were read up to here, and this id stands last
pub record Stands (old now : List ℕ) (finals : List FinalMap) (before : Option ℕ) : Type 0 where
  pub rising : IsRising (map id_of finals)
  pub each : AllByRecursion IsFinal finals
  pub last : before ≡ last_id None (map id_of finals)
  pub form : old ≡ flat_map final_bytes finals ++ now

module _ (old now : List ℕ) (finals : List FinalMap) (before : Option ℕ) (fits : AreBytes old) (stands : Stands old now finals before) where
  fits_now : AreBytes now
  fits_now = rest_bytes old (flat_map final_bytes finals) now stands.form fits

  pub stands_more : (ended : FinalMap) (new : List ℕ) → (AreBytes now → Found (λ ended. IsTrue (is_above before ended.id) × IsFinal ended) final_bytes now new ended) → Stands old new (finals ++ ended ∷ []) (Some ended.id)
  stands_more ended new found =
      let held = found fits_now in
      let more : flat_map final_bytes (finals ++ ended ∷ []) ≡ flat_map final_bytes finals ++ final_bytes ended = flat_map-append final_bytes finals (ended ∷ []) ∙ ap (λ bs. flat_map final_bytes finals ++ bs) (append-nil (final_bytes ended)) in
      record {
        rising = rises_push None finals ended stands.rising (subst (λ (b : Option ℕ). IsTrue (is_above b ended.id)) stands.last held.0.0);
        each = all_push IsFinal finals ended stands.each held.0.1;
        last = sym (last_push None finals ended);
        form = stands.form ∙ ap (λ bs. flat_map final_bytes finals ++ bs) held.1 ∙ sym (append_assoc (flat_map final_bytes finals) (final_bytes ended) new) ∙ ap (λ (bs : List ℕ). bs ++ new) (sym more);
      }

  pub among_missed : (number : ℕ) (f : FormFault) → length finals < number → (AreBytes now → Missed (FinalBegins before) now f) → Missed (ShowsAmong IsFinal final_bytes id_of FinalBegins number) old f
  among_missed number f lt missed =
      elim (missed fits_now) [
        | inl none ↦ inl none
        | inr shown ↦ inr (finals, now, stands.form, stands.rising, stands.each, lt, subst (λ (b : Option ℕ). FinalBegins b now f) stands.last shown)
      ]

-- ---- the number of finals, and these

pub is_number_in : (n : ℕ) → 1 ≤ n → n ≤ 15 → IsTrue (is_number n)
is_number_in n some few = and_from _ _ (le-leb 1 n some) (le-leb n 15 few)

pub is_number_zero : (n : ℕ) → n ≡ 0 → IsFalse (is_number n)
is_number_zero n e = rw e refl

pub is_number_above : (n : ℕ) → 15 < n → IsFalse (is_number n)
is_number_above n many = rw (le-leb 1 n (omega arith), lt-leb n 15 many) refl

sigs_of : (finals : List FinalMap) → AllByRecursion IsFinal finals → AllByRecursion (λ ended. IsSignature ended.sig) finals
sigs_of [] all = tt
sigs_of (ended ∷ finals) all = (all.0.sig, sigs_of finals all.1)

module _ (old fields : List ℕ) (fits : AreBytes old) (kind : old ≡ 0x31 ∷ fields) where
  fits_finals : AreBytes fields
  fits_finals = rest_bytes old (0x31 ∷ []) fields kind fits

  pub number_missed : (f : FormFault) → (AreBytes fields → Missed (IsCut 1) fields f) → Missed FinalsBegin old f
  number_missed f missed = elim (missed fits_finals) [ inl none ↦ inl none | inr shown ↦ inr (inr (0x31, fields, omega arith, kind, inr (refl, inl shown))) ]

  module _ (n : ℕ) (after : List ℕ) (found : AreBytes fields → Found (λ n. n < 2 ^ 8) byte_form fields after n) where
    pub number_wrong : IsFalse (is_number n) → Missed FinalsBegin old Value
    number_wrong off =
        let held = found fits_finals in
        inr (inr (0x31, fields, omega arith, kind, inr (refl, inr (n, after, held.0, held.1, inl (off, refl)))))

    pub finals_read : IsTrue (is_number n) → 1 ≤ n → n ≤ 15 → {B : Type 0} (view : B → List FinalMap) (new : List ℕ) (r : Result B FormFault)
        → (AreBytes after → MatchResult r (λ x. Found (AreItems id_of IsFinal n) (flat_map final_bytes) after new (view x)) (Missed (ShowsAmong IsFinal final_bytes id_of FinalBegins n) after))
        → MatchResult r (λ x. Found IsFinals finals_bytes old new (view x)) (Missed FinalsBegin old)
    finals_read on some few view new (Ok x) items =
        let held = found fits_finals in
        let all = items (rest_bytes fields (n ∷ []) after held.1 fits_finals) in
        let len = all.0.0 in (
          record { within = record { rising = all.0.1; each = sigs_of (view x) all.0.2; some = omega (arith, len, some); few = omega (arith, len, few) }; each = all.0.2 },
          kind ∙ ap (λ bs. 0x31 ∷ bs) (held.1 ∙ ap (λ bs. n ∷ bs) all.1 ∙ ap (λ (k : ℕ). k ∷ (flat_map final_bytes (view x) ++ new)) (sym len)),
        )
    finals_read on some few view new (Err f) items =
        let held = found fits_finals in
        elim (items (rest_bytes fields (n ∷ []) after held.1 fits_finals)) [
          | inl none ↦ inl none
          | inr shown ↦ inr (inr (0x31, fields, omega arith, kind, inr (refl, inr (n, after, held.0, held.1, inr (on, shown)))))
        ]
