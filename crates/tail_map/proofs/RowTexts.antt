-- What reading one row tells, from the pieces that were taken.
use Rattle.std.proofs.Common.{◌≡◌, ℕ, ◌+◌, ◌<◌, inr, List, [], ◌∷◌, ◌++◌, length, take, drop, sym, ap, subst, ◌∙◌, append_assoc, arith}
use Rattle.std.specs.List.{flat_map}
use Rattle.std.specs.Int.{w64, from_be_bytes, to_be_bytes}
use Rattle.std.proofs.lemmas.List.{flat_map_more}
use Rattle.std.proofs.lemmas.Nat.{be_bytes_8}
use Rattle.nim_base.specs.declared.form_fault.FormFault.TheVariants.{Short, Value, Order}
use Rattle.tail_map.specs.declared.tail_row.TailRow.{TailRow}
use Rattle.tail_map.specs.TailMap.{IsCount}
use Rattle.tail_map.specs.MapForm.{row_bytes, IsBytes}
use Rattle.tail_map.specs.FormFault.{IsAbove, RowShows}
use Rattle.tail_map.proofs.Texts.{taken, front_bytes, rest_bytes, row_parts}

-- the handle was taken from the front
pub record Taken (old front rest handle : List ℕ) : Type 0 where
  pub len : length front ≡ 32
  pub form : old ≡ front ++ rest
  pub is : handle ≡ front

front_is : (old front rest handle : List ℕ) → Taken old front rest handle → (handle ≡ take 32 old) × (length old ≡ 32 + length rest)
front_is old front rest handle t = let p = taken 32 old front rest t.len t.form in (t.is ∙ sym p.0, p.2)

pub not_above : (rows : List TailRow) (old front rest handle : List ℕ) → Taken old front rest handle → (IsAbove rows handle → ⊥) → RowShows rows old Order
not_above rows old front rest handle t never =
    let p = front_is old front rest handle t in
    (omega (arith, p.1), λ over. never (subst (λ (h : List ℕ). IsAbove rows h) (sym p.0) over))

pub cut : (rows : List TailRow) (old front rest handle : List ℕ) → Taken old front rest handle → IsAbove rows handle → length rest < 40 → RowShows rows old Short
cut rows old front rest handle t over short =
    let p = front_is old front rest handle t in
    inr (omega (arith, p.1), subst (λ (h : List ℕ). IsAbove rows h) p.0 over)

module _ (old h t c one two three : List ℕ) (handle tail : List ℕ) (count : ℕ) (first : Taken old h one handle) (second : Taken one t two tail) (len : length c ≡ 8) (form : two ≡ c ++ three) (is : count ≡ from_be_bytes w64 c) where
  pieces : old ≡ h ++ (t ++ (c ++ three))
  pieces = first.form ∙ ap (λ (bs : List ℕ). h ++ bs) (second.form ∙ ap (λ (bs : List ℕ). t ++ bs) form)

  pub bad_count : (rows : List TailRow) → IsAbove rows handle → (IsCount count → ⊥) → RowShows rows old Value
  bad_count rows over never =
      let p = row_parts old h t c three first.len second.len len pieces in
      let q = front_is old h one handle first in
      let number : from_be_bytes w64 (take 8 (drop 64 old)) ≡ count = ap (from_be_bytes w64) p.2 ∙ sym is in
      (omega (arith, p.4), subst (λ (h : List ℕ). IsAbove rows h) q.0 over, subst (λ (n : ℕ). IsCount n → ⊥) (sym number) never)

  pub row_form : IsBytes old → old ≡ row_bytes (record { handle = handle; tail = tail; count = count }) ++ three
  row_form fits =
      let later = rest_bytes one t two second.form (rest_bytes old h one first.form fits) in
      let number : to_be_bytes w64 count ≡ c = be_bytes_8 c count len (front_bytes two c three form later) is in
      pieces
      ∙ sym (append_assoc h t (c ++ three)) ∙ sym (append_assoc (h ++ t) c three)
      ∙ ap (λ (bs : List ℕ). ((bs ++ t) ++ c) ++ three) (sym first.is)
      ∙ ap (λ (bs : List ℕ). ((handle ++ bs) ++ c) ++ three) (sym second.is)
      ∙ ap (λ (bs : List ℕ). ((handle ++ tail) ++ bs) ++ three) (sym number)

-- ---- one row more

pub rows_more : (rows : List TailRow) (row : TailRow) (old mid new : List ℕ) → old ≡ flat_map row_bytes rows ++ mid → mid ≡ row_bytes row ++ new → old ≡ flat_map row_bytes (rows ++ row ∷ []) ++ new
rows_more rows row old mid new before one =
    before ∙ ap (λ (bs : List ℕ). flat_map row_bytes rows ++ bs) one
    ∙ sym (append_assoc (flat_map row_bytes rows) (row_bytes row) new)
    ∙ ap (λ (bs : List ℕ). bs ++ new) (flat_map_more row_bytes [] rows row)
