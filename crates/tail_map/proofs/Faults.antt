-- The fault that shows first is the one that reading gives.
use Rattle.std.proofs.Common.{◌≡◌, ℕ, suc, ◌+◌, ◌-◌, ◌<◌, ◌⊎◌, inl, inr, List, [], ◌∷◌, ◌++◌, length, take, Result, Ok, Err, IfOk, IfErr, refl, ap, ◌∙◌, append_assoc, arith}
use Rattle.std.specs.List.{flat_map}
use Rattle.std.specs.Int.{w32, from_be_bytes}
use Rattle.std.proofs.lemmas.Bool.{lt-ltb, le-ltb, ne_eqb, eq-eqb, cases_lt}
use Rattle.nim_base.specs.declared.form_fault.FormFault.{FormFault}
use Rattle.nim_base.specs.declared.form_fault.FormFault.TheVariants.{Short, Kind, Value, Order, Trailing, NoMemory}
use Rattle.tail_map.specs.declared.tail_row.TailRow.{TailRow}
use Rattle.tail_map.specs.TailMap.{Content, IsMap}
use Rattle.tail_map.specs.MapForm.{row_bytes, head_bytes, map_bytes}
use Rattle.tail_map.specs.FormFault.{RowShows, ShowsAtRow, Shows, Gives}
use Rattle.tail_map.proofs.Reader.{above_true, above_false, counts_false, row_at, rows_at, rows_again, map_at, head_again, map_again}

row_shows : (rows : List TailRow) (text : List ℕ) (fault : FormFault) → RowShows rows text fault → row_at rows text ≡ Err fault
unfolding row_at
row_shows rows text Short (inl lt) = rw (lt-ltb (length text) 32 lt) refl
row_shows rows text Short (inr p) =
    elim (cases_lt (length text) 32) [
      | inl lt ↦ rw (lt-ltb (length text) 32 lt) refl
      | inr le ↦ rw (le-ltb (length text) 32 le, above_true rows (take 32 text) p.1, lt-ltb (length text) 72 p.0) refl
    ]
row_shows rows text Order p = rw (le-ltb (length text) 32 p.0, above_false rows (take 32 text) p.1) refl
row_shows rows text Value p =
    rw (le-ltb (length text) 32 (omega (arith, p.0)), above_true rows (take 32 text) p.1, le-ltb (length text) 72 p.0, counts_false _ p.2) refl
row_shows rows text Kind p = absurd p
row_shows rows text Trailing p = absurd p
row_shows rows text NoMemory p = absurd p

at_row : (bytes : List ℕ) (fault : FormFault) → ShowsAtRow bytes fault → map_at bytes ≡ Err fault
unfolding rows_at
at_row bytes fault (number, text, head, few, (rows, rest, form, rising, each, more, shows)) =
    let count : number ≡ length rows + suc (number - length rows - 1) = omega arith in
    ap map_at head
    ∙ head_again number text few
    ∙ ap (rows_at number []) form
    ∙ ap (λ (k : ℕ). rows_at k [] (flat_map row_bytes rows ++ rest)) count
    ∙ rows_again (suc (number - length rows - 1)) [] rows rest rising each
    ∙ rw (row_shows rows rest fault shows) refl

trails : (rows : List TailRow) (rest : List ℕ) → 0 < length rest → rows_at 0 rows rest ≡ Err Trailing
unfolding rows_at
trails rows [] some = absurd (omega arith)
trails rows (b ∷ rest) some = refl

pub shows_read : (bytes : List ℕ) (fault : FormFault) → Shows bytes fault → map_at bytes ≡ Err fault
unfolding map_at
shows_read [] Kind p = absurd (omega (arith, p.0))
shows_read (b ∷ bytes) Kind p = rw (ne_eqb b 48 p.1) refl
shows_read bytes Short (inl e) = ap map_at e
shows_read [] Short (inr (inl p)) = refl
shows_read (b ∷ bytes) Short (inr (inl p)) = rw (eq-eqb b 48 p.0, lt-ltb (length bytes) 4 (omega (arith, p.1))) refl
shows_read bytes Short (inr (inr p)) = at_row bytes Short p
shows_read [] Value (inl p) = absurd (omega (arith, p.1))
shows_read (b ∷ bytes) Value (inl p) = rw (eq-eqb b 48 p.0, le-ltb (length bytes) 4 (omega (arith, p.1)), lt-ltb 4096 (from_be_bytes w32 (take 4 bytes)) p.2) refl
shows_read bytes Value (inr p) = at_row bytes Value p
shows_read bytes Order p = at_row bytes Order p
shows_read bytes Trailing (rows, rest, map, e, some) =
    let count : length rows ≡ length rows + 0 = omega arith in
    ap map_at (e ∙ append_assoc (head_bytes (length rows)) (flat_map row_bytes rows) rest)
    ∙ head_again (length rows) (flat_map row_bytes rows ++ rest) map.few
    ∙ ap (λ (k : ℕ). rows_at k [] (flat_map row_bytes rows ++ rest)) count
    ∙ rows_again 0 [] rows rest map.rising map.each
    ∙ trails rows rest some
shows_read bytes NoMemory p = absurd p

-- what the reader answered is what reading gives
pub answers : (bytes : List ℕ) (r : Result Content FormFault) → IfOk r (λ map. IsMap map.rows × (bytes ≡ map_bytes map.rows)) → IfErr r (λ fault. (fault ≡ NoMemory) ⊎ Shows bytes fault) → Gives r (map_at bytes)
answers bytes (Ok map) found shown = ap map_at found.1 ∙ map_again map.rows found.0
answers bytes (Err NoMemory) found shown = tt
answers bytes (Err Short) found (inl e) = absurd cc
answers bytes (Err Short) found (inr p) = shows_read bytes Short p
answers bytes (Err Kind) found (inl e) = absurd cc
answers bytes (Err Kind) found (inr p) = shows_read bytes Kind p
answers bytes (Err Value) found (inl e) = absurd cc
answers bytes (Err Value) found (inr p) = shows_read bytes Value p
answers bytes (Err Order) found (inl e) = absurd cc
answers bytes (Err Order) found (inr p) = shows_read bytes Order p
answers bytes (Err Trailing) found (inl e) = absurd cc
answers bytes (Err Trailing) found (inr p) = shows_read bytes Trailing p
