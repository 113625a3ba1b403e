-- How many lines of a bank's list the endorser of a place served.
use Rattle.std.proofs.Common.{◌≡◌, ◌⊎◌, ℕ, zero, suc, ◌+◌, ◌<◌, ◌≤◌, Bool, true, false, eqb, cond, List, [], ◌∷◌, ◌++◌, map, length, get_or, Option, Some, None, Result, Ok, Err, inl, inr, refl, sym, ap, subst, ◌∙◌, arith, length-append}
use Rattle.std.specs.Prelude.{IfOk}
use Rattle.std.specs.List.{cons_option}
use Rattle.std.proofs.lemmas.List.{get_or-map}
use Rattle.statement.specs.declared.member.Member.{Member}
use Rattle.statement.specs.Ids.{IsRising}
use Rattle.statement.specs.Config.{ids as ids_of}
use Rattle.stamp_clock.specs.Stamps.{times}
use Rattle.port.specs.Call.{Call}
use Rattle.port.specs.Answer.{Answer, Done, Signed, Finaled, Shown, Refused, Behind, Stands, OtherTail, NotGenesis, Full, Tall, NotMember, BadView, BadProof, WrongPhase, HasEnded, OtherNext, Spent, LogFull, kept}
use Rattle.port.specs.Link.{Served, served_after}
use Rattle.endorser_core.specs.Line.{Line}
use Rattle.endorser_cell.specs.EndorserCell.{EndorserCell}
use Rattle.endorser_cell.specs.BankLine.{BankLine, serving, served_by, calls_to}
use Rattle.endorser_cell.specs.Cells.{cell_of}
use Rattle.endorser_cell.specs.CellBank.{calls_of}
use Rattle.roster_bank.specs.Roster.{members_of, lists_of}
use Rattle.roster_bank.specs.Places.{place_in, was_served, place_served, places_served}
use Rattle.roster_bank.proofs.Places.{is_at, found_at, none_at, id_at, as_many, cell_at}

times_cons : (place : ℕ) (found : Option ℕ) (places : List ℕ) → times place (cons_option found places) ≡ is_at place found + times place places
times_cons place None places = omega arith
times_cons place (Some p) places = refl

-- one call more of the id, where it was served
one_more : (past : List Served) (id other : ℕ) (call : Call) (answer : Answer) → length (calls_to id (record { id = other; call = call; answer = answer } ∷ past)) ≡ length (calls_to id past) + cond (eqb other id) 1 0
one_more past id other call answer = by (eqb other id) where
  by : (b : Bool) → length (cond b (calls_to id past ++ (call, answer) ∷ []) (calls_to id past)) ≡ length (calls_to id past) + cond b 1 0
  by true = length-append (calls_to id past) ((call, answer) ∷ [])
  by false = omega arith

after_one : (past : List Served) (id other : ℕ) (call : Call) (answer : Answer)
    → length (calls_to id (served_after past other call answer)) ≡ length (calls_to id past) + cond (was_served (Some answer)) (cond (eqb other id) 1 0) 0
after_one past id other call Done = one_more past id other call Done
after_one past id other call (Signed statement sig) = one_more past id other call (Signed statement sig)
after_one past id other call (Finaled statement sig map) = one_more past id other call (kept (Finaled statement sig map))
after_one past id other call (Shown phase number tail count) = one_more past id other call (Shown phase number tail count)
after_one past id other call (Refused (Behind count)) = one_more past id other call (Refused (Behind count))
after_one past id other call (Refused (Stands count tail)) = one_more past id other call (Refused (Stands count tail))
after_one past id other call (Refused (OtherTail tail)) = one_more past id other call (Refused (OtherTail tail))
after_one past id other call (Refused NotGenesis) = one_more past id other call (Refused NotGenesis)
after_one past id other call (Refused Full) = one_more past id other call (Refused Full)
after_one past id other call (Refused Tall) = one_more past id other call (Refused Tall)
after_one past id other call (Refused NotMember) = one_more past id other call (Refused NotMember)
after_one past id other call (Refused BadView) = one_more past id other call (Refused BadView)
after_one past id other call (Refused (BadProof cause)) = one_more past id other call (Refused (BadProof cause))
after_one past id other call (Refused (WrongPhase phase)) = one_more past id other call (Refused (WrongPhase phase))
after_one past id other call (Refused (HasEnded statement sig)) = one_more past id other call (Refused (HasEnded statement sig))
after_one past id other call (Refused (OtherNext next)) = one_more past id other call (Refused (OtherNext next))
after_one past id other call (Refused Spent) = one_more past id other call (Refused Spent)
after_one past id other call (Refused LogFull) = omega arith

-- of a line, where the place is that of the id
of_line : (ids : List ℕ) (place id : ℕ) (past : List Served) (line : BankLine) (answer : Option Answer)
    → ((other : ℕ) → is_at place (place_in ids other) ≡ cond (eqb other id) 1 0)
    → length (calls_to id (serving line answer past)) ≡ length (calls_to id past) + is_at place (cond (was_served answer) (place_in ids line.id) None)
of_line ids place id past line None found = omega arith
of_line ids place id past line (Some answer) found = after_one past id line.id line.call answer ∙ ap (λ (n : ℕ). length (calls_to id past) + n) (by (was_served (Some answer))) where
  by : (b : Bool) → cond b (cond (eqb line.id id) 1 0) 0 ≡ is_at place (cond b (place_in ids line.id) None)
  by true = sym (found line.id)
  by false = refl

-- what the endorser of the place served, before and by these lines
pub served_count : (ids : List ℕ) (place id : ℕ) → ((other : ℕ) → is_at place (place_in ids other) ≡ cond (eqb other id) 1 0) → (past : List Served) (log : List BankLine)
    → length (calls_to id (served_by past log)) ≡ length (calls_to id past) + times place (places_served ids log)
served_count ids place id found past [] = omega arith
served_count ids place id found past (line ∷ log) =
    let more = served_count ids place id found (serving line line.answer past) log in
    let one = of_line ids place id past line line.answer found in
    let all = times_cons place (place_served ids line) (places_served ids log) in
    omega (arith, more, one, all)

none_count : (ids : List ℕ) (place : ℕ) → length ids ≤ place → (log : List BankLine) → times place (places_served ids log) ≡ 0
none_count ids place past [] = refl
none_count ids place past (line ∷ log) =
    let all = times_cons place (place_served ids line) (places_served ids log) in
    omega (arith, all, none_count ids place past log, one (was_served line.answer)) where
      one : (b : Bool) → is_at place (cond b (place_in ids line.id) None) ≡ 0
      one true = none_at ids place line.id past
      one false = refl

calls_length : (lines : List Line) → length (calls_of lines) ≡ length lines
calls_length [] = refl
calls_length (line ∷ lines) = ap suc (calls_length lines)

within : (n m : ℕ) → (n < m) ⊎ (m ≤ n)
within n zero = inr (omega arith)
within zero (suc m) = inl (omega arith)
within (suc n) (suc m) = elim (within n m) [ inl h ↦ inl (omega (arith, h)) | inr h ↦ inr (omega (arith, h)) ]

module _ {S C : Type 0} (key : S → List ℕ) where
  counted_in : (cells : List (EndorserCell S C)) (log : List BankLine) (place : ℕ) (d : EndorserCell S C) → IsRising (ids_of (members_of key cells))
      → ((id : ℕ) (cell : EndorserCell S C) → cell_of cells id ≡ Some cell → calls_of cell.lines ≡ calls_to id (served_by [] log)) → place < length cells
      → length (get_or cells place d).lines ≡ times place (places_served (ids_of (members_of key cells)) log)
  counted_in cells log place d rising served below =
      let cell : EndorserCell S C = get_or cells place d in
      let all : List ℕ = ids_of (members_of key cells) in
      let is : get_or all place 0 ≡ cell.endorser.id = id_at key cells place 0 d below in
      let found : (other : ℕ) → is_at place (place_in all other) ≡ cond (eqb other cell.endorser.id) 1 0 =
      λ other. found_at None all place 0 other rising (omega (arith, below, as_many key cells)) ∙ ap (λ (i : ℕ). cond (eqb other i) 1 0) is in
      let lines : length cell.lines ≡ length (calls_to cell.endorser.id (served_by [] log)) =
      sym (calls_length cell.lines) ∙ ap length (served cell.endorser.id cell (cell_at key None cells place d rising below)) in
      let calls : length (calls_to cell.endorser.id (served_by [] log)) ≡ 0 + times place (places_served all log) = served_count all place cell.endorser.id found [] log in
      lines ∙ calls ∙ omega arith

  counted_at : (all cells : List (EndorserCell S C)) (log : List BankLine) (place : ℕ) → all ≡ cells → IsRising (ids_of (members_of key all))
      → ((id : ℕ) (cell : EndorserCell S C) → cell_of all id ≡ Some cell → calls_of cell.lines ≡ calls_to id (served_by [] log)) → place < length cells
      → length (get_or (lists_of all) place []) ≡ times place (places_served (ids_of (members_of key all)) log)
  counted_at all [] log place e rising served below = absurd (omega (arith, below))
  counted_at all (first ∷ cells) log place e rising served below =
      let inside : place < length all = subst (λ (l : List (EndorserCell S C)). place < length l) (sym e) below in
      ap length (get_or-map (λ (cell : EndorserCell S C). cell.lines) all place first [] inside) ∙ counted_in all log place first rising served inside

  -- each list has as many lines as its endorser served
  pub counted : (members : List Member) (cells : List (EndorserCell S C)) (log : List BankLine) → members_of key cells ≡ members → IsRising (ids_of members)
      → ((id : ℕ) (cell : EndorserCell S C) → cell_of cells id ≡ Some cell → calls_of cell.lines ≡ calls_to id (served_by [] log))
      → (place : ℕ) → length (get_or (lists_of cells) place []) ≡ times place (places_served (ids_of members) log)
  counted members cells log e rising served place =
      let own : IsRising (ids_of (members_of key cells)) = subst (λ (ms : List Member). IsRising (ids_of ms)) (sym e) rising in
      let back = ap (λ (ms : List Member). times place (places_served (ids_of ms) log)) e in
      elim (within place (length cells)) [
        | inl below ↦ counted_at cells cells log place refl own served below ∙ back
        | inr past ↦ ap length (beyond cells place past) ∙ sym (none_count (ids_of (members_of key cells)) place (omega (arith, past, as_many key cells)) log) ∙ back
      ] where
        beyond : (cells : List (EndorserCell S C)) (place : ℕ) → length cells ≤ place → get_or (lists_of cells) place [] ≡ []
        beyond [] place past = refl
        beyond (cell ∷ cells) zero past = absurd (omega (arith, past))
        beyond (cell ∷ cells) (suc place) past = beyond cells place (omega (arith, past))

  -- the lists that were taken out of a bank's cells
  pub counted_lists : {A E : Type 0} (lists : A → List (List Line)) (members : List Member) (taken cells : List (EndorserCell S C)) (log : List BankLine) (result : Result A E)
      → IfOk result (λ made. lists made ≡ lists_of taken) → taken ≡ cells → members_of key cells ≡ members → IsRising (ids_of members)
      → ((id : ℕ) (cell : EndorserCell S C) → cell_of cells id ≡ Some cell → calls_of cell.lines ≡ calls_to id (served_by [] log))
      → IfOk result (λ made. (place : ℕ) → length (get_or (lists made) place []) ≡ times place (places_served (ids_of members) log))
  counted_lists lists members taken cells log (Ok made) are e who rising served =
      λ place. ap (λ (l : List (List Line)). length (get_or l place [])) (are ∙ ap lists_of e) ∙ counted members cells log who rising served place
  counted_lists lists members taken cells log (Err error) are e who rising served = tt
