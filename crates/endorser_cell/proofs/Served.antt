-- The list of a bank's calls that grows by one.
use Rattle.std.proofs.Common.{◌≡◌, ◌≢◌, ◌⊎◌, ℕ, zero, suc, ◌<◌, Bool, true, false, eqb, cond, List, [], ◌∷◌, ◌++◌, Option, Some, None, inl, inr, refl, sym, ap, subst, ◌∙◌, arith}
use Rattle.std.proofs.lemmas.Bool.{eq-eqb}
use Rattle.std.proofs.lemmas.Bool.Decides.{eqb_tells}
use Rattle.port.specs.Call.{Call}
use Rattle.port.specs.Answer.{Answer, Done, Signed, Finaled, Shown, Refused, Behind, Stands, OtherTail, NotGenesis, Full, Tall, NotMember, BadView, BadProof, WrongPhase, HasEnded, OtherNext, Spent, LogFull, kept}
use Rattle.port.specs.Heard.{Heard}
use Rattle.port.specs.Link.{Served, served_after}
use Rattle.endorser_core.specs.Line.{Line, line}
use Rattle.endorser_cell.specs.EndorserCell.{EndorserCell, Calls}
use Rattle.endorser_cell.specs.BankLine.{BankLine, asked_line, IsLineOf, IsLogged, WasLogged, serving, served_by, calls_to}
use Rattle.endorser_cell.specs.Cells.{cell_of, put_cell}
use Rattle.endorser_cell.specs.CellBank.{calls_of}
use Rattle.endorser_cell.proofs.Cells.{found_id, cell_of_put}

pub served_push : (past : List Served) (log : List BankLine) (one : BankLine) → served_by past (log ++ one ∷ []) ≡ serving one one.answer (served_by past log)
served_push past [] one = refl
served_push past (first ∷ log) one = served_push (serving first first.answer past) log one

pub logged_before : (log : List BankLine) (one : BankLine) (n i : ℕ) (call : Call) (heard : Heard) → IsLogged log n i call heard → IsLogged (log ++ one ∷ []) n i call heard
logged_before [] one n i call heard logged = absurd logged
logged_before (first ∷ log) one n i call heard (inl is) = inl is
logged_before (first ∷ log) one n i call heard (inr later) = inr (logged_before log one n i call heard later)

pub logged_last : (log : List BankLine) (one : BankLine) (n i : ℕ) (call : Call) (heard : Heard) → IsLineOf one n i call heard → IsLogged (log ++ one ∷ []) n i call heard
logged_last [] one n i call heard is = inl is
logged_last (first ∷ log) one n i call heard is = inr (logged_last log one n i call heard is)

pub kept_once : (answer : Answer) → kept (kept answer) ≡ kept answer
kept_once Done = refl
kept_once (Signed statement sig) = refl
kept_once (Finaled statement sig map) = refl
kept_once (Shown phase number tail count) = refl
kept_once (Refused denial) = refl

-- a served call, where the list isn't full
pub served_some : (past : List Served) (id : ℕ) (call : Call) (answer : Answer) → answer ≢ Refused LogFull
    → served_after past id call answer ≡ record { id = id; call = call; answer = kept answer } ∷ past
served_some past id call Done room = refl
served_some past id call (Signed statement sig) room = refl
served_some past id call (Finaled statement sig map) room = refl
served_some past id call (Shown phase number tail count) room = refl
served_some past id call (Refused (Behind count)) room = refl
served_some past id call (Refused (Stands count tail)) room = refl
served_some past id call (Refused (OtherTail tail)) room = refl
served_some past id call (Refused NotGenesis) room = refl
served_some past id call (Refused Full) room = refl
served_some past id call (Refused Tall) room = refl
served_some past id call (Refused NotMember) room = refl
served_some past id call (Refused BadView) room = refl
served_some past id call (Refused (BadProof cause)) room = refl
served_some past id call (Refused (WrongPhase phase)) room = refl
served_some past id call (Refused (HasEnded statement sig)) room = refl
served_some past id call (Refused (OtherNext next)) room = refl
served_some past id call (Refused Spent) room = refl
served_some past id call (Refused LogFull) room = absurd (room refl)

pub served_kept : (past : List Served) (id : ℕ) (call : Call) (answer : Answer) → served_after past id call (kept answer) ≡ served_after past id call answer
served_kept past id call Done = refl
served_kept past id call (Signed statement sig) = refl
served_kept past id call (Finaled statement sig map) = refl
served_kept past id call (Shown phase number tail count) = refl
served_kept past id call (Refused denial) = refl

pub calls_push : (lines : List Line) (one : Line) → calls_of (lines ++ one ∷ []) ≡ calls_of lines ++ (one.call, one.answer) ∷ []
calls_push [] one = refl
calls_push (first ∷ lines) one = ap (λ (calls : List (Call × Answer)). (first.call, first.answer) ∷ calls) (calls_push lines one)

-- the list of lines is as before, or one line longer
abbrev pub Grows : List BankLine → List BankLine → Type 0
Grows log longer = (longer ≡ log) ⊎ ((line : BankLine) × (longer ≡ log ++ line ∷ []))

pub logged : (log longer : List BankLine) → Grows log longer → (n i : ℕ) (c : Call) (h : Heard) → WasLogged log n i c h → WasLogged longer n i c h
logged log longer grows n i c h (inl none) = inl none
logged log longer (inl same) n i c h (inr was) = inr (subst (λ (l : List BankLine). IsLogged l n i c h) (sym same) was)
logged log longer (inr more) n i c h (inr was) = inr (subst (λ (l : List BankLine). IsLogged l n i c h) (sym more.1) (logged_before log more.0 n i c h was))

pub noted_line : (log longer : List BankLine) (line : BankLine) (number id : ℕ) (call : Call) (heard : Heard) → longer ≡ log ++ line ∷ [] → IsLineOf line number id call heard → WasLogged longer number id call heard
noted_line log longer line number id call heard noted is = inr (subst (λ (l : List BankLine). IsLogged l number id call heard) (sym noted) (logged_last log line number id call heard is))

pub served_longer : (log longer : List BankLine) (line : BankLine) → longer ≡ log ++ line ∷ [] → served_by [] longer ≡ serving line line.answer (served_by [] log)
served_longer log longer line noted = ap (served_by []) noted ∙ served_push [] log line

module _ {S C : Type 0} where
  -- the lines of each cell are the calls that it served
  abbrev pub LinesServed : List (EndorserCell S C) → List BankLine → Type 0
  LinesServed cells log = (id : ℕ) (cell : EndorserCell S C) → cell_of cells id ≡ Some cell → calls_of cell.lines ≡ calls_to id (served_by [] log)

  -- a cell takes another's place, that has the same lines
  pub same_lines : (cells : List (EndorserCell S C)) (log : List BankLine) (id : ℕ) (cell next : EndorserCell S C)
      → LinesServed cells log → cell_of cells id ≡ Some cell → next.endorser.id ≡ id → next.lines ≡ cell.lines → LinesServed (put_cell cells id next) log
  same_lines cells log id cell next served found same lines other one at =
      let is : cond (eqb other id) (Some next) (cell_of cells other) ≡ Some one = sym (cell_of_put cells id cell next found same other) ∙ at in
      elim (eqb_tells other id) [
        | inl here ↦
            let e : next ≡ one = cc (sym (ap (λ (b : Bool). cond b (Some next) (cell_of cells other)) here.0) ∙ is) in
            ap (λ (c : EndorserCell S C). calls_of c.lines) (sym e) ∙ ap calls_of lines ∙ served other cell (ap (λ (i : ℕ). cell_of cells i) here.1 ∙ found)
        | inr there ↦ served other one (sym (ap (λ (b : Bool). cond b (Some next) (cell_of cells other)) there.0) ∙ is)
      ]

  -- a line is noted that no endorser served
  pub same_served : (cells : List (EndorserCell S C)) (log : List BankLine) (one : BankLine) → one.answer ≡ None → LinesServed cells log → LinesServed cells (log ++ one ∷ [])
  same_served cells log one none served other cell at =
      served other cell at ∙ ap (λ (l : List Served). calls_to other l) (sym (served_push [] log one ∙ ap (λ (o : Option Answer). serving one o (served_by [] log)) none))

  -- a cell was asked, and its line came to the list
  pub asked_served : (key : S → List ℕ) (left size : S → ℕ) (signs : S → List ℕ → List ℕ → S → Type 0) (fit : S → C → Type 0)
      (cells : List (EndorserCell S C)) (log : List BankLine) (number : Option ℕ) (id : ℕ) (call : Call) (answer : Answer) (heard : Bool) (cell called next : EndorserCell S C)
      → LinesServed cells log → cell_of cells id ≡ Some cell → Calls key left size signs fit cell called call answer → next.endorser.id ≡ called.endorser.id → next.lines ≡ called.lines
      → LinesServed (put_cell cells id next) (log ++ asked_line number id call answer heard ∷ [])
  asked_served key left size signs fit cells log number id call answer heard cell called next served found calls ids lines other one at =
      let past : List Served = served_by [] log in
      let same : next.endorser.id ≡ id = ids ∙ calls.same_id ∙ found_id cells id cell found in
      let is : cond (eqb other id) (Some next) (cell_of cells other) ≡ Some one = sym (cell_of_put cells id cell next found same other) ∙ at in
      let all : served_by [] (log ++ asked_line number id call answer heard ∷ []) ≡ served_after past id call answer =
      served_push [] log (asked_line number id call answer heard) ∙ served_kept past id call answer in
      let there : calls_to other (served_by [] (log ++ asked_line number id call answer heard ∷ [])) ≡ calls_to other (served_after past id call answer) = ap (λ (l : List Served). calls_to other l) all in
      elim (stamps cell.left) [
        | inl none ↦
            let e : calls_to other (served_after past id call answer) ≡ calls_to other past = ap (λ (a : Answer). calls_to other (served_after past id call a)) (calls.full none) in
            let before : calls_of one.lines ≡ calls_to other past =
            same_lines cells log id cell next served found same (lines ∙ ap (λ (c : EndorserCell S C). c.lines) (calls.stays none)) other one at in
            before ∙ sym e ∙ sym there
        | inr some ↦
            let e : served_after past id call answer ≡ record { id = id; call = call; answer = kept answer } ∷ past = served_some past id call answer (calls.not_full some) in
            let noted = calls.noted some in
            let longer : calls_of next.lines ≡ calls_of cell.lines ++ (call, kept answer) ∷ [] =
            ap calls_of (lines ∙ noted.1) ∙ calls_push cell.lines (line noted.0 call answer) in
            elim (eqb_tells other id) [
              | inl here ↦
                  let which : next ≡ one = cc (sym (ap (λ (b : Bool). cond b (Some next) (cell_of cells other)) here.0) ∙ is) in
                  let at_id : eqb id other ≡ true = eq-eqb id other (sym here.1) in
                  ap (λ (c : EndorserCell S C). calls_of c.lines) (sym which) ∙ longer
                  ∙ ap (λ (l : List (Call × Answer)). l ++ (call, kept answer) ∷ []) (served other cell (ap (λ (i : ℕ). cell_of cells i) here.1 ∙ found))
                  ∙ sym (ap (λ (b : Bool). cond b (calls_to other past ++ (call, kept answer) ∷ []) (calls_to other past)) at_id)
                  ∙ sym (ap (λ (l : List Served). calls_to other l) e) ∙ sym there
              | inr apart ↦
                  let not_at : eqb id other ≡ false = elim (eqb_tells id other) [ inl x ↦ absurd (apart.1 (sym x.1)) | inr x ↦ x.0 ] in
                  served other one (sym (ap (λ (b : Bool). cond b (Some next) (cell_of cells other)) apart.0) ∙ is)
                  ∙ sym (ap (λ (b : Bool). cond b (calls_to other past ++ (call, kept answer) ∷ []) (calls_to other past)) not_at)
                  ∙ sym (ap (λ (l : List Served). calls_to other l) e) ∙ sym there
            ]
      ] where
        stamps : (n : ℕ) → (n ≡ 0) ⊎ (0 < n)
        stamps zero = inl refl
        stamps (suc n) = inr (omega arith)
