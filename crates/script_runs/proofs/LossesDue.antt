-- Which losses of an endorser's calls are due: each call takes those that it is, and lines add what they ask for.
use Rattle.std.proofs.Common.{◌≡◌, ◌⊎◌, ◌≤◌, ◌+◌, ◌==◌, ◌&&◌, inl, inr, ℕ, Bool, true, false, if◌then◌else◌, List, [], ◌∷◌, Option, Some, None, is_some, refl, sym, ap, ◌∙◌, arith}
use Rattle.std.proofs.lemmas.Bool.{and_parts, cases_Bool, eq-eqb, eqb-true}
use Rattle.blob_store.specs.declared.lying_store.LyingStore.{LyingStore}
use Rattle.blob_store.specs.LyingStore.{lying_view}
use Rattle.port.specs.Answer.{Answer}
use Rattle.port.specs.Call.{Call}
use Rattle.port.specs.Trace.{AtLink, AtStore, Event, Happened}
use Rattle.view_ledger.specs.Receipts.{Accepts}
use Rattle.endorser_cell.specs.Asking.{AsksRaw, LosesMore}
use Rattle.endorser_cell.specs.CellBank.{CellBank, bank_view, due_of, has_cell, loses_none}
use Rattle.endorser_cell.specs.Cells.{cell_of, count_of, put_cell}
use Rattle.endorser_cell.specs.EndorserCell.{EndorserCell}
use Rattle.endorser_cell.specs.declared.losses.Loss.{Loss}
use Rattle.endorser_cell.specs.declared.losses.Loss.TheVariants as which
use Rattle.endorser_cell.specs.declared.losses.Losses.{Losses}
use Rattle.endorser_cell.specs.Losses.{IsMore}
use Rattle.script_runs.specs.AskedFor.{losses_asked, losses_told}
use Rattle.script_runs.proofs.AskedFacts.{IsAsking}
use Rattle.script_runs.proofs.EntryLosses.{entry_lost}
use Rattle.script_runs.proofs.FirstLosses.{first_lost}
use Rattle.script_runs.proofs.Measured.{IsMeasure}
use Rattle.script_runs.proofs.NewestLosses.{read_lost}
use Rattle.script_runs.proofs.RoundLosses.{loss_of}

-- ---- cells

-- how many calls of a cell are to be lost
abbrev to_lose : Losses → ℕ
to_lose losses = losses.requests + losses.replies

module _ {S C : Type 0} where
  -- Another cell was put in the place of the one of an id: what stands for any id is as it was, or it is that cell.
  abbrev IsPut : List (EndorserCell S C) → ℕ → EndorserCell S C → EndorserCell S C → ℕ → Type 0
  IsPut cells at cell next id =
      (cell_of (put_cell cells at next) id ≡ cell_of cells id) ⊎ ((at ≡ id) × (cell_of cells id ≡ Some cell) × (cell_of (put_cell cells at next) id ≡ Some next))

  put_is : (cells : List (EndorserCell S C)) (at : ℕ) (cell next : EndorserCell S C) (id : ℕ) → cell_of cells at ≡ Some cell → next.endorser.id ≡ cell.endorser.id → IsPut cells at cell next id
  put_is [] at cell next id found same = absurd cc
  put_is (first ∷ cells) at cell next id found same =
      by (cases_Bool (first.endorser.id == at)) (cases_Bool (first.endorser.id == id)) (λ there. put_is cells at cell next id (ap (λ (b : Bool). if b then Some first else cell_of cells at) (sym there) ∙ found) same)
    where
      by : (first.endorser.id == at ≡ true) ⊎ (first.endorser.id == at ≡ false) → (first.endorser.id == id ≡ true) ⊎ (first.endorser.id == id ≡ false)
          → ((first.endorser.id == at ≡ false) → IsPut cells at cell next id) → IsPut (first ∷ cells) at cell next id
      by (inl here) (inl mine) rest =
          let is : first ≡ cell = cc (ap (λ (b : Bool). if b then Some first else cell_of cells at) (sym here) ∙ found) in
          let i : first.endorser.id ≡ next.endorser.id = ap (λ (c : EndorserCell S C). c.endorser.id) is ∙ sym same in
          inr (
            sym (eqb-true first.endorser.id at here) ∙ eqb-true first.endorser.id id mine,
            ap (λ (b : Bool). if b then Some first else cell_of cells id) mine ∙ ap Some is,
            ap (λ (b : Bool). cell_of (if b then next ∷ cells else first ∷ put_cell cells at next) id) here
                ∙ ap (λ (n : ℕ). if n == id then Some next else cell_of cells id) (sym i)
                ∙ ap (λ (b : Bool). if b then Some next else cell_of cells id) mine,
          )
      by (inl here) (inr other) rest =
          let is : first ≡ cell = cc (ap (λ (b : Bool). if b then Some first else cell_of cells at) (sym here) ∙ found) in
          let i : first.endorser.id ≡ next.endorser.id = ap (λ (c : EndorserCell S C). c.endorser.id) is ∙ sym same in
          inl (
          ap (λ (b : Bool). cell_of (if b then next ∷ cells else first ∷ put_cell cells at next) id) here
          ∙ ap (λ (n : ℕ). if n == id then Some next else cell_of cells id) (sym i)
          ∙ ap (λ (b : Bool). if b then Some next else cell_of cells id) other
          ∙ sym (ap (λ (b : Bool). if b then Some first else cell_of cells id) other)
          )
      by (inr there) (inl mine) rest =
          inl (
          ap (λ (b : Bool). cell_of (if b then next ∷ cells else first ∷ put_cell cells at next) id) there
          ∙ ap (λ (b : Bool). if b then Some first else cell_of (put_cell cells at next) id) mine
          ∙ sym (ap (λ (b : Bool). if b then Some first else cell_of cells id) mine)
          )
      by (inr there) (inr other) rest = deeper (rest there)
        where
          new : cell_of (put_cell (first ∷ cells) at next) id ≡ cell_of (put_cell cells at next) id
          new = ap (λ (b : Bool). cell_of (if b then next ∷ cells else first ∷ put_cell cells at next) id) there
              ∙ ap (λ (b : Bool). if b then Some first else cell_of (put_cell cells at next) id) other

          old : cell_of (first ∷ cells) id ≡ cell_of cells id
          old = ap (λ (b : Bool). if b then Some first else cell_of cells id) other

          deeper : IsPut cells at cell next id → IsPut (first ∷ cells) at cell next id
          deeper (inl stays) = inl (new ∙ stays ∙ sym old)
          deeper (inr (is, stood, stands)) = inr (is, old ∙ stood, new ∙ stands)

  -- a cell was put whose losses come to so many more at most, where the id is that
  put_due : (cells after : List (EndorserCell S C)) (at : ℕ) (cell next : EndorserCell S C) (id n : ℕ) → cell_of cells at ≡ Some cell → next.endorser.id ≡ cell.endorser.id → after ≡ put_cell cells at next
      → (at ≡ id → to_lose next.losses ≤ to_lose cell.losses + n) → (due_of after id ≤ due_of cells id + n) × (has_cell after id ≡ has_cell cells id)
  put_due cells after at cell next id n found same is more = by (put_is cells at cell next id found same)
    where
      by : IsPut cells at cell next id → (due_of after id ≤ due_of cells id + n) × (has_cell after id ≡ has_cell cells id)
      by (inl stays) =
          let e : cell_of after id ≡ cell_of cells id = ap (λ (l : List (EndorserCell S C)). cell_of l id) is ∙ stays in
          let d : due_of after id ≡ due_of cells id = ap (count_of to_lose) e in
          (omega (arith, d), ap is_some e)
      by (inr (here, stood, stands)) =
          let e : cell_of after id ≡ Some next = ap (λ (l : List (EndorserCell S C)). cell_of l id) is ∙ stands in
          let d : due_of after id ≡ to_lose next.losses = ap (count_of to_lose) e in
          let o : due_of cells id ≡ to_lose cell.losses = ap (count_of to_lose) stood in
          let less = more here in
          (omega (arith, d, o, less), ap is_some e ∙ sym (ap is_some stood))

-- ---- lines

more_lost : (old new : Losses) (half : Loss) (n : ℕ) → IsMore old half n new → to_lose new ≤ to_lose old + n
more_lost old new which.Request n more = let a = more.0 in let b = more.1 in omega (arith, a, b)
more_lost old new which.Reply n more = let a = more.0 in let b = more.1 in omega (arith, a, b)

module _ {S C : Type 0} (id : ℕ) where
  -- a line that asks for more losses of one endorser
  pub lose_due : (cells after : List (EndorserCell S C)) (at n : ℕ) (half : Loss) → LosesMore cells after at half n → has_cell cells id ≡ true
      → (due_of after id ≤ due_of cells id + (if at == id then n else 0)) × (has_cell after id ≡ true)
  lose_due cells after at n half loses has = by (cell_of cells at) refl
    where
      by : (stood : Option (EndorserCell S C)) → cell_of cells at ≡ stood → (due_of after id ≤ due_of cells id + (if at == id then n else 0)) × (has_cell after id ≡ true)
      by None none =
          let same = loses.none none in
          let d : due_of after id ≡ due_of cells id = ap (λ (l : List (EndorserCell S C)). due_of l id) same in
          (omega (arith, d), ap (λ (l : List (EndorserCell S C)). has_cell l id) same ∙ has)
      by (Some cell) found =
          let more = loses.some cell found in
          let lost = more_lost cell.losses more.0 half n more.1 in
          let went = put_due cells after at cell (record cell { losses = more.0 }) id (if at == id then n else 0) found refl more.2
          (λ here. let e : (if at == id then n else 0) ≡ n = ap (λ (b : Bool). if b then n else 0) (eq-eqb at id here) in omega (arith, lost, e)) in
          (went.0, went.1 ∙ has)

module _ {S C : Type 0} (key : S → List ℕ) (left size : S → ℕ) (signs : S → List ℕ → List ℕ → S → Type 0) (fit : S → C → Type 0) (accepts : C → Accepts) (id : ℕ) where
  -- an endorser that was asked directly
  pub raw_due : (old new : CellBank S C) (at : ℕ) (call : Call) (answer : Answer) → AsksRaw key left size signs fit old.cells new.cells old.log new.log at call answer → has_cell old.cells id ≡ true
      → (due_of new.cells id ≤ due_of old.cells id) × (has_cell new.cells id ≡ true)
  raw_due old new at call answer asks has =
      let same : to_lose asks.next.losses ≡ to_lose asks.cell.losses = ap to_lose asks.answers.same_losses in
      let went = put_due old.cells new.cells at asks.cell asks.next id 0 asks.found asks.answers.same_id asks.put (λ here. omega (arith, same)) in
      let less = went.0 in
      (omega (arith, less), went.1 ∙ has)

  -- ---- calls

  abbrev Due : LyingStore → CellBank S C → ℕ
  Due s l = due_of l.cells id

  abbrev Has : LyingStore → CellBank S C → Type 0
  Has s l = has_cell l.cells id ≡ true

  call_due : (s s' : LyingStore) (l l' : CellBank S C) (event : Event) → Happened lying_view (bank_view key left accepts) s l event s' l' → Has s l → (Due s l ≡ Due s' l' + loss_of id event) × Has s' l'
  call_due s s' l l' (AtStore call answer) (step, same) has =
      let e : due_of l'.cells id ≡ due_of l.cells id = ap (λ (x : CellBank S C). due_of x.cells id) same in
      (omega (arith, e), ap (λ (x : CellBank S C). has_cell x.cells id) same ∙ has)
  call_due s s' l l' (AtLink other call heard) (step, same) has =
      let went = step.due (due_of l.cells) refl in
      let is : due_of l'.cells ≡ went.0 = cc went.1 in
      let d : due_of l'.cells id ≡ went.0 id = ap (λ (f : ℕ → ℕ). f id) is in
      let less = went.2 id has in
      (omega (arith, d, less), step.same_ids id ∙ has)

  pub losses_measure : IsMeasure key left accepts (losses_told id) (loss_of id) Due Has
  losses_measure = record { one = call_due; entry = entry_lost id; read = read_lost id; first = first_lost id; memory = refl }

  module _ (checks : Accepts) where
    pub losses_asking : IsAsking key left size signs fit accepts checks (loss_of id) Due Has (losses_asked id)
    losses_asking = record {
      request = λ s old new at n loses has. lose_due id old.cells new.cells at n which.Request loses has;
      reply = λ s old new at n loses has. lose_due id old.cells new.cells at n which.Reply loses has;
      raw = λ s old new at call answer asks has. let went = raw_due old new at call answer asks has in let less = went.0 in (omega (arith, less), went.1);
      fail = λ l old new n is has. (omega arith, has);
      lie = λ l old new is has. (omega arith, has);
    }

-- ---- the beginning

module _ {S C : Type 0} where
  abbrev loses_not : EndorserCell S C → Bool
  loses_not cell = (cell.losses.requests == 0) && (cell.losses.replies == 0)

  -- where no call of any cell is to be lost, none is due
  pub none_due : (cells : List (EndorserCell S C)) (id : ℕ) → loses_none cells ≡ true → due_of cells id ≡ 0
  none_due [] id none = refl
  none_due (cell ∷ cells) id none = by (cell.endorser.id == id) (none_due cells id parts.1)
    where
      parts : (loses_not cell ≡ true) × (loses_none cells ≡ true)
      parts = and_parts (loses_not cell) (loses_none cells) none

      here : to_lose cell.losses ≡ 0
      here =
          let halves = and_parts (cell.losses.requests == 0) (cell.losses.replies == 0) parts.0 in
          let a = eqb-true cell.losses.requests 0 halves.0 in
          let b = eqb-true cell.losses.replies 0 halves.1 in
          omega (arith, a, b)

      by : (mine : Bool) → due_of cells id ≡ 0 → count_of to_lose (if mine then Some cell else cell_of cells id) ≡ 0
      by true rest = here
      by false rest = rest
