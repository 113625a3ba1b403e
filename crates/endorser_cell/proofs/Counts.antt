-- What is counted of a bank's cells, and more losses of one of them.
use Rattle.std.proofs.Common.{◌≡◌, ◌≢◌, ◌⊎◌, ℕ, zero, suc, ◌+◌, ◌-◌, ◌^◌, ◌<◌, min, Bool, true, false, eqb, cond, ◌&&◌, ◌||◌, List, [], ◌∷◌, Option, Some, None, inl, inr, refl, sym, ap, subst, ◌∙◌, arith}
use Rattle.std.specs.Prelude.{if◌then◌else◌, is_some, bytes_eq}
use Rattle.std.proofs.lemmas.Slice.Eq.{bytes_eq-Decides}
use Rattle.std.specs.List.{list_any}
use Rattle.std.proofs.Math.Path.{fun_ext}
use Rattle.std.proofs.lemmas.Bool.{eq-eqb, eqb-true, and_parts}
use Rattle.std.proofs.lemmas.Bool.Decides.{eqb_tells}
use Rattle.port.specs.Heard.{Heard, Answered, Lost, NoMemory}
use Rattle.port.specs.Link.{losses}
use Rattle.endorser_cell.specs.declared.losses.Losses.{Losses}
use Rattle.endorser_cell.specs.declared.losses.Loss.{Loss}
use Rattle.endorser_cell.specs.declared.losses.Loss.TheVariants as which
use Rattle.endorser_cell.specs.Losses.{IsMore}
use Rattle.endorser_cell.specs.EndorserCell.{EndorserCell}
use Rattle.endorser_cell.specs.BankLine.{BankLine, WasLogged}
use Rattle.endorser_cell.specs.Cells.{cell_of, put_cell, count_of}
use Rattle.endorser_cell.specs.Asking.{LosesMore}
use Rattle.endorser_cell.specs.CellBank.{CellBank, KeepsCalls, faults_of, due_of, more_due, has_cell, loses_none, signs_in}
use Rattle.endorser_cell.proofs.Cells.{found_id, cell_of_put}

-- whether a number is above zero
pub above : (n : ℕ) → (n ≡ 0) ⊎ (0 < n)
above zero = inl refl
above (suc n) = inr (omega arith)

-- how many calls were lost where this was heard
abbrev pub one : Heard → ℕ
one (Answered answer) = 0
one Lost = 1
one NoMemory = 0

abbrev pub chosen : Bool → ℕ
chosen b = if b then 1 else 0

pub losses_at : (id : ℕ) (heard : Heard) → losses id heard id ≡ one heard
losses_at id (Answered answer) = refl
losses_at id Lost = ap (λ (b : Bool). chosen b) (eq-eqb id id refl)
losses_at id NoMemory = refl

pub losses_elsewhere : (id other : ℕ) (heard : Heard) → eqb other id ≡ false → losses id heard other ≡ 0
losses_elsewhere id other (Answered answer) apart = refl
losses_elsewhere id other Lost apart = ap (λ (b : Bool). chosen b) apart
losses_elsewhere id other NoMemory apart = refl

pub maybe : {A : Type 0} (o : Option A) → (o ≡ None) ⊎ ((x : A) × (o ≡ Some x))
maybe None = inl refl
maybe (Some x) = inr (x, refl)

-- more calls of a cell are to be lost
pub more_is : (which : Loss) (old new : Losses) (n : ℕ) → IsMore old which n new
    → (new.lost ≡ old.lost) × (new.requests + new.replies ≡ old.requests + old.replies + min n (2 ^ 64 - 1 - (old.requests + old.replies + old.lost)))
more_is which.Request old new n more = (more.2, omega (arith, more.0, more.1))
more_is which.Reply old new n more = (more.2, omega (arith, more.0, more.1))

pub same_bytes : (bytes : List ℕ) → bytes_eq bytes bytes ≡ true
same_bytes bytes = (bytes_eq-Decides bytes bytes).1 refl

module _ {S C : Type 0} where
  pub put_found : (cells : List (EndorserCell S C)) (id : ℕ) (cell : EndorserCell S C) → cell_of cells id ≡ Some cell → put_cell cells id cell ≡ cells
  put_found [] id cell found = refl
  put_found (first ∷ cells) id cell found =
      elim (eqb_tells first.endorser.id id) [
        | inl here ↦
            let is : first ≡ cell = cc (sym (ap (λ (b : Bool). cond b (Some first) (cell_of cells id)) here.0) ∙ found) in
            ap (λ (b : Bool). cond b (cell ∷ cells) (first ∷ put_cell cells id cell)) here.0 ∙ ap (λ (x : EndorserCell S C). x ∷ cells) (sym is)
        | inr apart ↦
            ap (λ (b : Bool). cond b (cell ∷ cells) (first ∷ put_cell cells id cell)) apart.0
            ∙ ap (λ (l : List (EndorserCell S C)). first ∷ l) (put_found cells id cell (sym (ap (λ (b : Bool). cond b (Some first) (cell_of cells id)) apart.0) ∙ found))
      ]

  pub any_put : (p : EndorserCell S C → Bool) (cells : List (EndorserCell S C)) (id : ℕ) (cell after : EndorserCell S C) → cell_of cells id ≡ Some cell → p after ≡ p cell
      → list_any p (put_cell cells id after) ≡ list_any p cells
  any_put p [] id cell after found same = refl
  any_put p (first ∷ cells) id cell after found same =
      elim (eqb_tells first.endorser.id id) [
        | inl here ↦
            let is : first ≡ cell = cc (sym (ap (λ (b : Bool). cond b (Some first) (cell_of cells id)) here.0) ∙ found) in
            ap (list_any p) (ap (λ (b : Bool). cond b (after ∷ cells) (first ∷ put_cell cells id after)) here.0)
            ∙ ap (λ (b : Bool). b || list_any p cells) (same ∙ sym (ap p is))
        | inr apart ↦
            ap (list_any p) (ap (λ (b : Bool). cond b (after ∷ cells) (first ∷ put_cell cells id after)) apart.0)
            ∙ ap (λ (b : Bool). p first || b) (any_put p cells id cell after (sym (ap (λ (b : Bool). cond b (Some first) (cell_of cells id)) apart.0) ∙ found) same)
      ]

  pub any_found : (p : EndorserCell S C → Bool) (cells : List (EndorserCell S C)) (id : ℕ) (cell : EndorserCell S C) → cell_of cells id ≡ Some cell → p cell ≡ true → list_any p cells ≡ true
  any_found p [] id cell found holds = absurd cc
  any_found p (first ∷ cells) id cell found holds =
      elim (eqb_tells first.endorser.id id) [
        | inl here ↦
            let is : first ≡ cell = cc (sym (ap (λ (b : Bool). cond b (Some first) (cell_of cells id)) here.0) ∙ found) in
            ap (λ (b : Bool). b || list_any p cells) (ap p is ∙ holds)
        | inr apart ↦
            ap (λ (b : Bool). p first || b) (any_found p cells id cell (sym (ap (λ (b : Bool). cond b (Some first) (cell_of cells id)) apart.0) ∙ found) holds) ∙ or_true (p first)
      ] where
        or_true : (b : Bool) → (b || true) ≡ true
        or_true true = refl
        or_true false = refl

  abbrev pub IsLossless : EndorserCell S C → Type 0
  IsLossless cell = (cell.losses.requests ≡ 0) × (cell.losses.replies ≡ 0)

  pub lossless : (cells : List (EndorserCell S C)) (id : ℕ) (cell : EndorserCell S C) → loses_none cells ≡ true → cell_of cells id ≡ Some cell → IsLossless cell
  lossless [] id cell none found = absurd cc
  lossless (first ∷ cells) id cell none found =
      let parts = and_parts (eqb first.losses.requests 0 && eqb first.losses.replies 0) (loses_none cells) none in
      elim (eqb_tells first.endorser.id id) [
        | inl here ↦
            let is : first ≡ cell = cc (sym (ap (λ (b : Bool). cond b (Some first) (cell_of cells id)) here.0) ∙ found) in
            let own = and_parts (eqb first.losses.requests 0) (eqb first.losses.replies 0) parts.0 in
            subst IsLossless is (eqb-true first.losses.requests 0 own.0, eqb-true first.losses.replies 0 own.1)
        | inr apart ↦ lossless cells id cell parts.1 (sym (ap (λ (b : Bool). cond b (Some first) (cell_of cells id)) apart.0) ∙ found)
      ]

  pub lossless_put : (cells : List (EndorserCell S C)) (id : ℕ) (after : EndorserCell S C) → loses_none cells ≡ true → IsLossless after → loses_none (put_cell cells id after) ≡ true
  lossless_put [] id after none own = refl
  lossless_put (first ∷ cells) id after none own =
      let parts = and_parts (eqb first.losses.requests 0 && eqb first.losses.replies 0) (loses_none cells) none in
      elim (eqb_tells first.endorser.id id) [
        | inl here ↦
            ap loses_none (ap (λ (b : Bool). cond b (after ∷ cells) (first ∷ put_cell cells id after)) here.0)
            ∙ ap (λ (b : Bool). (b && eqb after.losses.replies 0) && loses_none cells) (eq-eqb after.losses.requests 0 own.0)
            ∙ ap (λ (b : Bool). b && loses_none cells) (eq-eqb after.losses.replies 0 own.1)
            ∙ parts.1
        | inr apart ↦
            ap loses_none (ap (λ (b : Bool). cond b (after ∷ cells) (first ∷ put_cell cells id after)) apart.0)
            ∙ ap (λ (b : Bool). b && loses_none (put_cell cells id after)) parts.0
            ∙ lossless_put cells id after parts.1 own
      ]

  -- a number of losses after a cell was put
  module _ (f : Losses → ℕ) (cells : List (EndorserCell S C)) (id : ℕ) (cell after : EndorserCell S C) (found : cell_of cells id ≡ Some cell) (same : after.endorser.id ≡ id) where
    pub count_at : count_of f (cell_of (put_cell cells id after) id) ≡ f after.losses
    count_at = ap (count_of f) (cell_of_put cells id cell after found same id ∙ ap (λ (b : Bool). cond b (Some after) (cell_of cells id)) (eq-eqb id id refl))

    pub count_elsewhere : (other : ℕ) → eqb other id ≡ false → count_of f (cell_of (put_cell cells id after) other) ≡ count_of f (cell_of cells other)
    count_elsewhere other apart = ap (count_of f) (cell_of_put cells id cell after found same other ∙ ap (λ (b : Bool). cond b (Some after) (cell_of cells other)) apart)

  -- a bank that nothing happened to
  pub same_keeps : (old new : CellBank S C) → new.calls ≡ old.calls → new.fresh ≡ old.fresh → new.cells ≡ old.cells → new.log ≡ old.log → KeepsCalls old new
  same_keeps old new calls fresh cells log = record {
    faults = λ other. ap (λ (l : List (EndorserCell S C)). faults_of l other) cells;
    ids = λ other. ap (λ (l : List (EndorserCell S C)). has_cell l other) cells;
    calls = calls;
    known = λ n i c h was. subst (λ (l : List BankLine). WasLogged l n i c h) (sym log) was;
    only = λ n i c h was. subst (λ (l : List BankLine). WasLogged l n i c h) log was;
    fresh = fresh;
  }

  module _ (old new : CellBank S C) (id n : ℕ) (which : Loss) (more : LosesMore old.cells new.cells id which n) where
    pub lose_keeps : new.log ≡ old.log → new.calls ≡ old.calls → new.fresh ≡ old.fresh → KeepsCalls old new
    lose_keeps log calls fresh =
        elim (maybe (cell_of old.cells id)) [
          | inl none ↦ same_keeps old new calls fresh (more.none none) log
          | inr some ↦
              let set = more.some some.0 some.1 in
              let at : cell_of old.cells id ≡ Some some.0 = some.1 in
              let after : EndorserCell S C = record some.0 { losses = set.0 } in
              let same : after.endorser.id ≡ id = found_id old.cells id some.0 at in
              let lost : after.losses.lost ≡ some.0.losses.lost = (more_is which some.0.losses set.0 n set.1).0 in
              record {
                faults = λ other.
                    ap (λ (l : List (EndorserCell S C)). faults_of l other) set.2
                    ∙ elim (eqb_tells other id) [
                      | inl here ↦
                          ap (λ (i : ℕ). faults_of (put_cell old.cells id after) i) here.1 ∙ count_at (λ l. l.lost) old.cells id some.0 after at same ∙ lost
                          ∙ sym (ap (count_of (λ l. l.lost)) (ap (λ (i : ℕ). cell_of old.cells i) here.1 ∙ at))
                      | inr apart ↦ count_elsewhere (λ l. l.lost) old.cells id some.0 after at same other apart.0
                    ];
                ids = λ other.
                    ap (λ (l : List (EndorserCell S C)). has_cell l other) set.2
                    ∙ elim (eqb_tells other id) [
                      | inl here ↦
                          ap is_some (cell_of_put old.cells id some.0 after at same other ∙ ap (λ (b : Bool). cond b (Some after) (cell_of old.cells other)) here.0)
                          ∙ sym (ap is_some (ap (λ (i : ℕ). cell_of old.cells i) here.1 ∙ at))
                      | inr apart ↦ ap is_some (cell_of_put old.cells id some.0 after at same other ∙ ap (λ (b : Bool). cond b (Some after) (cell_of old.cells other)) apart.0)
                    ];
                calls = calls;
                known = λ m i c h was. subst (λ (l : List BankLine). WasLogged l m i c h) (sym log) was;
                only = λ m i c h was. subst (λ (l : List BankLine). WasLogged l m i c h) log was;
                fresh = fresh;
              }
        ]

    pub lose_due : due_of new.cells id ≡ more_due old.cells id n
    lose_due =
        elim (maybe (cell_of old.cells id)) [
          | inl none ↦
              ap (λ (l : List (EndorserCell S C)). due_of l id) (more.none none) ∙ ap (count_of (λ l. l.requests + l.replies)) none
              ∙ sym (ap (λ (b : Bool). if b then due_of old.cells id + min n (2 ^ 64 - 1 - (due_of old.cells id + faults_of old.cells id)) else 0) (ap is_some none))
          | inr some ↦
              let set = more.some some.0 some.1 in
              let at : cell_of old.cells id ≡ Some some.0 = some.1 in
              let after : EndorserCell S C = record some.0 { losses = set.0 } in
              let due : due_of old.cells id ≡ some.0.losses.requests + some.0.losses.replies = ap (count_of (λ l. l.requests + l.replies)) at in
              let lost : faults_of old.cells id ≡ some.0.losses.lost = ap (count_of (λ l. l.lost)) at in
              ap (λ (l : List (EndorserCell S C)). due_of l id) set.2 ∙ count_at (λ l. l.requests + l.replies) old.cells id some.0 after at (found_id old.cells id some.0 at)
              ∙ (more_is which some.0.losses set.0 n set.1).1
              ∙ sym (ap (λ (d : ℕ). d + min n (2 ^ 64 - 1 - (d + some.0.losses.lost))) due)
              ∙ sym (ap (λ (f : ℕ). due_of old.cells id + min n (2 ^ 64 - 1 - (due_of old.cells id + f))) lost)
              ∙ sym (ap (λ (b : Bool). if b then due_of old.cells id + min n (2 ^ 64 - 1 - (due_of old.cells id + faults_of old.cells id)) else 0) (ap is_some at))
        ]

    pub lose_others : (other : ℕ) → other ≢ id → due_of new.cells other ≡ due_of old.cells other
    lose_others other apart =
        elim (maybe (cell_of old.cells id)) [
          | inl none ↦ ap (λ (l : List (EndorserCell S C)). due_of l other) (more.none none)
          | inr some ↦
              let set = more.some some.0 some.1 in
              ap (λ (l : List (EndorserCell S C)). due_of l other) set.2
              ∙ count_elsewhere (λ l. l.requests + l.replies) old.cells id some.0 (record some.0 { losses = set.0 }) some.1 (found_id old.cells id some.0 some.1) other
              (elim (eqb_tells other id) [ inl x ↦ absurd (apart x.1) | inr x ↦ x.0 ])
        ]

  module _ (key : S → List ℕ) where
    -- what a call leaves of a cell that it found, with so many losses
    pub record Alike (cell after : EndorserCell S C) (n : ℕ) : Type 0 where
      pub same_id : after.endorser.id ≡ cell.endorser.id
      pub same_checker : after.endorser.checker ≡ cell.endorser.checker
      pub same_key : key after.endorser.signer ≡ key cell.endorser.signer
      pub lost : after.losses.lost ≡ cell.losses.lost + n
      pub due : cell.losses.requests + cell.losses.replies ≡ after.losses.requests + after.losses.replies + n

    pub signs_put : (left : S → ℕ) (accepts : C → List ℕ → List ℕ → List ℕ → Bool) (cells : List (EndorserCell S C)) (id : ℕ) (cell after : EndorserCell S C) (n : ℕ) → cell_of cells id ≡ Some cell → Alike cell after n
        → signs_in key left accepts (put_cell cells id after) ≡ signs_in key left accepts cells
    signs_put left accepts cells id cell after n found alike =
        fun_ext (λ public. fun_ext (λ bytes. fun_ext (λ sig.
        any_put (λ (x : EndorserCell S C). bytes_eq public (key x.endorser.signer) && accepts x.endorser.checker public bytes sig) cells id cell after found
        (ap (λ (k : List ℕ). bytes_eq public k && accepts after.endorser.checker public bytes sig) alike.same_key
        ∙ ap (λ (c : C). bytes_eq public (key cell.endorser.signer) && accepts c public bytes sig) alike.same_checker))))
