-- The cells and the bank of a run's endorsers before anything was done.
use Rattle.std.proofs.Common.{◌≡◌, ◌⊎◌, ℕ, zero, suc, ◌+◌, ◌<◌, ◌≤◌, Bool, true, false, cond, List, [], ◌∷◌, ◌++◌, length, Option, Some, None, inl, inr, refl, sym, ap, subst, ◌∙◌, arith}
use Rattle.std.specs.Prelude.{◌==◌, ◌&&◌, ◌||◌, bytes_eq}
use Rattle.std.specs.List.{AllByRecursion, list_all, range_with_len}
use Rattle.std.specs.Option.{option_map}
use Rattle.std.proofs.lemmas.List.{map_push}
use Rattle.std.proofs.lemmas.Bool.{eq-eqb, lt-ltb}
use Rattle.std.proofs.lemmas.Bool.Decides.{eqb_tells}
use Rattle.statement.specs.declared.member.Member.{Member}
use Rattle.statement.specs.Ids.{RisesFrom, IsRising}
use Rattle.statement.specs.Config.{ids as ids_of}
use Rattle.port.specs.Table.{Uninitialized}
use Rattle.view_ledger.specs.Receipts.{Accepts}
use Rattle.endorser_core.specs.Endorser.{Endorser, me}
use Rattle.endorser_core.specs.Line.{Line}
use Rattle.endorser_cell.specs.Cells.{cell_of}
use Rattle.endorser_cell.specs.EndorserCell.{EndorserCell}
use Rattle.endorser_cell.specs.Losses.{IsNone}
use Rattle.endorser_cell.specs.CellBank.{CellBank, bank_of, has_no_line, loses_none, signs_in, told_of}
use Rattle.calm.specs.Beginning.{IsInState}
use Rattle.roster_bank.specs.Roster.{AllAccept, members_of}
use Rattle.script_runs.specs.Ids.{IsId, all_ids}
use Rattle.world_run.proofs.Ids.{are_all, range_more}
use Rattle.script_runs.specs.Roster.{AreNewCells, IsNewBank, IsNewCell, all_members, member_by, members_by, share}

-- ids of a range rise
rises : (before : Option ℕ) (a n : ℕ) → ((b : ℕ) → before ≡ Some b → b < a) → RisesFrom before (range_with_len a n)
rises before a zero above = tt
rises None a (suc n) above = (refl, rises (Some a) (a + 1) n (λ b e. let is : a ≡ b = cc e in omega (arith, is)))
rises (Some b) a (suc n) above = (lt-ltb b a (above b refl), rises (Some a) (a + 1) n (λ b e. let is : a ≡ b = cc e in omega (arith, is)))

ids_are : (key_of : ℕ → List ℕ) (ids : List ℕ) → ids_of (members_by key_of ids) ≡ ids
ids_are key_of [] = refl
ids_are key_of (id ∷ ids) = ap (λ (rest : List ℕ). id ∷ rest) (ids_are key_of ids)

pub all_rise : (key_of : ℕ → List ℕ) → IsRising (ids_of (all_members key_of))
unfolding all_ids
all_rise key_of = subst IsRising (sym (ids_are key_of all_ids)) (rises None 1 64 (λ b e. absurd cc))

both : (a b : Bool) → a ≡ true → b ≡ true → (a && b) ≡ true
both a b x y = subst (λ (t : Bool). (t && b) ≡ true) (sym x) (subst (λ (t : Bool). (true && t) ≡ true) (sym y) refl)

second : (a b : Bool) → (a && b) ≡ true → b ≡ true
second true b e = e
second false b e = absurd cc

either : (a b : Bool) → (a || b) ≡ true → (a ≡ true) ⊎ (b ≡ true)
either true b e = inl refl
either false b e = inr e

empty : {S C : Type 0} (cell : EndorserCell S C) → cell.lines ≡ [] → has_no_line cell ≡ true
empty cell none = ap (λ (lines : List Line). length lines == 0) none

abbrev member_with : ℕ → List ℕ → Member
member_with id key = record { id = id; key = key }

-- one member more
pub members_more : (key_of : ℕ → List ℕ) (n : ℕ) (members more : List Member) → members ≡ members_by key_of (range_with_len 1 n) → more ≡ members ++ member_by key_of (n + 1) ∷ []
    → more ≡ members_by key_of (range_with_len 1 (n + 1))
members_more key_of n members more are pushed =
    pushed ∙ ap (λ (before : List Member). before ++ member_by key_of (n + 1) ∷ []) are ∙ sym (map_push (member_by key_of) (range_with_len 1 n) (n + 1)) ∙ ap (λ (ids : List ℕ). members_by key_of ids) (range_more n)

module _ {S C : Type 0} (key : S → List ℕ) (left : S → ℕ) (accepts : C → Accepts) (key_of : ℕ → List ℕ) (left_of : ℕ → ℕ) (checks : Accepts) where
  pub new_cell : (cell : EndorserCell S C) (id : ℕ) (signer : S) (checker : C) → cell.endorser ≡ record { id = id; signer = signer; checker = checker; state = Uninitialized }
      → key signer ≡ key_of id → left signer ≡ left_of id → accepts checker ≡ checks → cell.lines ≡ [] → cell.left ≡ share → IsNone cell.losses
      → IsNewCell key left accepts key_of left_of checks id cell
  new_cell cell id signer checker is keyed signs checked lines stamps lossless = record {
    member = ap (λ (endorser : Endorser S C). me key endorser) is ∙ ap (λ (k : List ℕ). member_with id k) keyed;
    state = ap (λ (endorser : Endorser S C). endorser.state) is;
    checker = ap (λ (endorser : Endorser S C). accepts endorser.checker) is ∙ checked;
    lines = lines;
    stamps = stamps;
    signatures = ap (λ (endorser : Endorser S C). left endorser.signer) is ∙ signs;
    losses = lossless;
  }

  -- one cell more
  pub new_push : (ids : List ℕ) (cells : List (EndorserCell S C)) (id : ℕ) (cell : EndorserCell S C)
      → AreNewCells key left accepts key_of left_of checks ids cells → IsNewCell key left accepts key_of left_of checks id cell
      → AreNewCells key left accepts key_of left_of checks (ids ++ id ∷ []) (cells ++ cell ∷ [])
  new_push [] [] id cell new one = (one, tt)
  new_push [] (other ∷ cells) id cell new one = absurd new
  new_push (first ∷ ids) [] id cell new one = absurd new
  new_push (first ∷ ids) (other ∷ cells) id cell new one = (new.0, new_push ids cells id cell new.1 one)

  pub cells_more : (n : ℕ) (cells more : List (EndorserCell S C)) → AreNewCells key left accepts key_of left_of checks (range_with_len 1 n) cells
      → ((cell : EndorserCell S C) × (more ≡ cells ++ cell ∷ []) × IsNewCell key left accepts key_of left_of checks (n + 1) cell)
      → AreNewCells key left accepts key_of left_of checks (range_with_len 1 (n + 1)) more
  cells_more n cells more new one =
      subst (λ (ids : List ℕ). AreNewCells key left accepts key_of left_of checks ids more) (range_more n)
      (subst (λ (cells : List (EndorserCell S C)). AreNewCells key left accepts key_of left_of checks (range_with_len 1 n ++ (n + 1) ∷ []) cells) (sym one.1)
      (new_push (range_with_len 1 n) cells (n + 1) one.0 new one.2))

  -- all of them
  pub cells_all : (n : ℕ) (cells : List (EndorserCell S C)) → n ≡ 64 → AreNewCells key left accepts key_of left_of checks (range_with_len 1 n) cells → AreNewCells key left accepts key_of left_of checks all_ids cells
  cells_all n cells end new = subst (λ (ids : List ℕ). AreNewCells key left accepts key_of left_of checks ids cells) (are_all (range_with_len 1 n) n refl end) new

  -- the members that they are
  pub new_members : (ids : List ℕ) (cells : List (EndorserCell S C)) → AreNewCells key left accepts key_of left_of checks ids cells → members_of key cells ≡ members_by key_of ids
  new_members [] [] new = refl
  new_members [] (other ∷ cells) new = absurd new
  new_members (first ∷ ids) [] new = absurd new
  new_members (first ∷ ids) (other ∷ cells) new =
      ap (λ (rest : List Member). me key other.endorser ∷ rest) (new_members ids cells new.1) ∙ ap (λ (member : Member). member ∷ members_by key_of ids) new.0.member

  pub new_lines : (ids : List ℕ) (cells : List (EndorserCell S C)) → AreNewCells key left accepts key_of left_of checks ids cells → list_all has_no_line cells ≡ true
  new_lines [] [] new = refl
  new_lines [] (other ∷ cells) new = absurd new
  new_lines (first ∷ ids) [] new = absurd new
  new_lines (first ∷ ids) (other ∷ cells) new =
      both (has_no_line other) (list_all has_no_line cells) (empty other new.0.lines) (new_lines ids cells new.1)

  pub new_accept : (ids : List ℕ) (cells : List (EndorserCell S C)) → AreNewCells key left accepts key_of left_of checks ids cells → AllAccept accepts checks cells
  new_accept [] [] new = tt
  new_accept [] (other ∷ cells) new = absurd new
  new_accept (first ∷ ids) [] new = absurd new
  new_accept (first ∷ ids) (other ∷ cells) new = (new.0.checker, new_accept ids cells new.1)

  idle : (ids : List ℕ) (cells : List (EndorserCell S C)) → AreNewCells key left accepts key_of left_of checks ids cells → AllByRecursion (λ (cell : EndorserCell S C). cell.lines ≡ []) cells
  idle [] [] new = tt
  idle [] (other ∷ cells) new = absurd new
  idle (first ∷ ids) [] new = absurd new
  idle (first ∷ ids) (other ∷ cells) new = (new.0.lines, idle ids cells new.1)

  lossless : (ids : List ℕ) (cells : List (EndorserCell S C)) → AreNewCells key left accepts key_of left_of checks ids cells → loses_none cells ≡ true
  lossless [] [] new = refl
  lossless [] (other ∷ cells) new = absurd new
  lossless (first ∷ ids) [] new = absurd new
  lossless (first ∷ ids) (other ∷ cells) new =
      both ((other.losses.requests == 0) && (other.losses.replies == 0)) (loses_none cells)
      (both (other.losses.requests == 0) (other.losses.replies == 0) (eq-eqb other.losses.requests 0 new.0.losses.0) (eq-eqb other.losses.replies 0 new.0.losses.1)) (lossless ids cells new.1)

  -- the cell of an id
  found : (a n id : ℕ) (cells : List (EndorserCell S C)) → AreNewCells key left accepts key_of left_of checks (range_with_len a n) cells → a ≤ id → id < a + n
      → (cell : EndorserCell S C) × (cell_of cells id ≡ Some cell) × IsNewCell key left accepts key_of left_of checks id cell
  found a zero id cells new low high = absurd (omega (arith, low, high))
  found a (suc n) id [] new low high = absurd new
  found a (suc n) id (first ∷ cells) new low high =
      let own : first.endorser.id ≡ a = ap (λ (member : Member). member.id) new.0.member in
      elim (eqb_tells first.endorser.id id) [
        | inl same ↦
            let is : a ≡ id = sym own ∙ same.1 in
            (first, ap (λ (b : Bool). cond b (Some first) (cell_of cells id)) same.0, subst (λ (i : ℕ). IsNewCell key left accepts key_of left_of checks i first) is new.0)
        | inr differs ↦
            let above : a + 1 ≤ id = elim (eqb_tells a id) [
              | inl same ↦ absurd (differs.1 (own ∙ same.1))
              | inr apart ↦ omega (arith, low, apart.1)
            ] in
            let rest = found (a + 1) n id cells new.1 above (omega (arith, high)) in
            (rest.0, ap (λ (b : Bool). cond b (Some first) (cell_of cells id)) differs.0 ∙ rest.1, rest.2)
      ]

  is_new : (id : ℕ) (cells : List (EndorserCell S C)) (cell : EndorserCell S C) → cell_of cells id ≡ Some cell → IsNewCell key left accepts key_of left_of checks id cell
      → IsInState (bank_of key left accepts cells) Uninitialized share (left_of id) (member_by key_of id)
  is_new id cells cell at new = record {
    told = told_of key left accepts cell;
    known = ap (λ (found : Option (EndorserCell S C)). option_map (told_of key left accepts) found) at;
    me = new.member;
    now = new.state;
    stamps_left = let e : share ≡ cell.left = sym new.stamps in omega (arith, e);
    signatures_left = omega (arith, new.signatures);
  }

  pub each_new : (cells : List (EndorserCell S C)) → AreNewCells key left accepts key_of left_of checks all_ids cells → (id : ℕ) → IsId id
      → IsInState (bank_of key left accepts cells) Uninitialized share (left_of id) (member_by key_of id)
  unfolding all_ids
  each_new cells new id is = let at = found 1 64 id cells new is.0 (omega (arith, is.1)) in is_new id cells at.0 at.1 at.2

  -- whatever is signed is accepted
  signed_fits : (public bytes sig : List ℕ) (ids : List ℕ) (cells : List (EndorserCell S C)) → AreNewCells key left accepts key_of left_of checks ids cells
      → signs_in key left accepts cells public bytes sig ≡ true → checks public bytes sig ≡ true
  signed_fits public bytes sig [] [] new e = absurd cc
  signed_fits public bytes sig [] (other ∷ cells) new e = absurd new
  signed_fits public bytes sig (first ∷ ids) [] new e = absurd new
  signed_fits public bytes sig (first ∷ ids) (other ∷ cells) new e =
      elim (either (bytes_eq public (key other.endorser.signer) && accepts other.endorser.checker public bytes sig) (signs_in key left accepts cells public bytes sig) e) [
        | inl own ↦
            ap (λ (all : Accepts). all public bytes sig) (sym new.0.checker)
            ∙ second (bytes_eq public (key other.endorser.signer)) (accepts other.endorser.checker public bytes sig) own
        | inr later ↦ signed_fits public bytes sig ids cells new.1 later
      ]

  pub new_bank : (cells : List (EndorserCell S C)) (bank : CellBank S C) → AreNewCells key left accepts key_of left_of checks all_ids cells
      → bank ≡ record { cells = cells; log = []; calls = 0; fresh = true } → IsNewBank key left accepts key_of left_of checks bank
  new_bank cells bank new is = subst (λ (bank : CellBank S C). IsNewBank key left accepts key_of left_of checks bank) (sym is) (record {
    told = ap (λ (b : Bool). cond b (Some (bank_of key left accepts cells)) None) (lossless all_ids cells new);
    each = each_new cells new;
    fits = λ public bytes sig. signed_fits public bytes sig all_ids cells new;
    lines = idle all_ids cells new;
    log = refl;
    calls = refl;
    fresh = refl;
  })
