-- Who has no cell is none of the roster.
use Rattle.std.proofs.Common.{◌≡◌, ℕ, ◌+◌, ◌==◌, Bool, true, false, if◌then◌else◌, List, [], ◌∷◌, Option, Some, None, refl, ap, subst}
use Rattle.std.specs.Option.{option_map}
use Rattle.statement.specs.Config.{ids}
use Rattle.statement.specs.declared.member.Member.{Member}
use Rattle.endorser_cell.specs.Cells.{cell_of}
use Rattle.endorser_cell.specs.EndorserCell.{EndorserCell}
use Rattle.roster_bank.specs.Places.{place_in}
use Rattle.roster_bank.specs.Roster.{members_of}

passed : {X : Type 0} (is : Bool) (x : X) (found : Option X) (place : Option ℕ) → (found ≡ None → place ≡ None) → (if is then Some x else found) ≡ None
    → (if is then Some 0 else option_map (λ place. place + 1) place) ≡ None
passed true x found place more none = absurd (cc none)
passed false x found place more none = ap (option_map (λ place. place + 1)) (more none)

no_member : {S C : Type 0} (key : S → List ℕ) (cells : List (EndorserCell S C)) (id : ℕ) → cell_of cells id ≡ None → place_in (ids (members_of key cells)) id ≡ None
no_member key [] id none = refl
no_member key (cell ∷ cells) id none =
    passed (cell.endorser.id == id) cell (cell_of cells id) (place_in (ids (members_of key cells)) id) (no_member key cells id) none

pub not_of_roster : {S C : Type 0} (key : S → List ℕ) (cells : List (EndorserCell S C)) (members : List Member) → members_of key cells ≡ members
    → (id : ℕ) → cell_of cells id ≡ None → place_in (ids members) id ≡ None
not_of_roster key cells members are id none = subst (λ (members : List Member). place_in (ids members) id ≡ None) are (no_member key cells id none)
