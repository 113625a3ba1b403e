-- Who the endorsers of a bank are.
use Rattle.std.specs.Prelude.{◌≡◌, ℕ, true, false, List, map}
use Rattle.std.specs.List.{AllByRecursion}
use Rattle.statement.specs.declared.member.Member.{Member}
use Rattle.statement.specs.Ids.{IsRising}
use Rattle.statement.specs.Config.{ids}
use Rattle.view_ledger.specs.Receipts.{Accepts}
use Rattle.endorser_core.specs.Endorser.{me}
use Rattle.endorser_core.specs.Line.{Line}
use Rattle.endorser_cell.specs.EndorserCell.{EndorserCell}
use Rattle.endorser_cell.specs.CellBank.{CellBank}
use Rattle.roster_bank.specs.Places.{IsOfMember}

abbrev pub accepts_none : Accepts
accepts_none key bytes sig = false

-- the endorsers of the cells, as the members that they are
abbrev pub members_of : {S C : Type 0} → (S → List ℕ) → List (EndorserCell S C) → List Member
members_of key cells = map (λ cell. me key cell.endorser) cells

-- the lines of each cell
abbrev pub lists_of : {S C : Type 0} → List (EndorserCell S C) → List (List Line)
lists_of cells = map (λ cell. cell.lines) cells

-- each endorser's checker accepts just this
abbrev pub AllAccept : {S C : Type 0} → (C → Accepts) → Accepts → List (EndorserCell S C) → Type 0
AllAccept accepts accepted cells = AllByRecursion (λ cell. accepts cell.endorser.checker ≡ accepted) cells

-- The bank's endorsers are these members, whose ids rise, and the checker of each accepts just this. No cell had a line when the bank was
-- made, so the lines of each are the calls that it served, and only members served any.
pub record IsRoster {S C : Type 0} (key : S → List ℕ) (accepts : C → Accepts) (roster : List Member) (agreed : Accepts) (bank : CellBank S C) : Type 0 where
  pub members : members_of key bank.cells ≡ roster
  pub rising : IsRising (ids roster)
  pub accepted : AllAccept accepts agreed bank.cells
  pub fresh : bank.fresh ≡ true
  pub known : AllByRecursion (IsOfMember (ids roster)) bank.log
