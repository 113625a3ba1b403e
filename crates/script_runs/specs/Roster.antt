-- The endorsers of a run before anything was done.
use Rattle.std.specs.Prelude.{◌≡◌, ◌≢◌, ℕ, ◌^◌, true, List, [], ◌∷◌, map, Some, AllPairs, ⊤}
use Rattle.std.specs.List.{AllByRecursion}
use Rattle.statement.specs.declared.member.Member.{Member}
use Rattle.port.specs.Table.{Uninitialized}
use Rattle.view_ledger.specs.Receipts.{Accepts}
use Rattle.endorser_core.specs.Endorser.{me}
use Rattle.endorser_cell.specs.EndorserCell.{EndorserCell}
use Rattle.endorser_cell.specs.Losses.{IsNone}
use Rattle.endorser_cell.specs.CellBank.{CellBank, bank_of, bank_view, signs_in}
use Rattle.calm.specs.Beginning.{IsInState}
use Rattle.calm.specs.Members.{Fits}
use Rattle.script_runs.specs.Ids.{IsId, all_ids}

-- the member of an id, by the keys of all ids
abbrev pub member_by : (ℕ → List ℕ) → ℕ → Member
member_by key_of id = record { id = id; key = key_of id }

abbrev pub members_by : (ℕ → List ℕ) → List ℕ → List Member
members_by key_of ids = map (member_by key_of) ids

-- the members 1 to 64
abbrev pub all_members : (ℕ → List ℕ) → List Member
all_members key_of = members_by key_of all_ids

-- no two of the ids 1 to 64 have one key
abbrev pub KeysAreApart : (ℕ → List ℕ) → Type 0
KeysAreApart key_of = AllPairs (λ (one other : Member). one.key ≢ other.key) (all_members key_of)

-- How many stamps each endorser has at first: 2^40.
abbrev pub share : ℕ
share = 2 ^ 40

module _ {S C : Type 0} (key : S → List ℕ) (left : S → ℕ) (accepts : C → Accepts) (key_of : ℕ → List ℕ) (left_of : ℕ → ℕ) (checks : Accepts) where
  -- the cell of this id's endorser, which did nothing yet: it has its stamps and signatures, and loses no call
  pub record IsNewCell (id : ℕ) (cell : EndorserCell S C) : Type 0 where
    pub member : me key cell.endorser ≡ member_by key_of id
    pub state : cell.endorser.state ≡ Uninitialized
    pub checker : accepts cell.endorser.checker ≡ checks
    pub lines : cell.lines ≡ []
    pub stamps : cell.left ≡ share
    pub signatures : left cell.endorser.signer ≡ left_of id
    pub losses : IsNone cell.losses

  -- such cells, one for each id
  abbrev pub AreNewCells : List ℕ → List (EndorserCell S C) → Type 0
  AreNewCells [] [] = ⊤
  AreNewCells [] (cell ∷ cells) = ⊥
  AreNewCells (id ∷ ids) [] = ⊥
  AreNewCells (id ∷ ids) (cell ∷ cells) = IsNewCell id cell × AreNewCells ids cells

  -- A bank of the endorsers of the ids 1 to 64 of which nothing was asked. It tells them, and whatever they sign is accepted.
  pub record IsNewBank (bank : CellBank S C) : Type 0 where
    pub told : (bank_view key left accepts bank).told ≡ Some (bank_of key left accepts bank.cells)
    pub each : (id : ℕ) → IsId id → IsInState (bank_of key left accepts bank.cells) Uninitialized share (left_of id) (member_by key_of id)
    pub fits : Fits checks (signs_in key left accepts bank.cells)
    pub lines : AllByRecursion (λ (cell : EndorserCell S C). cell.lines ≡ []) bank.cells
    pub log : bank.log ≡ []
    pub calls : bank.calls ≡ 0
    pub fresh : bank.fresh ≡ true
