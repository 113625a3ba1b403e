-- The members of a view whose endorsers are active with one map.
use Rattle.std.specs.Prelude.{◌≡◌, ◌≢◌, ℕ, ◌≤◌, ◌<◌, Bool, true, List, slice_get, Some}
use Rattle.tail_map.specs.declared.tail_row.TailRow.{TailRow}
use Rattle.statement.specs.declared.member.Member.{Member}
use Rattle.statement.specs.declared.view_block.ViewBlock.{ViewBlock}
use Rattle.port.specs.Link.{Bank, Told}
use Rattle.port.specs.Table.{Active}
use Rattle.view_ledger.specs.Receipts.{Accepts}

-- which signatures endorsers make, by key and bytes
abbrev pub Signs : Type 0
Signs = List ℕ → List ℕ → List ℕ → Bool

-- whatever is signed is accepted
abbrev pub Fits : Accepts → Signs → Type 0
Fits accepts signs = (key bytes sig : List ℕ) → signs key bytes sig ≡ true → accepts key bytes sig ≡ true

-- The member's endorser is the member itself, is active in this view with this map, and has at least so many stamps and
-- signatures left.
pub record IsAble (bank : Bank) (block : ViewBlock) (config : List Member) (rows : List TailRow) (left : ℕ) (member : Member) : Type 0 where
  pub told : Told
  pub known : bank member.id ≡ Some told
  pub me : told.me ≡ member
  pub first : List ℕ
  pub active : told.state ≡ Active (record { block = block; config = config; first = first; map = rows })
  pub stamps : left ≤ told.stamps
  pub signatures : left ≤ told.signatures

-- the member stands at this place
abbrev pub IsAt : List Member → ℕ → Member → Type 0
IsAt config place member = slice_get config place ≡ Some member

-- each member of the view is so
pub record AreAble (bank : Bank) (block : ViewBlock) (config : List Member) (rows : List TailRow) (left : ℕ) : Type 0 where
  pub each : (place : ℕ) (member : Member) → IsAt config place member → IsAble bank block config rows left member

-- the id is none of the first members', so many
abbrev pub IsOther : List Member → ℕ → ℕ → Type 0
IsOther config asked id = (place : ℕ) (member : Member) → place < asked → IsAt config place member → id ≢ member.id

-- The first members, so many, have been asked and have this map now, and every other endorser is as it was.
pub record WereAsked (bank : Bank) (block : ViewBlock) (config : List Member) (rows : List TailRow) (left asked : ℕ) (after : Bank) : Type 0 where
  pub each : (place : ℕ) (member : Member) → place < asked → IsAt config place member → IsAble after block config rows left member
  pub others : (id : ℕ) → IsOther config asked id → after id ≡ bank id

-- The member has gone on so, and every other endorser is as it was.
pub record WentOn (bank : Bank) (block : ViewBlock) (config : List Member) (rows : List TailRow) (left : ℕ) (member : Member) (after : Bank) : Type 0 where
  pub able : IsAble after block config rows left member
  pub others : (id : ℕ) → id ≢ member.id → after id ≡ bank id
