-- A walk up the rows of a ledger.
use Rattle.std.specs.Prelude.{◌≡◌, ℕ, ◌+◌, ◌-◌, Bool, if◌then◌else◌, List, [], ◌∷◌, ◌++◌, length, Some, Result, Ok, Err}
use Rattle.chain_block.specs.declared.meta_block.MetaBlock.{MetaBlock}
use Rattle.chain_block.specs.Tail.{tail_after}
use Rattle.nim_base.specs.declared.no_memory.NoMemory.{NoMemory}
use Rattle.statement.specs.declared.member.Member.{Member}
use Rattle.statement.specs.Receipt.{Receipt}
use Rattle.port.specs.declared.key.Key.TheVariants as keys
use Rattle.port.specs.declared.store_answers.Got.{Got}
use Rattle.port.specs.declared.store_answers.Got.TheVariants as gots
use Rattle.port.specs.Row.{Content}
use Rattle.port.specs.GoodRow.{IsGoodRow}
use Rattle.port.specs.Stored.{Stored}
use Rattle.port.specs.Cause.{Cause, StoreFault, BadRow, TooFar, cause_of}
use Rattle.view_ledger.specs.Receipts.{Accepts}
use Rattle.op_parts.specs.declared.attachment.Head.{Head}
use Rattle.op_parts.specs.declared.walk.WalkProgress.{WalkProgress}
use Rattle.op_parts.specs.declared.walk.WalkProgress.TheVariants.{More, Stands, Top, Refused}
use Rattle.op_parts.specs.Attachment.{IsAttached}

-- the tail of the newest row, the height above it, and the metablocks from the first row of the walk on
pub record Place : Type 0 where
  pub tail : List ℕ
  pub height : ℕ
  pub blocks : List MetaBlock

pub record Walk : Type 0 where
  pub handle : List ℕ
  pub place : Place
  pub live : Bool

-- how many rows are left, at most
abbrev pub steps_left : Walk → ℕ
steps_left walk = if walk.live then 65537 - length walk.place.blocks else 0

abbrev pub block_tail : MetaBlock → List ℕ
block_tail block = tail_after block.prev block.entry block.height

-- the place after this block
abbrev pub above : Place → MetaBlock → Place
above place block = record { tail = block_tail block; height = place.height + 1; blocks = place.blocks ++ block ∷ [] }

-- the ledger's head after this block
abbrev pub head_of : List ℕ → Place → MetaBlock → Head
head_of handle place block = record { handle = handle; tail = block_tail block; count = place.height + 1 }

-- what was given is the good row of the place, and it links to the tail below
pub record IsNextRow (handle : List ℕ) (place : Place) (stored : Stored) (row : Content) : Type 0 where
  pub good : IsGoodRow handle place.height stored.body row
  pub links : row.metablock.prev ≡ place.tail

-- it isn't such a row
abbrev pub IsNoNextRow : List ℕ → Place → List ℕ → Type 0
IsNoNextRow handle place bytes = (row : Content) → IsGoodRow handle place.height bytes row → row.metablock.prev ≡ place.tail → ⊥

-- no receipt for the row is attached that the chain accepts
abbrev pub IsUnreceipted : Accepts → List (List Member) → Head → Stored → Type 0
IsUnreceipted accepts configs head stored = (receipt : Receipt) → IsAttached accepts configs head stored.attached receipt → ⊥

-- why the walk was refused, by what the store gave
abbrev pub IsRefused : List ℕ → Place → Got → Cause → Type 0
IsRefused handle place got StoreFault = got ≡ gots.Failed
IsRefused handle place got (BadRow key (Some bytes)) =
    (key ≡ keys.Row handle place.height) × ((stored : Stored) × (got ≡ gots.Some stored) × (stored.body ≡ bytes)) × IsNoNextRow handle place bytes
IsRefused handle place got (TooFar needed) =
    (needed ≡ 65537) × (length place.blocks ≡ 65536) × ((stored : Stored) × (row : Content) × (got ≡ gots.Some stored) × IsNextRow handle place stored row)
IsRefused handle place got cause = ⊥

-- What the answer to a step says of what the store gave for the row of the place, and where the walk is then.
abbrev pub Says : Accepts → List (List Member) → List ℕ → Place → Got → Place → Result WalkProgress NoMemory → Type 0
Says accepts configs handle place got after (Ok More) =
    (stored : Stored) × (row : Content) × (got ≡ gots.Some stored) × IsNextRow handle place stored row
    × IsUnreceipted accepts configs (head_of handle place row.metablock) stored × (after ≡ above place row.metablock)
Says accepts configs handle place got after (Ok (Stands receipt)) =
    (stored : Stored) × (row : Content) × (got ≡ gots.Some stored) × IsNextRow handle place stored row
    × IsAttached accepts configs (head_of handle place row.metablock) stored.attached receipt × (after ≡ above place row.metablock)
Says accepts configs handle place got after (Ok Top) = (got ≡ gots.None) × (after ≡ place)
Says accepts configs handle place got after (Ok (Refused refusal)) = IsRefused handle place got (cause_of refusal) × (after ≡ place)
Says accepts configs handle place got after (Err wanted) = after ≡ place
