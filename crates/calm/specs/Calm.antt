-- A calm service.
use Rattle.std.specs.Prelude.{◌≡◌, ◌≢◌, ℕ, ◌-◌, List, [], ◌∷◌, length, take}
use Rattle.chain_block.specs.declared.entry.Entry.{Entry}
use Rattle.tail_map.specs.declared.tail_row.TailRow.{TailRow}
use Rattle.tail_map.specs.TailMap.{set}
use Rattle.statement.specs.declared.member.Member.{Member}
use Rattle.statement.specs.declared.view_block.ViewBlock.{ViewBlock}
use Rattle.port.specs.declared.key.Key.{Key}
use Rattle.port.specs.Contents.{Contents}
use Rattle.port.specs.Link.{Bank}
use Rattle.view_ledger.specs.Views.{newest_config, next_block}
use Rattle.view_ledger.specs.Receipts.{Accepts}
use Rattle.calm.specs.Ledgers.{Ledgers, HasLedgers, row_above, with_entry}
use Rattle.calm.specs.StandingRows.{StandRows}
use Rattle.calm.specs.StandingViews.{StandViews}
use Rattle.calm.specs.Appending.{row_of}
use Rattle.calm.specs.Members.{Signs, Fits, AreAble}

-- the block of the newest of these views
abbrev pub newest_block : List (List Member) → ViewBlock
newest_block configs = next_block (take (length configs - 1) configs) (newest_config configs)

-- what is accepted and what is signed; what stands in a store, and the endorsers; the roster, and the configs of the views; the map
-- that the newest view's members have, how many stamps and signatures each has left at least, and the ledgers
pub record ServiceState : Type 0 where
  pub accepts : Accepts
  pub signs : Signs
  pub contents : Contents
  pub bank : Bank
  pub roster : List Member
  pub configs : List (List Member)
  pub rows : List TailRow
  pub left : ℕ
  pub ledgers : Ledgers

-- each member of the newest of these views is active with this map, and has so many stamps and signatures left
abbrev pub NewestHold : List (List Member) → Bank → List TailRow → ℕ → Type 0
NewestHold configs bank rows left = AreAble bank (newest_block configs) (newest_config configs) rows left

-- All views stand, and all rows, and the members of the newest view all have the same ledgers.
pub record IsCalm (service : ServiceState) : Type 0 where
  pub fits : Fits service.accepts service.signs
  pub views : StandViews service.accepts service.roster service.contents service.configs
  pub members : NewestHold service.configs service.bank service.rows service.left
  pub map : HasLedgers service.rows service.ledgers
  pub stand : (handle : List ℕ) → StandRows service.accepts service.configs service.contents handle (service.ledgers handle)

-- the map with the next entry of a ledger
abbrev pub rows_with : ServiceState → List ℕ → Entry → List TailRow
rows_with service handle entry = set service.rows (row_of handle (row_above (service.ledgers handle) entry).metablock)

-- the next entry of a ledger stands on top of it, in these contents and with these endorsers
abbrev pub with_next : ServiceState → List ℕ → Entry → Contents → Bank → ℕ → ServiceState
with_next service handle entry contents bank left =
    record service { contents = contents; bank = bank; rows = rows_with service handle entry; left = left; ledgers = with_entry service.ledgers handle entry }

-- one key of the contents has changed, if any
abbrev pub OnlyAt : Key → Contents → Contents → Type 0
OnlyAt key contents after = (other : Key) → other ≢ key → after other ≡ contents other

-- a service with view 0 alone, in which no ledger has an entry
abbrev pub new_service : Accepts → Signs → Contents → Bank → List Member → List Member → ℕ → ServiceState
new_service accepts signs contents bank roster config left =
    record { accepts = accepts; signs = signs; contents = contents; bank = bank; roster = roster; configs = config ∷ []; rows = []; left = left; ledgers = λ handle. [] }
