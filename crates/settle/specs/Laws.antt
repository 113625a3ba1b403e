-- What the calls of a settling are.
use Rattle.std.specs.Prelude.{◌≡◌, ◌⊎◌, ℕ, ◌+◌, List}
use Rattle.std.specs.List.{AllByRecursion}
use Rattle.chain_block.specs.declared.meta_block.MetaBlock.{MetaBlock}
use Rattle.statement.specs.Receipt.{Receipt, receipt_bytes}
use Rattle.port.specs.declared.key.Key.TheVariants as keys
use Rattle.port.specs.Store.{Get, Attach}
use Rattle.port.specs.Trace.{Event, AtStore, AtLink}
use Rattle.catch_up.specs.OwnCalls.{append_of}
use Rattle.view_ledger.specs.Receipts.{Accepts}
use Rattle.op_parts.specs.Attachment.{IsReceiptFor}
use Rattle.op_parts.specs.RoundLaws.{IsMarkShown}
use Rattle.op_parts.specs.Walk.{block_tail}
use Rattle.settle.specs.Settling.{Settling, asking}
use Rattle.settle.specs.Says.{IsRowGiven, IsNewestMember}

-- this is the metablock of the row itself, or of a good row of the ledger that the store gave in these calls
abbrev pub IsOwnRow : Settling → List Event → MetaBlock → Type 0
IsOwnRow settling events block = (block ≡ settling.block) ⊎ IsRowGiven settling events block

-- these bytes of an accepted receipt are attached to such a row, and each of its marks is a member's answer in these calls
abbrev pub IsOwnAttach : Accepts → Settling → List Event → List ℕ → ℕ → List ℕ → Type 0
IsOwnAttach accepts settling events handle height bytes =
    (block : MetaBlock) × (receipt : Receipt) × IsOwnRow settling events block × (handle ≡ settling.handle) × (height ≡ block.height)
    × (bytes ≡ receipt_bytes receipt)
    × IsReceiptFor accepts settling.configs (record { handle = settling.handle; tail = block_tail block; count = block.height + 1 }) receipt
    × AllByRecursion (IsMarkShown accepts (asking settling block) events) receipt.marks

-- a get of a row of the ledger, such an attach, or an append of such a row to a member of the newest view
abbrev pub IsOwnCall : Accepts → Settling → List Event → Event → Type 0
IsOwnCall accepts settling events (AtStore (Get (keys.Row handle height)) answer) = handle ≡ settling.handle
IsOwnCall accepts settling events (AtStore (Attach (keys.Row handle height) bytes) answer) = IsOwnAttach accepts settling events handle height bytes
IsOwnCall accepts settling events (AtLink id call heard) =
    IsNewestMember settling id × ((block : MetaBlock) × IsOwnRow settling events block × (call ≡ append_of settling.handle block))
IsOwnCall accepts settling events event = ⊥
