-- Standings, and the answer that one is.
use Rattle.std.specs.Prelude.{ℕ, ◌+◌, if◌then◌else◌, List, Option, Result, Ok, Err}
use Rattle.chain_block.specs.declared.meta_block.MetaBlock.{MetaBlock}
use Rattle.chain_block.specs.Entry.{handle_of}
use Rattle.statement.specs.declared.member.Member.{Member}
use Rattle.statement.specs.Receipt.{Receipt}
use Rattle.port.specs.Cause.{Cause, Conflict}
use Rattle.port.specs.Reply.{Standing}
use Rattle.port.specs.Row.{Content}
use Rattle.view_ledger.specs.Receipts.{Accepts}
use Rattle.op_parts.specs.declared.attachment.Head.{Head}
use Rattle.op_parts.specs.Attachment.{IsAttached}
use Rattle.op_parts.specs.Walk.{block_tail}
use Rattle.settle.specs.Settling.{Settling}
use Rattle.op_entry.specs.declared.found.Found.{Found}

-- the head of the ledger after this row
abbrev pub head_of : Content → Head
head_of row = record { handle = handle_of row.entry; tail = block_tail row.metablock; count = row.metablock.height + 1 }

-- the row is to have a receipt under these views
abbrev pub settling_of : List (List Member) → Content → Settling
settling_of configs row = record { handle = handle_of row.entry; block = row.metablock; configs = configs }

-- no receipt for the row is attached that the chain accepts
abbrev pub IsUnreceipted : Accepts → List (List Member) → Content → Option (List ℕ) → Type 0
IsUnreceipted accepts configs row attached = (receipt : Receipt) → IsAttached accepts configs (head_of row) attached receipt → ⊥

abbrev pub standing_of : Content → List MetaBlock → Receipt → Standing
standing_of row chain receipt = record { row = row; chain = chain; receipt = receipt }

-- where another entry stands than the one that is asked for, it is a conflict
abbrev pub answer_with : Found → List MetaBlock → Receipt → Result Standing Cause
answer_with found chain receipt = if found.is_own then Ok (standing_of found.row chain receipt) else Err (Conflict (standing_of found.row chain receipt))
