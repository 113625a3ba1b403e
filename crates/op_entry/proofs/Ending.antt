-- How an operation ends.
use Rattle.std.proofs.Common.{inl, Bool, true, false, List}
use Rattle.chain_block.specs.declared.meta_block.MetaBlock.{MetaBlock}
use Rattle.statement.specs.Receipt.{Receipt}
use Rattle.port.specs.Cause.{Cause, NoMemory}
use Rattle.port.specs.Row.{Content}
use Rattle.port.specs.Trace.{Event}
use Rattle.view_ledger.specs.Views.{ViewChain}
use Rattle.view_ledger.specs.Receipts.{Accepts}
use Rattle.op_entry.specs.declared.found.Found.{Found}
use Rattle.op_entry.specs.Ask.{Ask}
use Rattle.op_entry.specs.Standing.{answer_with}
use Rattle.op_entry.specs.Refusal.{OrMemory}
use Rattle.op_entry.specs.Sound.{Stands, IsAnswered}

-- the cause holds, whether memory is wanted or not
pub holds : (P : Cause → Type 0) (cause : Cause) → P cause → OrMemory P cause
holds P NoMemory p = tt
holds P cause p = p

by_own : (accepts : Accepts) (ask : Ask) (from chain : ViewChain) (row : Content) (is_own : Bool) (blocks : List MetaBlock) (receipt : Receipt) (past : List Event)
    → Stands accepts ask from chain (record { row = row; is_own = is_own }) blocks receipt past
    → IsAnswered accepts ask from chain (answer_with (record { row = row; is_own = is_own }) blocks receipt) past
by_own accepts ask from chain row true blocks receipt past stands = stands
by_own accepts ask from chain row false blocks receipt past stands = inl stands

-- with what stands
pub stood : (accepts : Accepts) (ask : Ask) (from chain : ViewChain) (found : Found) (blocks : List MetaBlock) (receipt : Receipt) (past : List Event)
    → Stands accepts ask from chain found blocks receipt past → IsAnswered accepts ask from chain (answer_with found blocks receipt) past
stood accepts ask from chain found blocks receipt past stands = by_own accepts ask from chain found.row found.is_own blocks receipt past stands
