-- What a step makes of a settling, and what it says.
use Rattle.std.specs.Prelude.{◌≡◌, ℕ, List, ◌∷◌, Result, Ok, Err}
use Rattle.nim_base.specs.declared.no_memory.NoMemory.{NoMemory}
use Rattle.chain_block.specs.declared.meta_block.MetaBlock.{MetaBlock}
use Rattle.statement.specs.declared.member.Member.{Member}
use Rattle.port.specs.declared.store_answers.Attached.TheVariants as attaches
use Rattle.port.specs.Cause.{cause_of}
use Rattle.port.specs.Store.{Attach, WasAttached}
use Rattle.port.specs.Trace.{Event, AtStore}
use Rattle.view_ledger.specs.Receipts.{Accepts}
use Rattle.settle.specs.declared.progress.SettleProgress.{SettleProgress}
use Rattle.settle.specs.declared.progress.SettleProgress.TheVariants.{More, Stands, Refused}
use Rattle.settle.specs.Settling.{Settling}
use Rattle.settle.specs.State.{State}
use Rattle.settle.specs.Sound.{Sound}
use Rattle.settle.specs.Says.{IsSettled, IsRefused}

-- Memory may be wanted at every call; at an attach the store wanted it, whose other answers are passed over.
abbrev pub MayLack : List Event → Type 0
MayLack (AtStore (Attach key bytes) answer ∷ past) = answer ≡ WasAttached attaches.NoMemory
MayLack past = Unit {0}

-- what the answer to a step says of all calls, its own among them
abbrev pub Says : Accepts → Settling → List Event → Result SettleProgress NoMemory → Type 0
Says accepts settling past (Ok (Stands chain receipt)) = IsSettled accepts settling past chain.items receipt
Says accepts settling past (Ok (Refused refusal)) = IsRefused accepts settling past (cause_of refusal)
Says accepts settling past (Ok More) = Unit {0}
Says accepts settling past (Err wanted) = MayLack past

-- Whatever calls it has made, it has then made this one too.
abbrev pub Leads : Accepts → List (List Member) → State → Event → State → Result SettleProgress NoMemory → Type 0
Leads accepts configs old event new result =
    (handle : List ℕ) (block : MetaBlock) (past : List Event) → let settling : Settling = record { handle = handle; block = block; configs = configs } in
    Sound accepts settling old past → Sound accepts settling new (event ∷ past) × Says accepts settling (event ∷ past) result
