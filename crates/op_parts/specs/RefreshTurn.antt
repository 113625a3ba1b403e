-- What one call of a refresh makes of it and of the chain.
use Rattle.std.specs.Prelude.{◌≡◌, ℕ, List, length, Some, Result, Ok, Err}
use Rattle.nim_base.specs.declared.no_memory.NoMemory.{NoMemory}
use Rattle.statement.specs.declared.member.Member.{Member}
use Rattle.statement.specs.declared.view_block.ViewBlock.{ViewBlock}
use Rattle.port.specs.declared.key.Key.TheVariants as keys
use Rattle.port.specs.declared.refusal.Refusal.TheVariants as refusals
use Rattle.port.specs.declared.store_answers.Got.TheVariants as gots
use Rattle.port.specs.View.{FinalMap, FinalMark, ViewRow}
use Rattle.port.specs.Store.{WasGot}
use Rattle.port.specs.Trace.{Event, AtStore}
use Rattle.port.specs.Cause.{cause_of}
use Rattle.view_ledger.specs.Views.{ViewChain}
use Rattle.view_ledger.specs.Receipts.{Accepts}
use Rattle.view_ledger.specs.declared.view_fault.ViewFault.{ViewFault}
use Rattle.view_ledger.specs.Extension.{Follows, extended, extend_outcome}
use Rattle.op_parts.specs.declared.refresh_turn.RefreshProgress.{RefreshProgress}
use Rattle.op_parts.specs.declared.refresh_turn.RefreshProgress.TheVariants.{More, Fresh, Refused}
use Rattle.op_parts.specs.declared.refresh_turn.RefreshTurn.{RefreshTurn}
use Rattle.op_parts.specs.RefreshState.{RefreshState, AtView, AtFinals, AtEnd, state_of}
use Rattle.op_parts.specs.Refresh.{GaveView, ReadsAsView, GaveFinals, ReadsAsFinals, marks_of}
use Rattle.op_parts.specs.RefreshSays.{IsOfView, IsOfFinals, GaveNoView, IsRefusedAtView, IsRefusedAtFinals}

-- a call in which memory may be wanted: the store wanted it, or what it gave is to be read
abbrev pub MayLack : Event → Type 0
MayLack (AtStore call (WasGot gots.NoMemory)) = Unit {0}
MayLack (AtStore call (WasGot (gots.Some stored))) = Unit {0}
MayLack event = ⊥

-- where the view of this number is to be got: how it goes on after this call
abbrev pub GoesFromView : ℕ → Event → RefreshState → RefreshProgress → Type 0
GoesFromView number event (AtFinals body block config) More = GaveView number body event × ReadsAsView body (block, config)
GoesFromView number event AtEnd Fresh = GaveNoView number event
GoesFromView number event AtEnd (Refused refusal) = IsRefusedAtView number event (cause_of refusal)
GoesFromView number event state progress = ⊥

abbrev pub TurnsAtView : ℕ → Event → Result RefreshTurn NoMemory → Type 0
TurnsAtView number event (Ok turn) = GoesFromView number event (state_of turn.stage) turn.progress
TurnsAtView number event (Err wanted) = MayLack event

-- The store gave finals, with which this view follows the chain, and the chain has it now.
pub record Extends (accepts : Accepts) (chain : ViewChain) (block : ViewBlock) (config : List Member) (event : Event) (longer : ViewChain) : Type 0 where
  pub bytes : List ℕ
  pub given : GaveFinals (length chain.configs) bytes event
  pub maps : List FinalMap
  pub finals : ReadsAsFinals bytes maps
  pub follows : Follows accepts chain (record { block = block; config = config; finals = marks_of maps })
  pub grown : longer ≡ extended chain config

-- where the finals are to be got: how it goes on after this call, and which chain it is then
abbrev pub GoesFromFinals : Accepts → ViewChain → List ℕ → ViewBlock → List Member → Event → ViewChain → RefreshState → RefreshProgress → Type 0
GoesFromFinals accepts chain body block config event after AtView More = Extends accepts chain block config event after
GoesFromFinals accepts chain body block config event after AtEnd (Refused refusal) =
    IsRefusedAtFinals accepts chain body block config event (cause_of refusal) × (after ≡ chain)
GoesFromFinals accepts chain body block config event after state progress = ⊥

abbrev pub TurnsAtFinals : Accepts → ViewChain → List ℕ → ViewBlock → List Member → Event → ViewChain → Result RefreshTurn NoMemory → Type 0
TurnsAtFinals accepts chain body block config event after (Ok turn) =
    GoesFromFinals accepts chain body block config event after (state_of turn.stage) turn.progress
TurnsAtFinals accepts chain body block config event after (Err wanted) = MayLack event × (after ≡ chain)

-- By these marks, which were read from these bytes of finals, the chain was extended by the view, or the extension was refused.
abbrev pub GoesByMarks : Accepts → ViewChain → List ℕ → ViewRow → ℕ → List ℕ → ViewChain → RefreshState → RefreshProgress → Type 0
GoesByMarks accepts chain body next number bytes after AtView More = Follows accepts chain next × (after ≡ extended chain next.config)
GoesByMarks accepts chain body next number bytes after AtEnd (Refused (refusals.BadRow (keys.View n) (Some given))) =
    (n ≡ number) × (given.bytes ≡ body) × (after ≡ chain) × ((fault : ViewFault) × IsOfView fault × (extend_outcome accepts chain next ≡ Err fault))
GoesByMarks accepts chain body next number bytes after AtEnd (Refused (refusals.BadRow (keys.Finals n) (Some given))) =
    (n ≡ number) × (given.bytes ≡ bytes) × (after ≡ chain) × ((fault : ViewFault) × IsOfFinals fault × (extend_outcome accepts chain next ≡ Err fault))
GoesByMarks accepts chain body next number bytes after state progress = ⊥

abbrev pub Extended : Accepts → ViewChain → List ℕ → ViewBlock → List Member → List FinalMark → ℕ → List ℕ → ViewChain → Result RefreshTurn NoMemory → Type 0
Extended accepts chain body block config marks number bytes after (Ok turn) =
    GoesByMarks accepts chain body (record { block = block; config = config; finals = marks }) number bytes after (state_of turn.stage) turn.progress
Extended accepts chain body block config marks number bytes after (Err wanted) = after ≡ chain

-- the turn is taken: this state and this answer are its own, and at want of memory the refresh ends
abbrev pub IsTaken : Result RefreshTurn NoMemory → RefreshState → Result RefreshProgress NoMemory → Type 0
IsTaken (Ok turn) state result = (state ≡ state_of turn.stage) × (result ≡ Ok turn.progress)
IsTaken (Err wanted) state result = (state ≡ AtEnd) × (result ≡ Err wanted)

-- the same of a call, by what it makes of the refresh and what is answered
abbrev pub GoesAtView : ℕ → Event → RefreshState → Result RefreshProgress NoMemory → Type 0
GoesAtView number event new (Ok progress) = GoesFromView number event new progress
GoesAtView number event new (Err wanted) = (new ≡ AtEnd) × MayLack event

abbrev pub GoesAtFinals : Accepts → ViewChain → List ℕ → ViewBlock → List Member → Event → ViewChain → RefreshState → Result RefreshProgress NoMemory → Type 0
GoesAtFinals accepts chain body block config event after new (Ok progress) = GoesFromFinals accepts chain body block config event after new progress
GoesAtFinals accepts chain body block config event after new (Err wanted) = (new ≡ AtEnd) × MayLack event × (after ≡ chain)
