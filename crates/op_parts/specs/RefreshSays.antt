-- What the answer to a step of a refresh says of the newest calls.
use Rattle.std.specs.Prelude.{◌≡◌, ◌⊎◌, ℕ, false, List, length, Some, None, Err}
use Rattle.statement.specs.declared.member.Member.{Member}
use Rattle.statement.specs.declared.view_block.ViewBlock.{ViewBlock}
use Rattle.port.specs.declared.key.Key.{Key}
use Rattle.port.specs.declared.key.Key.TheVariants as keys
use Rattle.port.specs.declared.store_answers.Got.TheVariants as gots
use Rattle.port.specs.View.{FinalMap}
use Rattle.port.specs.Stored.{Stored}
use Rattle.port.specs.Store.{Get, WasGot}
use Rattle.port.specs.Trace.{Event, AtStore}
use Rattle.port.specs.Cause.{Cause, StoreFault, BadRow}
use Rattle.view_ledger.specs.declared.view_fault.ViewFault.{ViewFault}
use Rattle.view_ledger.specs.declared.view_fault.ViewFault.TheVariants as faults
use Rattle.view_ledger.specs.Views.{ViewChain}
use Rattle.view_ledger.specs.Receipts.{Accepts}
use Rattle.view_ledger.specs.Extension.{extend_outcome}
use Rattle.op_parts.specs.Refresh.{IsComplete, GaveView, ReadsAsView, GaveFinals, ReadsAsFinals, marks_of}

-- in this call the store gave no view of this number that is marked as complete
abbrev pub GaveNoView : ℕ → Event → Type 0
GaveNoView number event =
    (event ≡ AtStore (Get (keys.View number)) (WasGot gots.None))
    ⊎ ((stored : Stored) × (event ≡ AtStore (Get (keys.View number)) (WasGot (gots.Some stored))) × (IsComplete stored ≡ false))

-- in this call of a get the store failed
abbrev pub FailedAt : Key → Event → Type 0
FailedAt key event = event ≡ AtStore (Get key) (WasGot gots.Failed)

-- in this call the store gave these bytes of the view of this number, marked as complete, which are no view's
abbrev pub GaveBadView : ℕ → List ℕ → Event → Type 0
GaveBadView number bytes event = GaveView number bytes event × ((view : ViewBlock × List Member) → ReadsAsView bytes view → ⊥)

-- in this call the store gave these bytes of the finals of this number, which are no finals'
abbrev pub GaveBadFinals : ℕ → List ℕ → Event → Type 0
GaveBadFinals number bytes event = GaveFinals number bytes event × ((finals : List FinalMap) → ReadsAsFinals bytes finals → ⊥)

-- The extension of a chain was refused: for what the view is, or for what ended the one below.
abbrev pub IsOfView : ViewFault → Type 0
IsOfView faults.BadLink = Unit {0}
IsOfView (faults.NotGenuine id) = Unit {0}
IsOfView fault = ⊥

abbrev pub IsOfFinals : ViewFault → Type 0
IsOfFinals (faults.BadMark id) = Unit {0}
IsOfFinals (faults.NoQuorum got need) = Unit {0}
IsOfFinals fault = ⊥

-- in this call the store gave these bytes of finals, with which this view doesn't follow the chain, for this fault
pub record RefusesNext (accepts : Accepts) (chain : ViewChain) (block : ViewBlock) (config : List Member) (bytes : List ℕ) (fault : ViewFault) (event : Event) : Type 0 where
  pub given : GaveFinals (length chain.configs) bytes event
  pub maps : List FinalMap
  pub finals : ReadsAsFinals bytes maps
  pub outcome : extend_outcome accepts chain (record { block = block; config = config; finals = marks_of maps }) ≡ Err fault

-- where the view is to be got: why it was refused
abbrev pub IsRefusedAtView : ℕ → Event → Cause → Type 0
IsRefusedAtView number event StoreFault = FailedAt (keys.View number) event
IsRefusedAtView number event (BadRow key (Some bytes)) = (key ≡ keys.View number) × GaveBadView number bytes event
IsRefusedAtView number event cause = ⊥

-- where the finals are to be got of the view with these bytes: why it was refused
abbrev pub IsRefusedAtFinals : Accepts → ViewChain → List ℕ → ViewBlock → List Member → Event → Cause → Type 0
IsRefusedAtFinals accepts chain body block config event StoreFault = FailedAt (keys.Finals (length chain.configs)) event
IsRefusedAtFinals accepts chain body block config event (BadRow (keys.Finals number) None) =
    (number ≡ length chain.configs) × (event ≡ AtStore (Get (keys.Finals number)) (WasGot gots.None))
IsRefusedAtFinals accepts chain body block config event (BadRow (keys.Finals number) (Some bytes)) =
    (number ≡ length chain.configs)
    × (GaveBadFinals number bytes event ⊎ ((fault : ViewFault) × IsOfFinals fault × RefusesNext accepts chain block config bytes fault event))
IsRefusedAtFinals accepts chain body block config event (BadRow (keys.View number) (Some bytes)) =
    (number ≡ length chain.configs) × (bytes ≡ body)
    × ((fault : ViewFault) × (given : List ℕ) × IsOfView fault × RefusesNext accepts chain block config given fault event)
IsRefusedAtFinals accepts chain body block config event cause = ⊥
