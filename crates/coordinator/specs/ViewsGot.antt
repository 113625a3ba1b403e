-- How a coordinator gets the finals of the views of its chain.
use Rattle.std.specs.Prelude.{◌≡◌, ◌⊎◌, ℕ, ◌+◌, List, [], ◌∷◌, ◌++◌, length, Option, Some, None, Result, Ok, Err}
use Rattle.port.specs.declared.key.Key.{Key}
use Rattle.port.specs.declared.key.Key.TheVariants as keys
use Rattle.port.specs.declared.store_answers.Got.{Got}
use Rattle.port.specs.declared.store_answers.Got.TheVariants as gots
use Rattle.port.specs.Cause.{Cause, StoreFault, BadRow}
use Rattle.port.specs.Store.{StoreView, StoreStep, Get, WasGot}
use Rattle.port.specs.Trace.{Event, AtStore, AtLink}
use Rattle.port.specs.View.{FinalMap, ViewRow}
use Rattle.view_ledger.specs.declared.view_fault.ViewFault.{ViewFault}
use Rattle.view_ledger.specs.Views.{ViewChain}
use Rattle.view_ledger.specs.Receipts.{Accepts}
use Rattle.view_ledger.specs.Extension.{Follows, extend_outcome}
use Rattle.view_ledger.specs.Numbered.{chain_below, row_at}
use Rattle.op_parts.specs.Refresh.{GaveFinals, ReadsAsFinals, marks_of}
use Rattle.op_parts.specs.RefreshSays.{FailedAt, GaveBadFinals}
use Rattle.op_entry.specs.Refusal.{OrMemory}

module _ {S : Type 0} (store_view : S → StoreView) where
  -- these calls were made to the store, the newest first, and no other
  abbrev pub Asked : S → List Event → S → Type 0
  Asked s [] s' = s' ≡ s
  Asked s (AtStore call answer ∷ past) s' = (m : S) × Asked s past m × StoreStep store_view m s' call answer
  Asked s (AtLink id call heard ∷ past) s' = ⊥

-- the get of what ended the view below this number, and what the store gave
abbrev pub finals_event : ℕ → Got → Event
finals_event number got = AtStore (Get (keys.Finals number)) (WasGot got)

-- In this call the store gave finals with which the chain's view of this number follows those below it, and this is that view with
-- them.
pub record GaveView (accepts : Accepts) (chain : ViewChain) (number : ℕ) (row : ViewRow) (event : Event) : Type 0 where
  pub bytes : List ℕ
  pub given : GaveFinals number bytes event
  pub maps : List FinalMap
  pub finals : ReadsAsFinals bytes maps
  pub is : row ≡ row_at chain.configs number (marks_of maps)
  pub follows : Follows accepts (chain_below chain number) row

-- In this call the store gave finals with which the chain's view of this number doesn't follow those below it.
pub record GaveOthers (accepts : Accepts) (chain : ViewChain) (number : ℕ) (bytes : List ℕ) (event : Event) : Type 0 where
  pub given : GaveFinals number bytes event
  pub maps : List FinalMap
  pub finals : ReadsAsFinals bytes maps
  pub fault : ViewFault
  pub refused : extend_outcome accepts (chain_below chain number) (row_at chain.configs number (marks_of maps)) ≡ Err fault

-- why there are no finals of the view of this number: the store failed; it gave none; it gave bytes that are none, or others
abbrev pub IsFinalsRefused : Accepts → ViewChain → ℕ → Event → Cause → Type 0
IsFinalsRefused accepts chain number event StoreFault = FailedAt (keys.Finals number) event
IsFinalsRefused accepts chain number event (BadRow key None) = (key ≡ keys.Finals number) × (event ≡ finals_event number gots.None)
IsFinalsRefused accepts chain number event (BadRow key (Some bytes)) =
    (key ≡ keys.Finals number) × (GaveBadFinals number bytes event ⊎ GaveOthers accepts chain number bytes event)
IsFinalsRefused accepts chain number event cause = ⊥

-- what the get of the finals of this number came to
abbrev pub ComesTo : Accepts → ViewChain → ℕ → Event → Result ViewRow Cause → Type 0
ComesTo accepts chain number event (Ok row) = GaveView accepts chain number row event
ComesTo accepts chain number event (Err cause) = OrMemory (IsFinalsRefused accepts chain number event) cause

-- By these calls, the newest first, the finals of the views from the first number on were got, one call each, and these are the views.
abbrev pub AreGot : Accepts → ViewChain → ℕ → List ViewRow → List Event → Type 0
AreGot accepts chain first rows [] = rows ≡ []
AreGot accepts chain first rows (event ∷ past) =
    (row : ViewRow) × (earlier : List ViewRow) × (rows ≡ earlier ++ row ∷ [])
    × GaveView accepts chain (first + length past) row event × AreGot accepts chain first earlier past
