-- What a call of an operation that is run by hand does to a coordinator.
use Rattle.std.specs.Prelude.{◌≡◌, List}
use Rattle.port.specs.Link.{LinkView}
use Rattle.port.specs.Store.{StoreView}
use Rattle.port.specs.Trace.{Event, Ran}
use Rattle.coordinator.specs.State.{State}

-- These calls were made over its store and link, and no other; all else is as it was.
pub record Calls {S L C : Type 0} (store_view : S → StoreView) (link_view : L → LinkView) (old : State S L C) (events : List Event) (new : State S L C) : Type 0 where
  pub ran : Ran store_view link_view old.store old.link events new.store new.link
  pub chain : new.chain ≡ old.chain
  pub checker : new.checker ≡ old.checker
  pub refused : new.refused ≡ old.refused
