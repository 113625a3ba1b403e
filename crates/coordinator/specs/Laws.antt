-- What follows from what a coordinator says.
use Rattle.std.specs.Prelude.{List}
use Rattle.port.specs.Cause.{Cause, IsShown}
use Rattle.port.specs.Link.{LinkView}
use Rattle.port.specs.Store.{StoreView}
use Rattle.port.specs.Trace.{Event, Ran}
use Rattle.coordinator.specs.State.{State}

-- these calls were made and no other, and they show the cause
abbrev pub Shown : {S L C : Type 0} → (S → StoreView) → (L → LinkView) → State S L C → State S L C → Cause → Type 0
Shown sv lv old new cause = (events : List Event) × Ran sv lv old.store old.link events new.store new.link × IsShown events cause
