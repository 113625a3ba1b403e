-- What a call of a coordinator does to what is outside.
use Rattle.std.specs.Prelude.{◌≡◌, List, [], Result, Ok, Err}
use Rattle.port.specs.Cause.{Cause, NoMemory}
use Rattle.port.specs.Link.{LinkView}
use Rattle.port.specs.Reply.{Standing, LatestReply}
use Rattle.port.specs.Service.{ServiceAnswer, Stood, Replied, Knew, Refused}
use Rattle.port.specs.Store.{StoreView}
use Rattle.port.specs.Trace.{Event, Ran}
use Rattle.port.specs.View.{ViewRow}
use Rattle.coordinator.specs.State.{State}

-- These calls were made to the store and the link, the newest first, and no other; the checker is as it was; and this is what
-- the calls were and say.
pub record Served {S L C : Type 0} (store_view : S → StoreView) (link_view : L → LinkView) (old new : State S L C) (says : List Event → Type 0) : Type 0 where
  pub events : List Event
  pub ran : Ran store_view link_view old.store old.link events new.store new.link
  pub checker : new.checker ≡ old.checker
  pub did : says events

-- memory was wanted before the first call
abbrev pub IsUnbegun : List Event → Result Standing Cause → Type 0
IsUnbegun events (Err NoMemory) = events ≡ []
IsUnbegun events answer = ⊥

-- this holds of the answer, which is of the kind that the call has
abbrev pub OfStanding : (Result Standing Cause → Type 0) → ServiceAnswer → Type 0
OfStanding P (Stood standing) = P (Ok standing)
OfStanding P (Refused cause) = P (Err cause)
OfStanding P answer = ⊥

abbrev pub OfReply : (Result LatestReply Cause → Type 0) → ServiceAnswer → Type 0
OfReply P (Replied reply) = P (Ok reply)
OfReply P (Refused cause) = P (Err cause)
OfReply P answer = ⊥

abbrev pub OfViews : (Result (List ViewRow) Cause → Type 0) → ServiceAnswer → Type 0
OfViews P (Knew rows) = P (Ok rows)
OfViews P (Refused cause) = P (Err cause)
OfViews P answer = ⊥
