-- What a coordinator says of its answers.
use Rattle.std.specs.Prelude.{ℕ, List}
use Rattle.port.specs.Link.{LinkView}
use Rattle.port.specs.Service.{ServiceCall, NewLedger, Append, Latest, At, Views, ServiceAnswer}
use Rattle.port.specs.Store.{StoreView}
use Rattle.view_ledger.specs.Receipts.{Accepts}
use Rattle.op_entry.specs.Ask.{Ask}
use Rattle.op_entry.specs.Ask as asks
use Rattle.op_latest.specs.LatestAsked.{LatestAsk}
use Rattle.coordinator.specs.State.{State}
use Rattle.coordinator.specs.Calls.{Served, OfStanding, OfReply, OfViews}
use Rattle.coordinator.specs.Entries.{EntryServed, first_entry, later_entry}
use Rattle.coordinator.specs.Latest.{LatestServed}
use Rattle.coordinator.specs.Views.{ViewsServed}

module _ {S L C : Type 0} (accepts : C → Accepts) (store_view : S → StoreView) (link_view : L → LinkView) (old new : State S L C) where
  abbrev pub SaysOfEntry : Ask → ServiceAnswer → Type 0
  SaysOfEntry ask answer =
      Served store_view link_view old new (λ events. OfStanding (EntryServed (accepts old.checker) ask old.chain new.chain events) answer)

  abbrev pub SaysOfLatest : LatestAsk → ServiceAnswer → Type 0
  SaysOfLatest ask answer =
      Served store_view link_view old new (λ events. OfReply (LatestServed (accepts old.checker) ask old.chain new.chain events) answer)

  abbrev pub SaysOfViews : ℕ → ServiceAnswer → Type 0
  SaysOfViews number answer =
      Served store_view link_view old new (λ events. OfViews (ViewsServed (accepts old.checker) number old.chain new.chain events) answer)

-- what the coordinator did and was answered outside, by what was asked of it
abbrev pub coordinator_says : {S L C : Type 0} → (C → Accepts) → (S → StoreView) → (L → LinkView) → State S L C → State S L C → ServiceCall → ServiceAnswer → Type 0
coordinator_says accepts sv lv old new (NewLedger nonce payload) answer = SaysOfEntry accepts sv lv old new (asks.NewLedger (first_entry nonce payload)) answer
coordinator_says accepts sv lv old new (Append handle height nonce payload) answer =
    SaysOfEntry accepts sv lv old new (asks.AppendEntry (later_entry handle height nonce payload)) answer
coordinator_says accepts sv lv old new (Latest handle nonce) answer = SaysOfLatest accepts sv lv old new (record { handle = handle; nonce = nonce }) answer
coordinator_says accepts sv lv old new (At handle height) answer = SaysOfEntry accepts sv lv old new (asks.ReadAt handle height) answer
coordinator_says accepts sv lv old new (Views number) answer = SaysOfViews accepts sv lv old new number answer
