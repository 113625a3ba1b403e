use Rattle.port.specs.Cause.{Cause}
use Rattle.port.specs.Link.{LinkView}
use Rattle.port.specs.Service.{ServiceCall, NewLedger, Append, Latest, At, Views, Refused}
use Rattle.port.specs.Store.{StoreView}
use Rattle.view_ledger.specs.Receipts.{Accepts}
use Rattle.coordinator.specs.Laws.{Shown}
use Rattle.coordinator.specs.Says.{coordinator_says}
use Rattle.coordinator.specs.State.{State}
use Rattle.coordinator.proofs.Showing.{EntryShowing, LatestShowing, entry_shown, views_shown}
use Rattle.coordinator.proofs.laws.refusals_are_shown.Goals as goal

module _ {S L C : Type 0} (accepts : C → Accepts) (sv : S → StoreView) (lv : L → LinkView) (entries : EntryShowing) (reads : LatestShowing) (old new : State S L C) where
  shown : (call : ServiceCall) (cause : Cause) → coordinator_says accepts sv lv old new call (Refused cause) → Shown sv lv old new cause
  shown (NewLedger nonce payload) cause says = (says.events, says.ran, entry_shown entries (accepts old.checker) _ old.chain new.chain says.events cause says.did)
  shown (Append handle height nonce payload) cause says = (says.events, says.ran, entry_shown entries (accepts old.checker) _ old.chain new.chain says.events cause says.did)
  shown (Latest handle nonce) cause says = (says.events, says.ran, reads (accepts old.checker) _ new.chain says.events cause says.did.says)
  shown (At handle height) cause says = (says.events, says.ran, entry_shown entries (accepts old.checker) _ old.chain new.chain says.events cause says.did)
  shown (Views number) cause says = (says.events, says.ran, views_shown entries (accepts old.checker) number old.chain new.chain says.events cause says.did.says)

pub returns-clause-call : goal.returns-clause-call
returns-clause-call g c old new call cause says =
    shown g.C.Checker.accepts g.S.Store.view g.L.Link.view c.entry_refusals_are_shown.ensures.cause c.latest_refusals_are_shown.ensures old new call cause says
