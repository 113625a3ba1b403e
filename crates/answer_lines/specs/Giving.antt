-- A client that took an answer.
use Rattle.std.specs.Prelude.{◌≡◌, ◌⊎◌, ℕ, Option, Some, None, Result, Ok, Err}
use Rattle.port.specs.Cause.{Cause, Conflict}
use Rattle.port.specs.Link.{LinkView}
use Rattle.port.specs.Service.{ServiceAnswer, Views}
use Rattle.port.specs.Store.{StoreView}
use Rattle.view_ledger.specs.Receipts.{Accepts}
use Rattle.port.specs.Reply.{Standing}
use Rattle.verifier.specs.declared.reply_fault.ReplyFault.{ReplyFault}
use Rattle.client_pass.specs.declared.take_fault.TakeFault.{TakeFault}
use Rattle.client_pass.specs.declared.take_fault.TakeFault.TheVariants.{Reply}
use Rattle.client_pass.specs.ClientPass.{ClientPass}
use Rattle.coordinator.specs.Says.{coordinator_says}
use Rattle.coordinator.specs.State.{State}
use Rattle.client_acts.specs.ClientActs.{ClientActs, Acts}
use Rattle.answer_lines.specs.Taken.{Sides}

-- the client at this place acted, and this is so of it and of the coordinator, before and after
abbrev pub Gave : {S L C : Type 0} → ClientActs C → ClientActs C → ℕ → State S L C → State S L C → (Sides S L C → Type 0) → Type 0
Gave {S} {L} {C} old new place before after P =
    (from : ClientPass C) × (to : ClientPass C) × Acts old new place from to × P (record { from = from; to = to; before = before; after = after })

-- nothing was asked of the coordinator, or it was asked for views
abbrev pub OnlyLearned : {S L C : Type 0} → (C → Accepts) → (S → StoreView) → (L → LinkView) → State S L C → State S L C → Type 0
OnlyLearned accepts store_view link_view before after =
    (after ≡ before) ⊎ ((number : ℕ) × (answer : ServiceAnswer) × coordinator_says accepts store_view link_view before after (Views number) answer)

-- the answer to a latest read whose check said this
abbrev pub count_by : Result ℕ ReplyFault → Result ℕ TakeFault
count_by (Ok count) = Ok count
count_by (Err fault) = Err (Reply fault)

-- what stands, where the cause is a conflict
abbrev pub conflict_in : Cause → Option Standing
conflict_in (Conflict standing) = Some standing
conflict_in cause = None
