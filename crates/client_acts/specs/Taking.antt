-- A client that took a reply.
use Rattle.std.specs.Prelude.{◌≡◌, ◌⊎◌, ℕ, ◌-◌, List, [], ◌∷◌, ◌++◌, length, Option, Result, Err}
use Rattle.port.specs.Link.{LinkView}
use Rattle.port.specs.Store.{StoreView}
use Rattle.view_ledger.specs.Receipts.{Accepts}
use Rattle.verifier.specs.declared.reply_fault.ReplyFault.{ReplyFault}
use Rattle.client_pass.specs.declared.take_fault.TakeFault.{TakeFault}
use Rattle.client_pass.specs.declared.take_fault.TakeFault.TheVariants.{NoMemory}
use Rattle.client_pass.specs.Act.{Act}
use Rattle.client_pass.specs.Answers.{IfNotNoted, IfReplyNoted}
use Rattle.client_pass.specs.ClientPass.{ClientPass}
use Rattle.coordinator.specs.State.{State}
use Rattle.reply_taking.specs.Learning.{Learns, NotedAfterViews, TakesViews}
use Rattle.client_acts.specs.ClientActs.{ClientActs, Acts}
use Rattle.client_acts.specs.Turns.{turn_of}

-- memory was wanted before anything was done
abbrev pub IsUnbegun : {S L C A : Type 0} → ClientActs C → ClientActs C → State S L C → State S L C → Result A TakeFault → Type 0
IsUnbegun old new before after result = (result ≡ Err NoMemory) × (new ≡ old) × (after ≡ before)

-- The client at this place acted. It learned of the view as far as the coordinator told, then noted this act with the fault of its check,
-- and all its lines are one turn, unless nothing was begun; and this is so of the client before and after.
pub record Took {S L C A : Type 0} (accepts : C → Accepts) (store_view : S → StoreView) (link_view : L → LinkView) (old new : ClientActs C) (before after : State S L C) (place calls : ℕ) (view : List ℕ) (result : Result A TakeFault) (act : Option ReplyFault → Act) (P : ClientPass C → ClientPass C → Type 0) : Type 0 where
  pub from : ClientPass C
  pub to : ClientPass C
  pub acts : Acts old new place from to
  pub learns : Learns accepts store_view link_view before after from to view ⊎ IsUnbegun old new before after result
  pub turn : (new.turns ≡ old.turns ++ turn_of place calls (length to.lines - length from.lines) ∷ []) ⊎ IsUnbegun old new before after result
  pub noted : IfReplyNoted result (λ fault. NotedAfterViews from to (act fault))
  pub unnoted : IfNotNoted result (TakesViews from to)
  pub says : P from to
