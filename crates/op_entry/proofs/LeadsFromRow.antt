-- What one more call makes of an operation that has come to its own row.
use Rattle.std.proofs.Common.{◌≡◌, inl, inr, ℕ, true, List, [], ◌∷◌, Option, Result, Ok, Err, refl, sym, subst, ap}
use Rattle.std.specs.Prelude.{◌↔◌}
use Rattle.std.specs.Option.{option_map}
use Rattle.nim_base.specs.declared.no_memory.NoMemory.{NoMemory as MemoryWanted}
use Rattle.port.specs.declared.key.Key.TheVariants as keys
use Rattle.port.specs.declared.store_answers.Put.TheVariants as puts
use Rattle.port.specs.declared.store_answers.Got.{Got}
use Rattle.port.specs.declared.store_answers.Got.TheVariants as gots
use Rattle.port.specs.Cause.{Cause, NoMemory, cause_of}
use Rattle.port.specs.Row.{Content}
use Rattle.port.specs.Stored.{Stored}
use Rattle.port.specs.Trace.{Event}
use Rattle.view_ledger.specs.Views.{ViewChain}
use Rattle.view_ledger.specs.Receipts.{Accepts}
use Rattle.op_parts.specs.Attachment.{IsAttached}
use Rattle.settle.specs.declared.progress.SettleProgress.{SettleProgress}
use Rattle.settle.specs.declared.progress.SettleProgress.TheVariants as settled
use Rattle.settle.specs.Leads.{Leads as SettleLeads, Says}
use Rattle.settle.specs.Says.{IsRefused as IsSettleRefused}
use Rattle.settle.specs.State.{State as Settle}
use Rattle.op_entry.specs.declared.found.Found.{Found}
use Rattle.op_entry.specs.declared.finding.Finding.{Finding}
use Rattle.op_entry.specs.declared.finding.Finding.TheVariants as findings
use Rattle.op_entry.specs.Ask.{Ask, NewLedger, AppendEntry, ReadAt}
use Rattle.op_entry.specs.OwnRow.{IsInPlaceOf, get_of, key_of}
use Rattle.op_entry.specs.Standing.{head_of, settling_of, IsUnreceipted}
use Rattle.op_entry.specs.State.{Stage, GettingAt, Settling, Ended}
use Rattle.op_entry.specs.Refusal.{OrMemory, IsRowRefused, IsTakenRefused}
use Rattle.op_entry.specs.Finding.{IsTakenFinding, IsFindingAt}
use Rattle.op_entry.specs.Turns.{TakesFound, TakesFinding, TakesGot, TakesSettled}
use Rattle.op_entry.specs.Sound.{Refreshed, WasPut, GaveRow, IsSettling, Stands, IsAt, IsAnswered, WasRowRefused, WasSettleRefused}
use Rattle.op_entry.proofs.Ending.{stood, holds}

-- the stage after a row was given
module _ (accepts : Accepts) (ask : Ask) (from chain : ViewChain) (past : List Event) (lack : IsAnswered accepts ask from chain (Err NoMemory) past) where
  found_leads : (found : Found) (stored : Stored) (attached : Option (List ℕ)) (stage : Stage) → stored.attached ≡ attached → GaveRow accepts ask from chain found stored past
      → TakesFound accepts chain.configs found attached stage → IsAt accepts ask from chain stage past
  found_leads found stored attached (Ended answer) same given (inl takes) =
      let stands : Stands accepts ask from chain found [] takes.0 past =
      inl (refl, record { stored = stored; given = given; attached = subst (λ (a : Option (List ℕ)). IsAttached accepts chain.configs (head_of found.row) a takes.0) (sym same) takes.1 }) in
      subst (λ a. IsAnswered accepts ask from chain a past) (sym takes.2) (stood accepts ask from chain found [] takes.0 past stands)
  found_leads found stored attached (Ended answer) same given (inr takes) = subst (λ a. IsAnswered accepts ask from chain a past) (sym takes) lack
  found_leads found stored attached (Settling settled settle) same given takes =
      subst (λ (f : Found). IsSettling accepts ask from chain f settle past) (sym takes.0)
      (record {
        calls = [];
        before = past;
        split = refl;
        sound = takes.2.sound accepts;
        began = inr (stored, given, subst (λ (a : Option (List ℕ)). IsUnreceipted accepts chain.configs found.row a) (sym same) takes.1);
      })
  found_leads found stored attached stage same given takes = absurd takes

-- an end for a cause
ends : (accepts : Accepts) (ask : Ask) (from chain : ViewChain) (stage : Stage) (cause : Cause) (past : List Event) → stage ≡ Ended (Err cause)
    → WasRowRefused accepts ask from chain cause past → IsAt accepts ask from chain stage past
ends accepts ask from chain stage cause past is was =
    let end : IsAnswered accepts ask from chain (Err cause) past = inr (inr (inr (inr (inl was)))) in
    subst (λ (s : Stage). IsAt accepts ask from chain s past) (sym is) end

-- the stage after the get of what stands in the place of the own row
module _ (accepts : Accepts) (from chain : ViewChain) (own : Content) (got : Got) (past : List Event) where
  abbrev with_taken : List Event
  with_taken = get_of (key_of own) got ∷ past

  taken_refused : (ask : Ask) (cause : Cause) → OrMemory (IsTakenRefused own got) cause → WasPut accepts ask from chain own puts.Taken past → WasRowRefused accepts ask from chain cause with_taken
  taken_refused (NewLedger entry) cause is was = (own, got, past, refl, was, is)
  taken_refused (AppendEntry entry) cause is was = (own, got, past, refl, was, is)
  taken_refused (ReadAt handle height) cause is was = absurd was.2

  taken_gave : (ask : Ask) (found : Found) (stored : Stored) → got ≡ gots.Some stored → IsInPlaceOf own stored.body found.row → (found.is_own ≡ true) ↔ (found.row.entry ≡ own.entry)
      → WasPut accepts ask from chain own puts.Taken past → GaveRow accepts ask from chain found stored with_taken
  taken_gave (NewLedger entry) found stored is good same was = (own, past, ap (λ (g : Got). get_of (key_of own) g ∷ past) is, good, same, was)
  taken_gave (AppendEntry entry) found stored is good same was = (own, past, ap (λ (g : Got). get_of (key_of own) g ∷ past) is, good, same, was)
  taken_gave (ReadAt handle height) found stored is good same was = absurd was.2

  by_taken : (ask : Ask) (finding : Finding) (stage : Stage) → IsTakenFinding own got finding → TakesFinding accepts chain.configs finding stage
      → WasPut accepts ask from chain own puts.Taken past → IsAt accepts ask from chain stage with_taken
  by_taken ask (findings.Row found attached) stage is takes was =
      found_leads accepts ask from chain with_taken (inr (inr (inr (inr (inl (taken_refused ask NoMemory tt was))))))
      found is.0 (option_map (λ text. text.bytes) attached) stage is.2 (taken_gave ask found is.0 is.1 is.3 is.4 was) takes
  by_taken ask (findings.Refused refusal) stage is takes was =
      ends accepts ask from chain stage (cause_of refusal) with_taken takes (taken_refused ask (cause_of refusal) (holds (IsTakenRefused own got) (cause_of refusal) is) was)

  pub taken_leads : (ask : Ask) (stage : Stage) → TakesGot accepts chain.configs (IsTakenFinding own got) stage → WasPut accepts ask from chain own puts.Taken past
      → IsAt accepts ask from chain stage with_taken
  taken_leads ask stage (inl takes) was = by_taken ask takes.0 stage takes.1 takes.2 was
  taken_leads ask stage (inr is) was = ends accepts ask from chain stage NoMemory with_taken is (taken_refused ask NoMemory tt was)

-- the stage after the get of the row of the ledger at the height
module _ (accepts : Accepts) (from chain : ViewChain) (handle : List ℕ) (height : ℕ) (got : Got) (past : List Event) where
  abbrev with_row : List Event
  with_row = get_of (keys.Row handle height) got ∷ past

  row_refused : (cause : Cause) → OrMemory (IsRowRefused handle height got) cause → Refreshed accepts from chain past → WasRowRefused accepts (ReadAt handle height) from chain cause with_row
  row_refused cause is fresh = (got, past, refl, fresh, is)

  by_row : (finding : Finding) (stage : Stage) → IsFindingAt handle height got finding → TakesFinding accepts chain.configs finding stage → Refreshed accepts from chain past
      → IsAt accepts (ReadAt handle height) from chain stage with_row
  by_row (findings.Row found attached) stage is takes fresh =
      found_leads accepts (ReadAt handle height) from chain with_row (inr (inr (inr (inr (inl (row_refused NoMemory tt fresh))))))
      found is.0 (option_map (λ text. text.bytes) attached) stage is.2 (past, ap (λ (g : Got). get_of (keys.Row handle height) g ∷ past) is.1, is.3, is.4, fresh) takes
  by_row (findings.Refused refusal) stage is takes fresh =
      ends accepts (ReadAt handle height) from chain stage (cause_of refusal) with_row takes (row_refused (cause_of refusal) (holds (IsRowRefused handle height got) (cause_of refusal) is) fresh)

  of_row : (stage : Stage) → TakesGot accepts chain.configs (IsFindingAt handle height got) stage → Refreshed accepts from chain past → IsAt accepts (ReadAt handle height) from chain stage with_row
  of_row stage (inl takes) fresh = by_row takes.0 stage takes.1 takes.2 fresh
  of_row stage (inr is) fresh = ends accepts (ReadAt handle height) from chain stage NoMemory with_row is (row_refused NoMemory tt fresh)

  pub row_leads : (ask : Ask) (stage : Stage) → TakesGot accepts chain.configs (IsFindingAt handle height got) stage → IsAt accepts ask from chain (GettingAt handle height) past
      → IsAt accepts ask from chain stage with_row
  row_leads ask stage takes at = subst (λ (a : Ask). IsAt accepts a from chain stage with_row) (sym at.0) (of_row stage takes at.1)

-- the stage after a call of the settling
module _ (accepts : Accepts) (ask : Ask) (from chain : ViewChain) (found : Found) (event : Event) (settle new : Settle) (past : List Event) where
  settle_refused : (stage : Stage) (cause : Cause) → stage ≡ Ended (Err cause) → (settling : IsSettling accepts ask from chain found new (event ∷ past))
      → OrMemory (IsSettleRefused accepts (settling_of chain.configs found.row) settling.calls) cause → IsAt accepts ask from chain stage (event ∷ past)
  settle_refused stage cause is settling why =
      let was : WasSettleRefused accepts ask from chain cause (event ∷ past) = (found, new, settling, why) in
      let end : IsAnswered accepts ask from chain (Err cause) (event ∷ past) = inr (inr (inr (inr (inr was)))) in
      subst (λ (s : Stage). IsAt accepts ask from chain s (event ∷ past)) (sym is) end

  pub settle_leads : (progress : Result SettleProgress MemoryWanted) (stage : Stage) → SettleLeads accepts chain.configs settle event new progress → TakesSettled found new progress stage
      → IsSettling accepts ask from chain found settle past → IsAt accepts ask from chain stage (event ∷ past)
  settle_leads progress stage leads takes at =
      let said = leads (head_of found.row).handle found.row.metablock at.calls at.sound in
      let next : IsSettling accepts ask from chain found new (event ∷ past) =
      record { calls = event ∷ at.calls; before = at.before; split = ap (λ (l : List Event). event ∷ l) at.split; sound = said.0; began = at.began } in
      elim progress as (λ p. TakesSettled found new p stage → Says accepts (settling_of chain.configs found.row) (event ∷ at.calls) p → IsAt accepts ask from chain stage (event ∷ past)) [
        | Ok answer ↦ elim answer as (λ a. TakesSettled found new (Ok a) stage → Says accepts (settling_of chain.configs found.row) (event ∷ at.calls) (Ok a) → IsAt accepts ask from chain stage (event ∷ past)) [
          | settled.More ↦ λ is says. subst (λ (s : Stage). IsAt accepts ask from chain s (event ∷ past)) (sym is) next
          | settled.Stands blocks receipt ↦ λ is says. subst (λ (s : Stage). IsAt accepts ask from chain s (event ∷ past)) (sym is)
              (stood accepts ask from chain found blocks.items receipt (event ∷ past) (inr (record { settle = new; settling = next; settled = says })))
          | settled.Refused refusal ↦ λ is says. settle_refused stage (cause_of refusal) is next (holds (IsSettleRefused accepts (settling_of chain.configs found.row) (event ∷ at.calls)) (cause_of refusal) says)
        ]
        | Err lack ↦ λ is says. settle_refused stage NoMemory is next tt
      ] takes said.1
