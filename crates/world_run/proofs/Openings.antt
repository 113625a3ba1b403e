-- What an operation is begun for, by the kind of what was asked.
use Rattle.std.proofs.Common.{◌≡◌, ℕ, List, ◌++◌, Result, OnOk, sym, ap, subst, ◌∙◌, append-nil}
use Rattle.nim_base.specs.Text.{Content}
use Rattle.fault_script.specs.Seen.{request_of}
use Rattle.fault_script.specs.declared.act.Act.{Act}
use Rattle.fault_script.specs.declared.act.Act.TheVariants as acts
use Rattle.coordinator.specs.Entries.{first_entry, later_entry}
use Rattle.answer_lines.specs.Draws.{DrewEntry, DrewRead}
use Rattle.script_operations.specs.Task.{Own, Newest}
use Rattle.script_world.specs.Carried.{Opened}
use Rattle.script_world.specs.Labels.{handle_for}
use Rattle.script_world.specs.Nonce.{nonce}
use Rattle.script_world.specs.Running.{Running, world_of}
use Rattle.script_runs.specs.Runs.{Began, Opens, turns_begun}
use Rattle.world_run.proofs.RunLines.{on_ok}

module _ {L C A E : Type 0} (old new : Running L C) (result : Result A E) (place : ℕ) (op : List ℕ) (act : Act) where
  -- a new ledger, an append or a read of the newest row
  abbrev OpensNew : List ℕ → List ℕ → Type 0
  OpensNew label payload = (draw : ℕ) × DrewEntry new.clients place draw (first_entry (nonce old.draws) payload) × Opened old new op (Own place draw (first_entry (nonce old.draws) payload)) label

  pub opens_new : (client label payload : Content) (named paid : List ℕ) → act ≡ acts.New client label payload → named ≡ label.bytes → paid ≡ payload.bytes → OnOk result (OpensNew named paid)
      → OnOk result (Opens old new place op (request_of act))
  opens_new client label payload named paid is one two did =
      subst (λ (a : Act). OnOk result (Opens old new place op (request_of a))) (sym is)
      (subst (λ (b : List ℕ). OnOk result (OpensNew b payload.bytes)) one (subst (λ (b : List ℕ). OnOk result (OpensNew named b)) two did))

  abbrev OpensAppend : List ℕ → ℕ → List ℕ → Type 0
  OpensAppend label height payload =
      (draw : ℕ) × DrewEntry new.clients place draw (later_entry (handle_for (world_of old).labels label) height (nonce old.draws) payload)
      × Opened old new op (Own place draw (later_entry (handle_for (world_of old).labels label) height (nonce old.draws) payload)) label

  pub opens_append : (client label : Content) (height : ℕ) (payload : Content) (named paid : List ℕ) → act ≡ acts.Append client label height payload → named ≡ label.bytes → paid ≡ payload.bytes
      → OnOk result (OpensAppend named height paid) → OnOk result (Opens old new place op (request_of act))
  opens_append client label height payload named paid is one two did =
      subst (λ (a : Act). OnOk result (Opens old new place op (request_of a))) (sym is)
      (subst (λ (b : List ℕ). OnOk result (OpensAppend b height payload.bytes)) one (subst (λ (b : List ℕ). OnOk result (OpensAppend named height b)) two did))

  abbrev OpensLatest : List ℕ → Type 0
  OpensLatest label = (draw : ℕ) × DrewRead new.clients place draw (nonce old.draws) × Opened old new op (Newest place draw (handle_for (world_of old).labels label) (nonce old.draws)) label

  pub opens_latest : (client label : Content) (named : List ℕ) → act ≡ acts.Latest client label → named ≡ label.bytes → OnOk result (OpensLatest named) → OnOk result (Opens old new place op (request_of act))
  opens_latest client label named is one did =
      subst (λ (a : Act). OnOk result (Opens old new place op (request_of a))) (sym is) (subst (λ (b : List ℕ). OnOk result (OpensLatest b)) one did)

  -- a read at a height draws nothing
  pub began_at : (client label : Content) (height : ℕ) → act ≡ acts.At client label height → new ≡ record old { operations = new.operations } → OnOk result (Began (world_of old) (world_of new) place (request_of act))
  began_at client label height is rest =
      subst (λ (a : Act). OnOk result (Began (world_of old) (world_of new) place (request_of a))) (sym is) (on_ok result (ap world_of rest))

  pub turns_at : (calls : ℕ) (client label : Content) (height : ℕ) → act ≡ acts.At client label height → new ≡ record old { operations = new.operations }
      → OnOk result (new.turns ≡ old.turns ++ turns_begun place calls (request_of act))
  turns_at calls client label height is rest =
      subst (λ (a : Act). OnOk result (new.turns ≡ old.turns ++ turns_begun place calls (request_of a))) (sym is)
      (on_ok result (ap (λ (r : Running L C). r.turns) rest ∙ sym (append-nil old.turns)))
