-- What it makes of a run that an operation is begun.
use Rattle.std.specs.Prelude.{◌≡◌, ℕ, ◌+◌, List, slice_get, slice_set, Option, Some, None}
use Rattle.chain_block.specs.Entry.{handle_of}
use Rattle.client_pass.specs.Act.{Act, Draw}
use Rattle.client_pass.specs.ClientPass.{ClientPass, Notes}
use Rattle.chain_block.specs.declared.entry.Entry.{Entry}
use Rattle.client_acts.specs.ClientActs.{ClientActs, Acts}
use Rattle.coordinator.specs.Entries.{first_entry, later_entry}
use Rattle.script_world.specs.Labels.{handle_for, with_label}
use Rattle.script_world.specs.Nonce.{nonce}
use Rattle.script_world.specs.World.{World}

-- among the clients of a run the one at this place noted this draw
abbrev pub DrewOf : {C : Type 0} → ClientActs C → ClientActs C → ℕ → Act → Type 0
DrewOf {C} old new place act = (from : ClientPass C) × (to : ClientPass C) × Acts old new place from to × Notes from to act

-- The client at this place drew a nonce, for this entry where there is one. Nothing else was done.
pub record DrewOnly {L C : Type 0} (old new : World L C) (place : ℕ) (intent : Option Entry) : Type 0 where
  pub from : ClientPass C
  pub to : ClientPass C
  pub stood : slice_get old.clients place ≡ Some from
  pub stands : new.clients ≡ slice_set old.clients place to
  pub drew : Notes from to (Draw (nonce old.draws) intent)
  pub state : new.state ≡ old.state
  pub first : new.first ≡ old.first
  pub draws : new.draws ≡ old.draws + 1

module _ {L C : Type 0} (old new : World L C) (place : ℕ) where
  -- `begin O new`: the label means the ledger of the entry from now on
  pub record BeganNew (label payload : List ℕ) : Type 0 where
    pub drew : DrewOnly old new place (Some (first_entry (nonce old.draws) payload))
    pub labels : new.labels ≡ with_label old.labels label (handle_of (first_entry (nonce old.draws) payload))

  -- `begin O append`
  pub record BeganAppend (label : List ℕ) (height : ℕ) (payload : List ℕ) : Type 0 where
    pub drew : DrewOnly old new place (Some (later_entry (handle_for old.labels label) height (nonce old.draws) payload))
    pub labels : new.labels ≡ old.labels

  -- `begin O latest`
  pub record BeganLatest : Type 0 where
    pub drew : DrewOnly old new place None
    pub labels : new.labels ≡ old.labels
