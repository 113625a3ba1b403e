-- A run that goes on, whatever was done.
use Rattle.std.specs.Prelude.{◌≡◌, ℕ, Some, length, slice_get}
use Rattle.client_pass.specs.ClientPass.{ClientPass}
use Rattle.reply_taking.specs.Learning.{Grows}
use Rattle.script_world.specs.World.{World}

-- Each client is where it was, with its lines and perhaps more. The chain that has view 0 alone stays, and so does the coordinator's checker.
pub record GoesOn {L C : Type 0} (old new : World L C) : Type 0 where
  pub first : new.first ≡ old.first
  pub checker : new.state.checker ≡ old.state.checker
  pub count : length new.clients ≡ length old.clients
  pub grow : (place : ℕ) (from : ClientPass C) → slice_get old.clients place ≡ Some from
      → (to : ClientPass C) × (slice_get new.clients place ≡ Some to) × Grows from to
