-- What the steps of an operation do.
use Rattle.std.specs.Prelude.{◌≡◌, ◌⊎◌, ◌≤◌, ℕ, Bool, true, List, ◌++◌, length}
use Rattle.port.specs.Link.{LinkView}
use Rattle.port.specs.Store.{StoreView}
use Rattle.port.specs.Trace.{Event}
use Rattle.view_ledger.specs.Receipts.{Accepts}
use Rattle.view_ledger.specs.Views.{ViewChain}
use Rattle.coordinator.specs.State.{State}
use Rattle.coordinator.specs.Stepping.{Calls}
use Rattle.op_entry.specs.Sound.{Sound}
use Rattle.op_entry.specs.State.{is_live as is_entry_live}
use Rattle.op_latest.specs.LatestSound.{LatestSound}
use Rattle.op_latest.specs.LatestState.{is_live as is_latest_live}
use Rattle.script_operations.specs.Operations.{Operations, Begun, Progress, Closed, InEntry, InNewest, IsOpen, NoneIsOpen, at_progress, with_begun}

-- Whatever calls have led to the first state, these lead on to the second one. By `sound` calls have led to a state where an operation was
-- asked for something and began with a chain.
abbrev pub LeadsBy : {A M : Type 0} → (A → ViewChain → M → List Event → Type 0) → M → List Event → M → Type 0
LeadsBy {A} sound old events new = (ask : A) (from : ViewChain) (past : List Event) → sound ask from old past → sound ask from new (events ++ past)

module _ {S L C : Type 0} (store_view : S → StoreView) (link_view : L → LinkView) (before after : State S L C) where
  -- Some calls were made over the coordinator's store and link, the newest first, which led the operation on; all else of the coordinator is
  -- as it was.
  pub record Goes {A M : Type 0} (sound : A → ViewChain → M → List Event → Type 0) (old new : M) : Type 0 where
    pub events : List Event
    pub calls : Calls store_view link_view before events after
    pub leads : LeadsBy sound old events new

  -- They were so many, or fewer that led it to its answer.
  pub record GoesFor {A M : Type 0} (sound : A → ViewChain → M → List Event → Type 0) (is_live : M → Bool) (old new : M) (n : ℕ) : Type 0 where
    pub goes : Goes sound old new
    pub few : length goes.events ≤ n
    pub all : is_live new ≡ true → length goes.events ≡ n

  module _ (accepts : Accepts) where
    -- the same of an open operation of either kind; a closed one makes no call
    abbrev pub Steps : Progress → Progress → ℕ → Type 0
    Steps Closed Closed n = after ≡ before
    Steps (InEntry old) (InEntry new) n = GoesFor (Sound accepts) is_entry_live old new n
    Steps (InNewest old) (InNewest new) n = GoesFor (LatestSound accepts) is_latest_live old new n
    Steps Closed (InEntry new) n = ⊥
    Steps Closed (InNewest new) n = ⊥
    Steps (InEntry old) Closed n = ⊥
    Steps (InEntry old) (InNewest new) n = ⊥
    Steps (InNewest old) Closed n = ⊥
    Steps (InNewest old) (InEntry new) n = ⊥

    -- The open operation of this name made up to so many calls.
    pub record HasStepped (old new : Operations) (name : List ℕ) (n : ℕ) : Type 0 where
      pub place : ℕ
      pub begun : Begun
      pub found : IsOpen old name place begun
      pub progress : Progress
      pub steps : Steps begun.progress progress n
      pub stands : new ≡ with_begun old place (at_progress begun progress)

    -- It did, or no operation of this name is open and nothing was done.
    abbrev pub StepsNamed : Operations → Operations → List ℕ → ℕ → Type 0
    StepsNamed old new name n = HasStepped old new name n ⊎ (NoneIsOpen old name × (new ≡ old) × (after ≡ before))
