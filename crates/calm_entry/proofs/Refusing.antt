-- No call of an operation that puts an entry is refused over a calm service, but for want of memory and in its settling.
use Rattle.std.proofs.Common.{◌≡◌, ◌⊎◌, inl, inr, ℕ, ◌≤◌, List, length, Some, refl, sym, subst, ap, ◌∙◌}
use Rattle.port.specs.declared.key.Key.TheVariants as keys
use Rattle.port.specs.declared.store_answers.Got.{Got}
use Rattle.port.specs.Cause.{Cause, Conflict, Gap, NoQuorum, ViewMoved, StoreFault, BadRow, Contended, Full, TooFar, Reused, NoMemory}
use Rattle.port.specs.Contents.{Contents}
use Rattle.port.specs.GoodRow.{IsGoodRow}
use Rattle.port.specs.Store.{Get, WasGot, IsHonest}
use Rattle.port.specs.Trace.{Event, AreHonest}
use Rattle.view_ledger.specs.Views.{ViewChain}
use Rattle.op_parts.specs.RefreshSound.{key_of as key_of_refresh}
use Rattle.op_entry.specs.OwnRow.{get_of}
use Rattle.op_entry.specs.Refusal.{OrMemory, IsRefreshRefused, IsRowRefused}
use Rattle.op_entry.specs.Sound.{WasRefreshRefused}
use Rattle.calm.specs.Calm.{ServiceState, IsCalm}
use Rattle.calm.specs.Ledgers.{row_above}
use Rattle.calm.specs.StandingViews.{IsFront}
use Rattle.calm_entry.proofs.LowerLaws.{RowLaws}
use Rattle.calm_entry.proofs.Quiet.{RefreshLaws, not_refused}
use Rattle.calm_entry.proofs.Standing.{standing, missing}

-- memory was wanted, or there is this cause
pub cause_or : (P : Cause → Type 0) (cause : Cause) → OrMemory P cause → (cause ≡ NoMemory) ⊎ P cause
cause_or P NoMemory is = inl refl
cause_or P (Conflict standing) is = inr is
cause_or P (Gap handle missing) is = inr is
cause_or P (NoQuorum need reasons) is = inr is
cause_or P (ViewMoved from id statement sig) is = inr is
cause_or P StoreFault is = inr is
cause_or P (BadRow key bytes) is = inr is
cause_or P (Contended member first later) is = inr is
cause_or P (Full member) is = inr is
cause_or P (TooFar needed) is = inr is
cause_or P (Reused id) is = inr is

module _ (rows : RowLaws) (refreshes : RefreshLaws) (service : ServiceState) (calm : IsCalm service) (from : ViewChain) (front : IsFront service.roster service.configs from) where
  -- a refresh wanted memory
  pub refresh_lacks : (chain : ViewChain) (cause : Cause) (past : List Event) (contents : Contents) → AreHonest service.contents past contents
      → WasRefreshRefused service.accepts from chain cause past → cause ≡ NoMemory
  refresh_lacks chain cause past contents honest (state, got, before, is, sound, refused) = by (cause_or (IsRefreshRefused service.accepts chain state (get_of (key_of_refresh state chain) got)) cause refused)
    where
      by : (cause ≡ NoMemory) ⊎ IsRefreshRefused service.accepts chain state (get_of (key_of_refresh state chain) got) cause → cause ≡ NoMemory
      by (inl wanted) = wanted
      by (inr bad) =
          absurd (not_refused service refreshes calm from front state chain (get_of (key_of_refresh state chain) got) before contents cause sound
          (subst (λ (p : List Event). AreHonest service.contents p contents) is honest) bad)

  -- a row is refused only where nothing stands
  pub row_is_missing : (handle : List ℕ) (height : ℕ) (got : Got) (contents : Contents) (cause : Cause) → IsHonest service.contents (Get (keys.Row handle height)) (WasGot got) contents
      → IsRowRefused handle height got cause → (cause ≡ Gap handle height) × (length (service.ledgers handle) ≤ height)
  row_is_missing handle height got contents StoreFault honest is =
      absurd (subst (λ (g : Got). IsHonest service.contents (Get (keys.Row handle height)) (WasGot g) contents) is honest)
  row_is_missing handle height got contents (Gap ledger number) honest (same, here, is) =
      let none = subst (λ (g : Got). IsHonest service.contents (Get (keys.Row handle height)) (WasGot g) contents) is honest in
      (ap (λ (h : List ℕ). Gap h number) same ∙ ap (λ (n : ℕ). Gap handle n) here, missing service calm rows handle height none.0)
  row_is_missing handle height got contents (BadRow key (Some bytes)) honest (key_is, gave, bad) =
      let some = subst (λ (g : Got). IsHonest service.contents (Get (keys.Row handle height)) (WasGot g) contents) gave.1 honest in
      let stands = standing service calm rows handle height gave.0 some.0 in
      absurd (bad (row_above stands.below stands.entry)
      (subst (λ (n : ℕ). IsGoodRow handle n bytes (row_above stands.below stands.entry)) (sym stands.at)
      (subst (λ (b : List ℕ). IsGoodRow handle (length stands.below) b (row_above stands.below stands.entry)) gave.2 stands.good)))
  row_is_missing handle height got contents cause honest is = absurd is
