-- Who has the reason that it is behind said so to an append at the count that it had told last.
use Rattle.std.proofs.Common.{◌≡◌, inl, inr, ℕ, List, ◌++◌, sym, subst, ap, ◌∙◌}
use Rattle.std.specs.List.{AllByRecursion}
use Rattle.std.proofs.lemmas.List.{append_assoc}
use Rattle.port.specs.Answer.{Behind}
use Rattle.port.specs.Cause.{MemberCause, Denied, NoQuorum}
use Rattle.port.specs.Trace.{Event}
use Rattle.catch_up.specs.Told.{told}
use Rattle.view_ledger.specs.Views.{ViewChain}
use Rattle.view_ledger.specs.Receipts.{Accepts}
use Rattle.op_parts.specs.RefreshState.{RefreshState, AtView, AtFinals, AtEnd}
use Rattle.op_parts.specs.RoundLaws.{IsToldBehind}
use Rattle.settle.specs.Says.{IsRefused as IsSettleRefused}
use Rattle.settle.specs.Settling.{Settling}
use Rattle.op_entry.specs.Ask.{Ask, NewLedger, AppendEntry, ReadAt}
use Rattle.op_entry.specs.Refusal.{IsRefreshRefused}
use Rattle.op_entry.specs.Standing.{settling_of}
use Rattle.op_entry.specs.Sound.{WasRefused, WasBelowRefused, WasRowRefused}
use Rattle.op_entry.proofs.Within.{all_more}

-- what is known of counts that members told
abbrev ToldOn : Type 0
ToldOn = (member before : ℕ) (later earlier : List Event) → told member before (later ++ earlier) ≡ told member (told member before earlier) later

abbrev AllTold : List Event → List (ℕ × MemberCause) → Type 0
AllTold events reasons = AllByRecursion (λ (r : ℕ × MemberCause). IsToldBehind events r.0 r.1) reasons

-- earlier calls don't matter
older_calls : ToldOn → (calls before : List Event) (id : ℕ) (cause : MemberCause) → IsToldBehind calls id cause → IsToldBehind (calls ++ before) id cause
older_calls told_on calls before id (Denied (Behind count)) is = (
  is.0,
  is.1 ++ before,
  is.2,
  is.3,
  is.4,
  is.5,
  ap (λ (c : List Event). c ++ before) is.6 ∙ append_assoc is.0 _ before,
  is.7,
  λ first. told_on id first is.1 before ∙ is.8 (told id first before),
)
older_calls told_on calls before id cause is = tt

module _ (accepts : Accepts) (from chain : ViewChain) (need : ℕ) (reasons : List (ℕ × MemberCause)) (past : List Event) where
  refresh_none : (refresh : RefreshState) (event : Event) → IsRefreshRefused accepts chain refresh event (NoQuorum need reasons) → ⊥
  refresh_none AtView event is = is
  refresh_none (AtFinals body block config) event is = is
  refresh_none AtEnd event is = is

  below_none : (ask : Ask) → WasBelowRefused accepts ask from chain (NoQuorum need reasons) past → ⊥
  below_none (NewLedger entry) is = is
  below_none (AppendEntry entry) is = is.4
  below_none (ReadAt handle height) is = is

  row_none : (ask : Ask) → WasRowRefused accepts ask from chain (NoQuorum need reasons) past → ⊥
  row_none (NewLedger entry) is = is.5
  row_none (AppendEntry entry) is = is.5
  row_none (ReadAt handle height) is = is.4

  pub told_behind : ToldOn → ((a : Accepts) (settling : Settling) (calls : List Event) (n : ℕ) (rs : List (ℕ × MemberCause)) → IsSettleRefused a settling calls (NoQuorum n rs) → AllTold calls rs)
      → (ask : Ask) → WasRefused accepts ask from chain (NoQuorum need reasons) past → AllTold past reasons
  told_behind told_on law ask (inl is) = absurd (refresh_none is.0 _ is.5)
  told_behind told_on law ask (inr (inl is)) = absurd (below_none ask is)
  told_behind told_on law ask (inr (inr (inl is))) = absurd is.3
  told_behind told_on law ask (inr (inr (inr (inl is)))) = absurd (row_none ask is)
  told_behind told_on law ask (inr (inr (inr (inr is)))) =
      subst (λ (l : List Event). AllTold l reasons) (sym is.2.split)
      (all_more (λ (r : ℕ × MemberCause). IsToldBehind is.2.calls r.0 r.1) (λ (r : ℕ × MemberCause). IsToldBehind (is.2.calls ++ is.2.before) r.0 r.1)
      (λ r one. older_calls told_on is.2.calls is.2.before r.0 r.1 one) reasons
      (law accepts (settling_of chain.configs is.0.row) is.2.calls need reasons is.3))
