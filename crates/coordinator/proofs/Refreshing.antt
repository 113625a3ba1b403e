-- A whole refresh of a chain of views.
use Rattle.std.proofs.Common.{◌≡◌, inl, inr, ℕ, Bool, true, List, [], ◌∷◌, ◌++◌, length, Result, Ok, Err, refl, sym, ap, ◌∙◌, subst}
use Rattle.nim_base.specs.declared.no_memory.NoMemory.{NoMemory}
use Rattle.statement.specs.declared.member.Member.{Member}
use Rattle.statement.specs.declared.view_block.ViewBlock.{ViewBlock}
use Rattle.port.specs.declared.refusal.Refusal.{Refusal}
use Rattle.port.specs.declared.refusal.Refusal.TheVariants as refusals
use Rattle.port.specs.declared.store_answers.Got.{Got}
use Rattle.port.specs.Cause.{Cause, cause_of}
use Rattle.port.specs.Cause as causes
use Rattle.port.specs.Store.{StoreView, StoreStep, Get, WasGot}
use Rattle.port.specs.Trace.{Event, AtStore}
use Rattle.view_ledger.specs.Views.{ViewChain}
use Rattle.view_ledger.specs.Receipts.{Accepts}
use Rattle.op_parts.specs.declared.refresh_turn.RefreshProgress.{RefreshProgress}
use Rattle.op_parts.specs.declared.refresh_turn.RefreshProgress.TheVariants.{More, Fresh, Refused}
use Rattle.op_parts.specs.RefreshSound.{Sound, Goes, Leads, key_of}
use Rattle.op_parts.specs.RefreshState.{RefreshState, AtView, AtFinals, AtEnd, is_live}
use Rattle.op_entry.specs.OwnRow.{get_of}
use Rattle.op_entry.specs.Refusal.{OrMemory, IsRefreshRefused}
use Rattle.op_entry.specs.Sound.{Refreshed, WasRefreshRefused}
use Rattle.coordinator.specs.ViewsRun.{HasRefreshed, IsRefreshing}

or_memory : (P : Cause → Type 0) (cause : Cause) → P cause → OrMemory P cause
or_memory P (causes.Conflict standing) p = p
or_memory P (causes.Gap handle missing) p = p
or_memory P (causes.NoQuorum need reasons) p = p
or_memory P (causes.ViewMoved number id statement sig) p = p
or_memory P causes.StoreFault p = p
or_memory P (causes.BadRow key bytes) p = p
or_memory P (causes.Contended member first later) p = p
or_memory P (causes.Full member) p = p
or_memory P (causes.TooFar needed) p = p
or_memory P (causes.Reused id) p = p
or_memory P causes.NoMemory p = tt

module _ (accepts : Accepts) (from chain after : ViewChain) (past : List Event) where
  fresh_at_view : (event : Event) (new : RefreshState) → Sound accepts from AtView chain past → Goes accepts AtView chain event new after (Ok Fresh) → Refreshed accepts from after (event ∷ past)
  fresh_at_view event AtView sound goes = absurd goes.0
  fresh_at_view event (AtFinals body block config) sound goes = absurd goes.0
  fresh_at_view event AtEnd sound goes = subst (λ (c : ViewChain). Refreshed accepts from c (event ∷ past)) (sym goes.1) (event, past, refl, sound, goes.0)

  fresh_at_finals : (event : Event) (body : List ℕ) (block : ViewBlock) (config : List Member) (new : RefreshState) → Goes accepts (AtFinals body block config) chain event new after (Ok Fresh) → ⊥
  fresh_at_finals event body block config AtView goes = goes
  fresh_at_finals event body block config (AtFinals b k c) goes = goes
  fresh_at_finals event body block config AtEnd goes = goes

  pub fresh : (event : Event) (old new : RefreshState) → Sound accepts from old chain past → Goes accepts old chain event new after (Ok Fresh) → Refreshed accepts from after (event ∷ past)
  fresh event AtView new sound goes = fresh_at_view event new sound goes
  fresh event (AtFinals body block config) new sound goes = absurd (fresh_at_finals event body block config new goes)
  fresh event AtEnd new sound goes = absurd goes

  -- refused by the call of this state, with the chain as it was
  why : (old : RefreshState) (got : Got) (cause : Cause) → Sound accepts from old chain past → after ≡ chain → OrMemory (IsRefreshRefused accepts chain old (get_of (key_of old chain) got)) cause
      → WasRefreshRefused accepts from after cause (get_of (key_of old chain) got ∷ past)
  why old got cause sound same is =
      subst (λ (c : ViewChain). WasRefreshRefused accepts from c cause (get_of (key_of old chain) got ∷ past)) (sym same) (old, got, past, refl, sound, is)

  refused_at_view : (got : Got) (new : RefreshState) (refusal : Refusal) → Sound accepts from AtView chain past → Goes accepts AtView chain (get_of (key_of AtView chain) got) new after (Ok (Refused refusal))
      → WasRefreshRefused accepts from after (cause_of refusal) (get_of (key_of AtView chain) got ∷ past)
  refused_at_view got AtView refusal sound goes = absurd goes.0
  refused_at_view got (AtFinals body block config) refusal sound goes = absurd goes.0
  refused_at_view got AtEnd refusal sound goes =
      why AtView got (cause_of refusal) sound goes.1 (or_memory (IsRefreshRefused accepts chain AtView (get_of (key_of AtView chain) got)) (cause_of refusal) goes.0)

  module _ (body : List ℕ) (block : ViewBlock) (config : List Member) where
    refused_at_finals : (got : Got) (new : RefreshState) (refusal : Refusal) → Sound accepts from (AtFinals body block config) chain past
        → Goes accepts (AtFinals body block config) chain (get_of (key_of (AtFinals body block config) chain) got) new after (Ok (Refused refusal))
        → WasRefreshRefused accepts from after (cause_of refusal) (get_of (key_of (AtFinals body block config) chain) got ∷ past)
    refused_at_finals got AtView refusal sound goes = absurd goes
    refused_at_finals got (AtFinals b k c) refusal sound goes = absurd goes
    refused_at_finals got AtEnd refusal sound goes =
        why (AtFinals body block config) got (cause_of refusal) sound goes.1
        (or_memory (IsRefreshRefused accepts chain (AtFinals body block config) (get_of (key_of (AtFinals body block config) chain) got)) (cause_of refusal) goes.0)

  pub refused : (old new : RefreshState) (got : Got) (refusal : Refusal) → Sound accepts from old chain past → Goes accepts old chain (get_of (key_of old chain) got) new after (Ok (Refused refusal))
      → WasRefreshRefused accepts from after (cause_of refusal) (get_of (key_of old chain) got ∷ past)
  refused AtView new got refusal sound goes = refused_at_view got new refusal sound goes
  refused (AtFinals body block config) new got refusal sound goes = refused_at_finals body block config got new refusal sound goes
  refused AtEnd new got refusal sound goes = absurd goes

  pub lacked : (old new : RefreshState) (got : Got) (wanted : NoMemory) → Sound accepts from old chain past → Goes accepts old chain (get_of (key_of old chain) got) new after (Err wanted)
      → WasRefreshRefused accepts from after causes.NoMemory (get_of (key_of old chain) got ∷ past)
  lacked AtView new got wanted sound goes = why AtView got causes.NoMemory sound goes.1 tt
  lacked (AtFinals body block config) new got wanted sound goes = why (AtFinals body block config) got causes.NoMemory sound goes.2 tt
  lacked AtEnd new got wanted sound goes = absurd goes

-- as a loop
module _ {S : Type 0} (accepts : Accepts) (sv : S → StoreView) (from : ViewChain) (s : S) where
  -- a call of a refresh, and what came of it
  abbrev pub Steps : RefreshState → ViewChain → S → RefreshState → ViewChain → S → Result RefreshProgress NoMemory → Type 0
  Steps old chain m new after s' result =
      (got : Got) × StoreStep sv m s' (Get (key_of old chain)) (WasGot got) × Goes accepts old chain (AtStore (Get (key_of old chain)) (WasGot got)) new after result
      × Leads accepts old chain (AtStore (Get (key_of old chain)) (WasGot got)) new after

  pub begins : (refresh : RefreshState) (chain : ViewChain) → Sound accepts from refresh chain [] → is_live refresh ≡ true → IsRefreshing accepts sv from s refresh chain s
  begins refresh chain sound live = (([], refl, sound), live)

  module _ (old new : RefreshState) (chain after : ViewChain) (m s' : S) (is : IsRefreshing accepts sv from s old chain m) where
    pub goes_on : (result : Result RefreshProgress NoMemory) → (is_live old ≡ true → Steps old chain m new after s' result) → is_live new ≡ true → IsRefreshing accepts sv from s new after s'
    goes_on result step live =
        let one = step is.1 in
        ((AtStore (Get (key_of old chain)) (WasGot one.0) ∷ is.0.0, (m, is.0.1, one.1), one.3 from is.0.0 is.0.2), live)

    pub ends_fresh : (done : Unit {0}) → (is_live old ≡ true → Steps old chain m new after s' (Ok Fresh)) → HasRefreshed accepts sv from s after s' (Ok done)
    ends_fresh done step =
        let one = step is.1 in
        (AtStore (Get (key_of old chain)) (WasGot one.0) ∷ is.0.0, (m, is.0.1, one.1), fresh accepts from chain after is.0.0 (AtStore (Get (key_of old chain)) (WasGot one.0)) old new is.0.2 one.2)

    pub ends_refused : (refusal : Refusal) → (is_live old ≡ true → Steps old chain m new after s' (Ok (Refused refusal))) → HasRefreshed accepts sv from s after s' (Err refusal)
    ends_refused refusal step =
        let one = step is.1 in
        (AtStore (Get (key_of old chain)) (WasGot one.0) ∷ is.0.0, (m, is.0.1, one.1), refused accepts from chain after is.0.0 old new one.0 refusal is.0.2 one.2)

    pub ends_lacking : (wanted : NoMemory) → (is_live old ≡ true → Steps old chain m new after s' (Err wanted)) → HasRefreshed accepts sv from s after s' (Err refusals.NoMemory)
    ends_lacking wanted step =
        let one = step is.1 in
        (AtStore (Get (key_of old chain)) (WasGot one.0) ∷ is.0.0, (m, is.0.1, one.1), lacked accepts from chain after is.0.0 old new one.0 wanted is.0.2 one.2)
