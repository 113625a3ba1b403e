-- What a call of the refresh makes of a latest read.
use Rattle.std.proofs.Common.{◌≡◌, inl, inr, ℕ, List, [], ◌∷◌, length, Some, None, refl, sym, ◌∙◌, subst, ap, arith}
use Rattle.std.specs.Prelude.{Result, Ok, Err}
use Rattle.nim_base.specs.declared.no_memory.NoMemory.{NoMemory as MemoryWanted}
use Rattle.statement.specs.declared.member.Member.{Member}
use Rattle.statement.specs.declared.view_block.ViewBlock.{ViewBlock}
use Rattle.statement.specs.Config.{IsConfig}
use Rattle.port.specs.declared.key.Key.{Key}
use Rattle.port.specs.declared.key.Key.TheVariants as keys
use Rattle.port.specs.declared.store_answers.Got.TheVariants as gots
use Rattle.port.specs.declared.refusal.Refusal.{Refusal}
use Rattle.port.specs.Cause.{Cause, StoreFault, BadRow, NoMemory, cause_of}
use Rattle.port.specs.Store.{Get, WasGot}
use Rattle.port.specs.Trace.{Event}
use Rattle.view_ledger.specs.Receipts.{Accepts}
use Rattle.view_ledger.specs.Views.{ViewChain, newest_config, newest_tail}
use Rattle.op_parts.specs.declared.refresh_turn.RefreshProgress.{RefreshProgress}
use Rattle.op_parts.specs.declared.refresh_turn.RefreshProgress.TheVariants as refreshed
use Rattle.op_parts.specs.RefreshState.{RefreshState, AtView, AtFinals, AtEnd}
use Rattle.op_parts.specs.RefreshSays.{FailedAt, IsRefusedAtView, IsRefusedAtFinals}
use Rattle.op_parts.specs.RefreshSound.{Sound as SoundRefresh, Goes as RefreshGoes, Leads as RefreshLeads, IsHalfway}
use Rattle.op_latest.specs.declared.latest_claim.LatestClaim.{LatestClaim}
use Rattle.op_latest.specs.LatestAsked.{LatestAsk, asking_of}
use Rattle.op_latest.specs.LatestOwn.{OwnCalls}
use Rattle.op_latest.specs.LatestSays.{IsFresh, GaveNewest, IsRefused}
use Rattle.op_latest.specs.LatestSound.{AtLive, AtStage, RefusesRefresh, LatestSound}
use Rattle.op_latest.specs.LatestState.{Stage, Refreshing, Ended, State}
use Rattle.op_latest.specs.LatestSteps.{at, AsksNext, TakesRefresh}
use Rattle.op_latest.proofs.LatestComing.{asks_next}
use Rattle.op_latest.proofs.LatestOwned.{refresh_own}
use Rattle.op_latest.proofs.LatestShown.{AheadLaw, MemberLaw}

module _ (accepts : Accepts) (from chain : ViewChain) (event : Event) (past : List Event) where
  -- no further view
  fresh_by : (old new : RefreshState) (after : ViewChain) → RefreshGoes accepts old chain event new after (Ok refreshed.Fresh) → SoundRefresh accepts from old chain past
      → IsFresh accepts from chain (event ∷ past) × (after ≡ chain)
  fresh_by AtView AtEnd after goes sound = ((sound, goes.0), goes.1)
  fresh_by AtView AtView after goes sound = absurd goes.0
  fresh_by AtView (AtFinals body block config) after goes sound = absurd goes.0
  fresh_by (AtFinals body block config) AtView after goes sound = absurd goes
  fresh_by (AtFinals body block config) (AtFinals b k c) after goes sound = absurd goes
  fresh_by (AtFinals body block config) AtEnd after goes sound = absurd goes
  fresh_by AtEnd new after goes sound = absurd goes

  wanted_by : (old new : RefreshState) (after : ViewChain) (none : MemoryWanted) → RefreshGoes accepts old chain event new after (Err none) → after ≡ chain
  wanted_by AtView new after none goes = goes.1
  wanted_by (AtFinals body block config) new after none goes = goes.2
  wanted_by AtEnd new after none goes = absurd goes

  module _ (ask : LatestAsk) where
    failed : (key : Key) → FailedAt key event → IsRefused accepts (asking_of ask chain) chain (event ∷ past) StoreFault
    failed key is = (Get key, WasGot gots.Failed, inl is, refl)

    view_refused : (cause : Cause) → IsRefusedAtView (length chain.configs) event cause → IsRefused accepts (asking_of ask chain) chain (event ∷ past) cause
    view_refused StoreFault is = failed (keys.View (length chain.configs)) is
    view_refused (BadRow (keys.View number) (Some bytes)) is = inl is
    view_refused (BadRow (keys.Finals number) (Some bytes)) is = absurd (cc is.0)
    view_refused (BadRow (keys.Row handle height) (Some bytes)) is = absurd (cc is.0)
    view_refused cause is = absurd is

    finals_refused : (body : List ℕ) (block : ViewBlock) (config : List Member) (cause : Cause) → GaveNewest chain body block config past
        → IsRefusedAtFinals accepts chain body block config event cause → IsRefused accepts (asking_of ask chain) chain (event ∷ past) cause
    finals_refused body block config StoreFault gave is = failed (keys.Finals (length chain.configs)) is
    finals_refused body block config (BadRow (keys.Finals number) None) gave is = inr (body, block, config, gave, is)
    finals_refused body block config (BadRow (keys.Finals number) (Some bytes)) gave is = inr (body, block, config, gave, is)
    finals_refused body block config (BadRow (keys.View number) (Some bytes)) gave is = inr (body, block, config, gave, is)
    finals_refused body block config cause gave is = absurd is

    newest : (body : List ℕ) (block : ViewBlock) (config : List Member) (calls : List Event) → IsHalfway accepts from body block config chain calls → GaveNewest chain body block config calls
    newest body block config [] half = absurd half
    newest body block config (first ∷ calls) half = (half.1, half.2)

    refused_by : (old new : RefreshState) (after : ViewChain) (refusal : Refusal) → RefreshGoes accepts old chain event new after (Ok (refreshed.Refused refusal)) → SoundRefresh accepts from old chain past
        → IsRefused accepts (asking_of ask chain) chain (event ∷ past) (cause_of refusal) × (after ≡ chain)
    refused_by AtView AtEnd after refusal goes sound = (view_refused (cause_of refusal) goes.0, goes.1)
    refused_by AtView AtView after refusal goes sound = absurd goes.0
    refused_by AtView (AtFinals body block config) after refusal goes sound = absurd goes.0
    refused_by (AtFinals body block config) AtEnd after refusal goes sound =
        (finals_refused body block config (cause_of refusal) (newest body block config past sound) goes.0, goes.1)
    refused_by (AtFinals body block config) AtView after refusal goes sound = absurd goes
    refused_by (AtFinals body block config) (AtFinals b k c) after refusal goes sound = absurd goes
    refused_by AtEnd new after refusal goes sound = absurd goes

  -- the call refused it
  refuses_by : (old new : RefreshState) (after : ViewChain) (refusal : Refusal) → RefreshGoes accepts old chain event new after (Ok (refreshed.Refused refusal))
      → RefusesRefresh accepts old chain event (cause_of refusal)
  refuses_by AtView AtEnd after refusal goes = goes.0
  refuses_by AtView AtView after refusal goes = absurd goes.0
  refuses_by AtView (AtFinals body block config) after refusal goes = absurd goes.0
  refuses_by (AtFinals body block config) AtEnd after refusal goes = goes.0
  refuses_by (AtFinals body block config) AtView after refusal goes = absurd goes
  refuses_by (AtFinals body block config) (AtFinals b k c) after refusal goes = absurd goes
  refuses_by AtEnd new after refusal goes = absurd goes

module _ (by_ahead : AheadLaw) (by_member : MemberLaw) (accepts : Accepts) (ask : LatestAsk) (from : ViewChain) (state new : State) (event : Event) (past : List Event) where
  abbrev With : ViewChain → State
  With chain = record { chain = chain; handle = state.handle; nonce = state.nonce; stage = Ended (Err NoMemory) }

  -- a call of the refresh
  pub refresh_call : (before after : RefreshState) (progress : Result RefreshProgress MemoryWanted) → state.stage ≡ Refreshing before
      → RefreshGoes accepts before state.chain event after new.chain progress → RefreshLeads accepts before state.chain event after new.chain
      → TakesRefresh after progress (With new.chain) new → (progress ≡ Ok refreshed.Fresh → IsConfig (newest_config new.chain.configs))
      → LatestSound accepts ask from state past → LatestSound accepts ask from new (event ∷ past)
  refresh_call before after progress stage goes leads takes config sound = by progress goes takes config
    where
      old : SoundRefresh accepts from before state.chain past
      old = subst (λ (s : Stage). AtStage accepts ask from state.chain s past) stage sound.at

      own : OwnCalls accepts (asking_of ask new.chain) (event ∷ past)
      own = refresh_own accepts (asking_of ask new.chain) from new.chain after (event ∷ past) (leads from past old)

      made : (stage : Stage) → new ≡ at stage (With new.chain) → AtStage accepts ask from new.chain stage (event ∷ past) → LatestSound accepts ask from new (event ∷ past)
      made stage is rests =
          subst (λ (s : State). LatestSound accepts ask from s (event ∷ past)) (sym is)
          (record { handle = sound.handle; nonce = sound.nonce; own = own; at = rests })

      same_live : new.chain ≡ state.chain → (stage : Stage) × AtLive accepts ask from new.chain stage past
      same_live same = (Refreshing before, subst (λ (ch : ViewChain). SoundRefresh accepts from before ch past) (sym same) old)

      claim : record { view = newest_tail new.chain.configs; handle = state.handle; nonce = state.nonce } ≡ (asking_of ask new.chain).claim
      claim =
          ap (λ (h : List ℕ). record { view = newest_tail new.chain.configs; handle = h; nonce = state.nonce }) sound.handle
          ∙ ap (λ (n : List ℕ). record { view = newest_tail new.chain.configs; handle = ask.handle; nonce = n }) sound.nonce

      by : (p : Result RefreshProgress MemoryWanted) → RefreshGoes accepts before state.chain event after new.chain p → TakesRefresh after p (With new.chain) new
          → (p ≡ Ok refreshed.Fresh → IsConfig (newest_config new.chain.configs)) → LatestSound accepts ask from new (event ∷ past)
      by (Ok refreshed.More) goes takes config = made (Refreshing after) takes (leads from past old)
      by (Ok refreshed.Fresh) goes (inl next) config =
          let fresh = fresh_by accepts from state.chain event past before after new.chain goes old in
          made next.0 next.1
          (asks_next by_ahead by_member accepts ask from new.chain event past (same_live fresh.1) (config refl) [] [] next.0 refl (omega arith)
          (record { fresh = event ∷ past; split = refl; refreshed = subst (λ (ch : ViewChain). IsFresh accepts from ch (event ∷ past)) (sym fresh.1) fresh.0 })
          (subst (λ (k : LatestClaim). AsksNext k new.chain [] next.0) claim next.2))
      by (Ok refreshed.Fresh) goes (inr is) config =
          made (Ended (Err NoMemory)) is (same_live (fresh_by accepts from state.chain event past before after new.chain goes old).1, tt, inl refl)
      by (Ok (refreshed.Refused refusal)) goes takes config =
          let r = refused_by accepts from state.chain event past ask before after new.chain refusal goes old in
          made (Ended (Err (cause_of refusal))) takes (
            same_live r.1,
            subst (λ (ch : ViewChain). IsRefused accepts (asking_of ask ch) ch (event ∷ past) (cause_of refusal)) (sym r.1) r.0,
            inr (inl (record {
              refresh = before;
              come = (same_live r.1).1;
              cause = cause_of refusal;
              refuses = subst (λ (ch : ViewChain). RefusesRefresh accepts before ch event (cause_of refusal)) (sym r.1)
                  (refuses_by accepts from state.chain event past before after new.chain refusal goes);
              is = refl;
            })),
          )
      by (Err none) goes takes config =
          made (Ended (Err NoMemory)) takes (same_live (wanted_by accepts from state.chain event past before after new.chain none goes), tt, inl refl)
