-- What one more call makes of an operation that is on the way to its own row.
use Rattle.std.proofs.Common.{◌≡◌, inl, inr, true, List, [], ◌∷◌, length, Result, Ok, Err, refl, sym, subst, ap}
use Rattle.nim_base.specs.declared.no_memory.NoMemory.{NoMemory as MemoryWanted}
use Rattle.chain_block.specs.declared.entry.Entry.{Entry}
use Rattle.port.specs.declared.key.Key.{Key}
use Rattle.port.specs.declared.refusal.Refusal.{Refusal}
use Rattle.port.specs.declared.store_answers.Put.{Put}
use Rattle.port.specs.declared.store_answers.Put.TheVariants as puts
use Rattle.port.specs.declared.store_answers.Got.{Got}
use Rattle.port.specs.Cause.{Cause, NoMemory, cause_of}
use Rattle.port.specs.Row.{Content}
use Rattle.port.specs.Trace.{Event}
use Rattle.view_ledger.specs.Views.{ViewChain}
use Rattle.view_ledger.specs.Receipts.{Accepts}
use Rattle.op_parts.specs.declared.refresh_turn.RefreshProgress.{RefreshProgress}
use Rattle.op_parts.specs.declared.refresh_turn.RefreshProgress.TheVariants as refreshed
use Rattle.op_parts.specs.RefreshSays.{GaveNoView}
use Rattle.op_parts.specs.RefreshSound.{Goes, Leads as RefreshLeads, Sound as SoundRefresh, key_of as key_of_refresh}
use Rattle.op_parts.specs.RefreshState.{RefreshState, AtView, AtFinals, AtEnd}
use Rattle.op_entry.specs.declared.found.Found.{Found}
use Rattle.op_entry.specs.Ask.{Ask, NewLedger, AppendEntry, ReadAt}
use Rattle.op_entry.specs.OwnRow.{get_of, get_below, put_of}
use Rattle.op_entry.specs.State.{Stage, Refreshing, GettingBelow, Putting, GettingTaken, GettingAt, Settling, Ended}
use Rattle.settle.specs.State.{State as Settle}
use Rattle.settle.specs.Sound.{Sound as SoundSettle}
use Rattle.op_entry.specs.Standing.{settling_of}
use Rattle.op_entry.specs.Turns.{Starts, TakesProgress, TakesBelow, TakesPut, Begins}
use Rattle.op_entry.specs.Sound.{Refreshed, HasOwnRow, WasPut, IsFit, IsAt, IsAnswered, IsSettling, WasRefreshRefused, WasBelowRefused, WasPutRefused}
use Rattle.op_entry.proofs.Ending.{holds}
use Rattle.op_entry.specs.Refusal.{OrMemory, IsRefreshRefused, IsPutRefused}

-- how an operation goes on once its chain is refreshed
starts : (accepts : Accepts) (ask : Ask) (from chain : ViewChain) (stage : Stage) (past : List Event)
    → (IsAnswered accepts ask from chain (Err NoMemory) past) → IsFit ask → Refreshed accepts from chain past → Starts ask stage → IsAt accepts ask from chain stage past
starts accepts (NewLedger entry) from chain (Putting row) past wanted fit fresh goes = (fit, goes, fresh)
starts accepts (AppendEntry entry) from chain (GettingBelow own) past wanted fit fresh goes = (ap AppendEntry (sym goes), fresh)
starts accepts (ReadAt handle height) from chain (GettingAt ledger place) past wanted fit fresh goes = (cc (goes.0, goes.1), fresh)
starts accepts ask from chain (Ended answer) past wanted fit fresh goes = subst (λ a. IsAnswered accepts ask from chain a past) (sym goes) wanted
starts accepts ask from chain stage past wanted fit fresh goes = absurd goes

module _ (accepts : Accepts) (chain : ViewChain) (event : Event) (after : ViewChain) where
  -- a refresh that has ended gave no further view
  fresh : (refresh new : RefreshState) → Goes accepts refresh chain event new after (Ok refreshed.Fresh)
      → (refresh ≡ AtView) × GaveNoView (length chain.configs) event × (after ≡ chain)
  fresh AtView AtEnd goes = (refl, goes.0, goes.1)
  fresh AtView AtView goes = absurd goes.0
  fresh AtView (AtFinals body block config) goes = absurd goes.0
  fresh (AtFinals body block config) AtView goes = absurd goes
  fresh (AtFinals body block config) (AtFinals b k c) goes = absurd goes
  fresh (AtFinals body block config) AtEnd goes = absurd goes
  fresh AtEnd new goes = absurd goes

  -- a refresh that was refused
  refused : (refresh new : RefreshState) (refusal : Refusal) → Goes accepts refresh chain event new after (Ok (refreshed.Refused refusal))
      → IsRefreshRefused accepts chain refresh event (cause_of refusal) × (after ≡ chain)
  refused AtView AtEnd refusal goes = (goes.0, goes.1)
  refused AtView AtView refusal goes = absurd goes.0
  refused AtView (AtFinals body block config) refusal goes = absurd goes.0
  refused (AtFinals body block config) AtEnd refusal goes = (goes.0, goes.1)
  refused (AtFinals body block config) AtView refusal goes = absurd goes
  refused (AtFinals body block config) (AtFinals b k c) refusal goes = absurd goes
  refused AtEnd new refusal goes = absurd goes

  -- a refresh that wanted memory
  wanted : (refresh new : RefreshState) (lack : MemoryWanted) → Goes accepts refresh chain event new after (Err lack) → after ≡ chain
  wanted AtView new lack goes = goes.1
  wanted (AtFinals body block config) new lack goes = goes.2
  wanted AtEnd new lack goes = absurd goes

-- the stage after a call of the refresh
module _ (accepts : Accepts) (ask : Ask) (from chain after : ViewChain) (refresh new : RefreshState) (got : Got) (past : List Event) where
  abbrev key : Key
  key = key_of_refresh refresh chain

  abbrev past_now : List Event
  past_now = get_of key got ∷ past

  ended : (cause : Cause) → after ≡ chain → SoundRefresh accepts from refresh chain past → OrMemory (IsRefreshRefused accepts chain refresh (get_of key got)) cause
      → IsAt accepts ask from after (Ended (Err cause)) past_now
  ended cause same sound is = subst (λ (c : ViewChain). IsAt accepts ask from c (Ended (Err cause)) past_now) (sym same)
      (let was : WasRefreshRefused accepts from chain cause past_now = (refresh, got, past, refl, sound, is) in inr (inl was))

  started : (stage : Stage) → (refresh ≡ AtView) × GaveNoView (length chain.configs) (get_of key got) × (after ≡ chain) → IsFit ask
      → SoundRefresh accepts from refresh chain past → Starts ask stage → IsAt accepts ask from after stage past_now
  started stage is fit sound goes = subst (λ (c : ViewChain). IsAt accepts ask from c stage past_now) (sym is.2)
      (starts accepts ask from chain stage past_now
      (let was : WasRefreshRefused accepts from chain NoMemory past_now = (refresh, got, past, refl, sound, tt) in inr (inl was))
      fit (get_of key got, past, refl, subst (λ (r : RefreshState). SoundRefresh accepts from r chain past) is.0 sound, is.1) goes)

  refresh_leads : (progress : Result RefreshProgress MemoryWanted) (stage : Stage) → Goes accepts refresh chain (get_of key got) new after progress
      → RefreshLeads accepts refresh chain (get_of key got) new after → TakesProgress ask new progress stage
      → IsAt accepts ask from chain (Refreshing ask refresh) past → IsAt accepts ask from after stage past_now
  refresh_leads (Ok refreshed.More) stage goes leads takes at = subst (λ (s : Stage). IsAt accepts ask from after s past_now) (sym takes) (refl, at.1, leads from past at.2)
  refresh_leads (Ok refreshed.Fresh) stage goes leads takes at = started stage (fresh accepts chain (get_of key got) after refresh new goes) at.1 at.2 takes
  refresh_leads (Ok (refreshed.Refused refusal)) stage goes leads takes at =
      let no = refused accepts chain (get_of key got) after refresh new refusal goes in
      subst (λ (s : Stage). IsAt accepts ask from after s past_now) (sym takes)
      (ended (cause_of refusal) no.1 at.2 (holds (IsRefreshRefused accepts chain refresh (get_of key got)) (cause_of refusal) no.0))
  refresh_leads (Err lack) stage goes leads takes at =
      subst (λ (s : Stage). IsAt accepts ask from after s past_now) (sym takes)
      (ended NoMemory (wanted accepts chain (get_of key got) after refresh new lack goes) at.2 tt)

-- of what was asked
pub asked_leads : (accepts : Accepts) (asked ask : Ask) (from chain after : ViewChain) (refresh new : RefreshState) (got : Got) (past : List Event)
    (progress : Result RefreshProgress MemoryWanted) (stage : Stage) → Goes accepts refresh chain (get_of (key_of_refresh refresh chain) got) new after progress
    → RefreshLeads accepts refresh chain (get_of (key_of_refresh refresh chain) got) new after → TakesProgress asked new progress stage
    → IsAt accepts ask from chain (Refreshing asked refresh) past → IsAt accepts ask from after stage (get_of (key_of_refresh refresh chain) got ∷ past)
asked_leads accepts asked ask from chain after refresh new got past progress stage goes leads takes at =
    refresh_leads accepts ask from chain after refresh new got past progress stage goes leads (subst (λ (a : Ask). TakesProgress a new progress stage) at.0 takes) (refl, at.1, at.2)

-- the stage after the get of the row below
module _ (accepts : Accepts) (ask : Ask) (from chain : ViewChain) (entry : Entry) (got : Got) (past : List Event) where
  abbrev with_below : List Event
  with_below = get_below entry got ∷ past

  below_of : (stage : Stage) → TakesBelow entry got stage → Refreshed accepts from chain past → IsAt accepts (AppendEntry entry) from chain stage with_below
  below_of (Putting row) takes fresh = (takes.0, takes.1, past, ap (λ (g : Got). get_below entry g ∷ past) takes.2, takes.3, takes.4, fresh)
  below_of (Ended (Err cause)) takes fresh =
      let was : WasBelowRefused accepts (AppendEntry entry) from chain cause with_below = (got, past, refl, fresh, takes) in inr (inr (inl was))
  below_of stage takes fresh = absurd takes

  pub below_leads : (stage : Stage) → TakesBelow entry got stage → IsAt accepts ask from chain (GettingBelow entry) past → IsAt accepts ask from chain stage with_below
  below_leads stage takes at = subst (λ (a : Ask). IsAt accepts a from chain stage with_below) (sym at.0) (below_of stage takes at.1)

-- the stage after the put
module _ (accepts : Accepts) (ask : Ask) (from chain : ViewChain) (row : Content) (past : List Event) where
  put_refused : (put : Put) (cause : Cause) → OrMemory (IsPutRefused put) cause → HasOwnRow accepts ask from chain row past
      → IsAnswered accepts ask from chain (Err cause) (put_of row put ∷ past)
  put_refused put cause is own =
      let was : WasPutRefused accepts ask from chain cause (put_of row put ∷ past) = (row, put, (past, refl, own), is) in inr (inr (inr (inl was)))

  put_done : (found : Found) (settle : Settle) → found.row ≡ row → found.is_own ≡ true → Begins chain.configs row settle → HasOwnRow accepts ask from chain row past
      → IsSettling accepts ask from chain found settle (put_of row puts.Done ∷ past)
  put_done found settle same is_own begins own =
      let was : WasPut accepts ask from chain found.row puts.Done (put_of row puts.Done ∷ past) =
      subst (λ (r : Content). WasPut accepts ask from chain r puts.Done (put_of row puts.Done ∷ past)) (sym same) (past, refl, own) in
      record {
        calls = [];
        before = put_of row puts.Done ∷ past;
        split = refl;
        sound = subst (λ (r : Content). SoundSettle accepts (settling_of chain.configs r) settle []) (sym same) (begins.sound accepts);
        began = inl (is_own, was);
      }

  pub put_leads : (put : Put) (stage : Stage) → TakesPut chain.configs row put stage → HasOwnRow accepts ask from chain row past → IsAt accepts ask from chain stage (put_of row put ∷ past)
  put_leads puts.Taken (GettingTaken own) takes at =
      subst (λ (r : Content). WasPut accepts ask from chain r puts.Taken (put_of row puts.Taken ∷ past)) (sym takes) (past, refl, at)
  put_leads puts.Done (Settling found settle) takes at = put_done found settle takes.1 takes.0 takes.2 at
  put_leads put (Ended (Err cause)) takes at = put_refused put cause takes at
  put_leads put stage takes at = absurd takes
