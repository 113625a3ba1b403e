-- What an append answers over a calm service.
use Rattle.std.proofs.Common.{◌≡◌, ◌≢◌, ◌⊎◌, inl, inr, ◌+◌, ◌-◌, ◌≤◌, Bool, true, false, List, [], ◌∷◌, ◌++◌, length, Result, Ok, Err, refl, sym, subst, ap, ◌∙◌, arith}
use Rattle.chain_block.specs.declared.meta_block.MetaBlock.{MetaBlock}
use Rattle.chain_block.specs.declared.entry.Entry.{Entry}
use Rattle.chain_block.specs.Entry.{handle_of, height_of}
use Rattle.statement.specs.Receipt.{Receipt}
use Rattle.port.specs.declared.key.Key.TheVariants as keys
use Rattle.port.specs.Cause.{Cause, Conflict, Gap, NoMemory}
use Rattle.port.specs.Reply.{Standing}
use Rattle.port.specs.RowForm.{IsStored}
use Rattle.port.specs.Stored.{Stored}
use Rattle.port.specs.Trace.{Event, AreHonest, AreFaithful}
use Rattle.view_ledger.specs.Views.{ViewChain}
use Rattle.settle.specs.Says.{IsSettled, IsRefused as IsSettleRefused}
use Rattle.op_entry.specs.declared.found.Found.{Found}
use Rattle.op_entry.specs.Ask.{Ask, AppendEntry}
use Rattle.op_entry.specs.OwnRow.{height_below}
use Rattle.op_entry.specs.Refusal.{IsRowRefused}
use Rattle.op_entry.specs.Standing.{settling_of as settling_of_row}
use Rattle.op_entry.specs.Sound.{GaveRow, Stands, found_in, WasBelowRefused, WasRefused, WasSettleRefused, IsConflict, IsAnswered}
use Rattle.calm.specs.Calm.{ServiceState, IsCalm}
use Rattle.calm.specs.Calls.{Later, StaysCalm, GrowsCalm, CalmAppend}
use Rattle.calm.specs.Ledgers.{row_above}
use Rattle.calm.specs.StandingViews.{IsFront}
use Rattle.calm_entry.specs.NextSettling.{NextSettling, settling_of, entries_of, IsRoomFor}
use Rattle.calm_entry.proofs.LowerLaws.{CutLaws, RowLaws}
use Rattle.calm_entry.proofs.Quiet.{RefreshLaws, stays_calm, leads_get, answered_get, leads_refreshed}
use Rattle.calm_entry.proofs.OwnRows.{OwnLaw, later_row}
use Rattle.calm_entry.proofs.EntryRuns.{GaveOwn, Given, given, Next, settles, next_of, settled_so, refused_so}
use Rattle.calm_entry.proofs.Refusing.{cause_or, refresh_lacks, row_is_missing}
use Rattle.calm_entry.proofs.PuttingRefused.{IsFirstThere, put_lacks, taken_lacks}

-- laws of settlings of the next row, where there is room for it
pub record RoomLaws : Type 0 where
  pub own : (run : NextSettling) (chain : List MetaBlock) (receipt : Receipt) → IsRoomFor run.service run.entry
      → IsSettled run.service.accepts (settling_of run) run.calls chain receipt → chain ≡ []
  pub calm : (run : NextSettling) (chain : List MetaBlock) (receipt : Receipt) → IsRoomFor run.service run.entry
      → IsSettled run.service.accepts (settling_of run) run.calls chain receipt → GrowsCalm run.service run.entry run.later
  pub stands : (run : NextSettling) (cause : Cause) → IsRoomFor run.service run.entry
      → IsSettleRefused run.service.accepts (settling_of run) run.calls cause → ⊥

module _ (cut : CutLaws) (rows : RowLaws) (refreshes : RefreshLaws) (rooms : RoomLaws) (service : ServiceState) (calm : IsCalm service) (from : ViewChain)
    (front : IsFront service.roster service.configs from) (entry : Entry) (is_stored : IsStored entry) (high : 1 ≤ height_of entry)
    (later : Later) (one_more : service.left ≡ later.left + 1) (chain : ViewChain) (past : List Event)
    (honest : AreHonest service.contents past later.contents) (faithful : AreFaithful service.signs service.bank past later.bank) where
  abbrev ask : Ask
  ask = AppendEntry entry

  abbrev law : OwnLaw rows refreshes service calm from front ask entry
  law = later_row rows refreshes service calm from front entry high

  gave_own : (c : ViewChain) (found : Found) (stored : Stored) (p : List Event) → GaveRow service.accepts ask from c found stored p
      → GaveOwn cut rows refreshes service calm from front ask entry law c found stored p
  gave_own c found stored p gave = gave

  given_so : (found : Found) (stored : Stored) → GaveRow service.accepts ask from chain found stored past
      → Given cut rows refreshes service calm from front ask entry law chain found stored later.contents later.bank
  given_so found stored gave = given cut rows refreshes service calm from front ask entry law chain found stored past (gave_own chain found stored past gave) later.contents later.bank honest faithful

  abbrev IsNext : Found → List Event → Type 0
  IsNext found calls = Next cut rows refreshes service calm from front ask entry law gave_own is_stored chain found calls later.contents later.bank

  abbrev run_of : (found : Found) (calls : List Event) → IsNext found calls → NextSettling
  run_of found calls next = next_of cut rows refreshes service calm from front ask entry law gave_own is_stored later one_more chain found calls next

  room_for : (found : Found) (calls : List Event) → IsNext found calls → IsRoomFor service entry
  room_for found calls next = inl (let at = next.next.of_height in omega (arith, at, high))

  abbrev IsStanding : Standing → Bool → Type 0
  IsStanding standing is_own = Stands service.accepts ask from chain (found_in standing is_own) standing.chain standing.receipt past

  -- what stands
  by_stands : (standing : Standing) → IsStanding standing true → CalmAppend service entry (Ok standing) later
  by_stands standing (inl (alone, has)) =
      let is = given_so (found_in standing true) has.stored has.given in
      let own : is.stands.entry ≡ entry = is.own.0 refl in
      inr (
        is.stands.below,
        (is.stands.above, is.stands.split ∙ ap (λ (e : Entry). is.stands.below ++ e ∷ is.stands.above) own),
        is.stands.at,
        (is.row ∙ ap (λ (e : Entry). row_above is.stands.below e) own, alone),
        stays_calm service calm later one_more chain is.quiet,
      )
  by_stands standing (inr was) =
      let next = settles cut rows refreshes service calm from front ask entry law gave_own is_stored chain (found_in standing true) was.settle past was.settling later.contents later.bank honest faithful in
      let run = run_of (found_in standing true) was.settling.calls next in
      let room = room_for (found_in standing true) was.settling.calls next in
      let settled = settled_so cut rows refreshes service calm from front ask entry law gave_own is_stored later one_more chain (found_in standing true) was.settling.calls next standing.chain standing.receipt was.settled in
      inl (next.next.of_height, (next.row, rooms.own run standing.chain standing.receipt room settled), rooms.calm run standing.chain standing.receipt room settled)

  by_conflict : (standing : Standing) → IsStanding standing false → CalmAppend service entry (Err (Conflict standing)) later
  by_conflict standing (inl (alone, has)) =
      let is = given_so (found_in standing false) has.stored has.given in
      let other : is.stands.entry ≢ entry = λ same. let e : false ≡ true = is.own.1 same in absurd (cc) in (
        is.stands.below,
        is.stands.entry,
        (is.stands.above, is.stands.split),
        is.stands.at,
        other,
        (is.row, alone),
        stays_calm service calm later one_more chain is.quiet,
      )
  by_conflict standing (inr was) =
      let next = settles cut rows refreshes service calm from front ask entry law gave_own is_stored chain (found_in standing false) was.settle past was.settling later.contents later.bank honest faithful in
      let e : false ≡ true = next.is_own in
      absurd (cc)

  -- memory was wanted, or the row below is missing
  abbrev IsGap : Cause → Type 0
  IsGap cause = (cause ≡ Gap (handle_of entry) (height_below entry)) × (length (entries_of service entry) ≤ height_below entry) × StaysCalm service later

  by_below : (cause : Cause) → WasBelowRefused service.accepts ask from chain cause past → (cause ≡ NoMemory) ⊎ IsGap cause
  by_below cause (got, before, is, fresh_now, refused) = by (cause_or (IsRowRefused (handle_of entry) (height_below entry) got) cause refused)
    where
      by : (cause ≡ NoMemory) ⊎ IsRowRefused (handle_of entry) (height_below entry) got cause → (cause ≡ NoMemory) ⊎ IsGap cause
      by (inl wanted) = inl wanted
      by (inr bad) =
          let key = keys.Row (handle_of entry) (height_below entry) in
          let leads = leads_refreshed service refreshes calm from front chain before fresh_now in
          let answered = answered_get service past before chain key got is leads later.contents later.bank honest faithful in
          let gap = row_is_missing rows refreshes service calm from front (handle_of entry) (height_below entry) got later.contents cause answered bad in
          inr (gap.0, gap.1, stays_calm service calm later one_more chain (leads_get service past before chain key got is leads later.contents later.bank honest faithful))

  -- an append is above the first entry
  not_first : IsFirstThere service entry
  not_first low other above is = absurd (omega (arith, low, high))

  by_settling : (cause : Cause) → WasSettleRefused service.accepts ask from chain cause past → cause ≡ NoMemory
  by_settling cause (found, settle, settling, refused) = by (cause_or (IsSettleRefused service.accepts (settling_of_row chain.configs found.row) settling.calls) cause refused)
    where
      by : (cause ≡ NoMemory) ⊎ IsSettleRefused service.accepts (settling_of_row chain.configs found.row) settling.calls cause → cause ≡ NoMemory
      by (inl wanted) = wanted
      by (inr bad) =
          let next = settles cut rows refreshes service calm from front ask entry law gave_own is_stored chain found settle past settling later.contents later.bank honest faithful in
          absurd (rooms.stands (run_of found settling.calls next) cause (room_for found settling.calls next)
          (refused_so cut rows refreshes service calm from front ask entry law gave_own is_stored later one_more chain found settling.calls next cause bad))

  by_refused : (cause : Cause) → WasRefused service.accepts ask from chain cause past → (cause ≡ NoMemory) ⊎ IsGap cause
  by_refused cause (inl was) = inl (refresh_lacks rows refreshes service calm from front chain cause past later.contents honest was)
  by_refused cause (inr (inl was)) = by_below cause was
  by_refused cause (inr (inr (inl was))) = inl (put_lacks cut rows refreshes service calm from front ask entry law chain past later.contents later.bank honest faithful cause was)
  by_refused cause (inr (inr (inr (inl (own, got, before, is, was, refused))))) =
      inl (taken_lacks cut rows refreshes service calm from front ask entry law chain past later.contents later.bank honest faithful cause not_first own got before is was refused)
  by_refused cause (inr (inr (inr (inr was)))) = inl (by_settling cause was)

  told : (cause : Cause) → (cause ≡ NoMemory) ⊎ IsGap cause → CalmAppend service entry (Err cause) later
  told cause (inl wanted) = subst (λ (c : Cause). CalmAppend service entry (Err c) later) (sym wanted) tt
  told cause (inr gap) =
      subst (λ (c : Cause). CalmAppend service entry (Err c) later) (sym gap.0) (refl, omega (arith, high), gap.1, gap.2)

  conflicts : (cause : Cause) → IsConflict service.accepts ask from chain cause past → CalmAppend service entry (Err cause) later
  conflicts (Conflict standing) is = by_conflict standing is
  conflicts cause is = absurd is

  pub appended : (answer : Result Standing Cause) → IsAnswered service.accepts ask from chain answer past → CalmAppend service entry answer later
  appended (Ok standing) is = by_stands standing is
  appended (Err cause) (inl is) = conflicts cause is
  appended (Err cause) (inr was) = told cause (by_refused cause was)
