-- What a new ledger answers over a calm service.
use Rattle.std.proofs.Common.{◌≡◌, ◌⊎◌, inl, inr, ◌+◌, ◌<◌, ◌≤◌, Bool, true, false, List, [], ◌∷◌, ◌++◌, length, Result, Ok, Err, refl, sym, subst, ap, ◌∙◌, arith}
use Rattle.chain_block.specs.declared.meta_block.MetaBlock.{MetaBlock}
use Rattle.chain_block.specs.declared.entry.Entry.{Entry}
use Rattle.chain_block.specs.Entry.{handle_of, height_of}
use Rattle.statement.specs.Receipt.{Receipt}
use Rattle.port.specs.Cause.{Cause, Conflict, NoMemory}
use Rattle.port.specs.Reply.{Standing}
use Rattle.port.specs.RowForm.{IsStored}
use Rattle.port.specs.Stored.{Stored}
use Rattle.port.specs.Trace.{Event, AreHonest, AreFaithful}
use Rattle.view_ledger.specs.Views.{ViewChain}
use Rattle.settle.specs.Says.{IsSettled, IsRefused as IsSettleRefused}
use Rattle.op_entry.specs.declared.found.Found.{Found}
use Rattle.op_entry.specs.Ask.{Ask, NewLedger}
use Rattle.op_entry.specs.Standing.{settling_of as settling_of_row}
use Rattle.op_entry.specs.Sound.{GaveRow, Stands, found_in, WasRefused, WasSettleRefused, IsConflict, IsAnswered}
use Rattle.calm.specs.Calm.{ServiceState, IsCalm}
use Rattle.calm.specs.Calls.{Later, CalmNew, IsFirstOrNone}
use Rattle.calm.specs.Ledgers.{row_above}
use Rattle.calm.specs.StandingViews.{IsFront}
use Rattle.calm_entry.specs.NextSettling.{NextSettling, settling_of, entries_of, IsNoRoomFor, IsForFullMap}
use Rattle.calm_entry.proofs.LowerLaws.{CutLaws, RowLaws}
use Rattle.calm_entry.proofs.Quiet.{RefreshLaws, stays_calm}
use Rattle.calm_entry.proofs.Standing.{order}
use Rattle.calm_entry.proofs.OwnRows.{OwnLaw, first_row}
use Rattle.calm_entry.proofs.EntryRuns.{GaveOwn, Given, given, Next, settles, next_of, settled_so, refused_so}
use Rattle.calm_entry.proofs.Refusing.{cause_or, refresh_lacks}
use Rattle.calm_entry.proofs.PuttingRefused.{IsFirstThere, put_lacks, taken_lacks}
use Rattle.calm_entry.proofs.Appends.{RoomLaws}

-- laws of settlings of the next row, where there is no room for it
pub record FullLaws : Type 0 where
  pub none : (run : NextSettling) (chain : List MetaBlock) (receipt : Receipt) → IsNoRoomFor run.service run.entry
      → IsSettled run.service.accepts (settling_of run) run.calls chain receipt → ⊥
  pub full : (run : NextSettling) (cause : Cause) → IsNoRoomFor run.service run.entry
      → IsSettleRefused run.service.accepts (settling_of run) run.calls cause → IsForFullMap cause

module _ (service : ServiceState) (calm : IsCalm service) (entry : Entry) (first : IsFirstOrNone service entry) where
  -- where the entry stands it stands at height 0
  first_low : (above : List Entry) → entries_of service entry ≡ entry ∷ above → height_of entry ≡ 0
  first_low above is = ((calm.stand (handle_of entry)).each [] above entry is).good.at.of_height

  -- what stands at the own height is the entry, as the first of its ledger
  stands_first : (below above : List Entry) (other : Entry) → entries_of service entry ≡ below ++ other ∷ above → height_of entry ≡ length below → (below ≡ []) × (other ≡ entry)
  stands_first below above other split at = by below first split at
    where
      by : (lower : List Entry) → (entries_of service entry ≡ []) ⊎ ((rest : List Entry) × (entries_of service entry ≡ entry ∷ rest)) → entries_of service entry ≡ lower ++ other ∷ above
          → height_of entry ≡ length lower → (lower ≡ []) × (other ≡ entry)
      by [] (inl none) is here = let e : [] ≡ other ∷ above = sym none ∙ is in absurd (cc)
      by (x ∷ lower) (inl none) is here = let e : [] ≡ x ∷ (lower ++ other ∷ above) = sym none ∙ is in absurd (cc)
      by [] (inr (rest, stands)) is here = let e : entry ∷ rest ≡ other ∷ above = sym stands ∙ is in (refl, (cc))
      by (x ∷ lower) (inr (rest, stands)) is here = let low = first_low rest stands in absurd (omega (arith, low, here))

  -- where it is the next one its ledger has none
  next_first : height_of entry ≡ length (entries_of service entry) → entries_of service entry ≡ []
  next_first at = by first
    where
      by : (entries_of service entry ≡ []) ⊎ ((rest : List Entry) × (entries_of service entry ≡ entry ∷ rest)) → entries_of service entry ≡ []
      by (inl none) = none
      by (inr (rest, stands)) =
          let low = first_low rest stands in
          let count = ap length stands in
          absurd (omega (arith, low, at, count))

  first_there : IsFirstThere service entry
  first_there low other above is = (stands_first [] above other is low).1

  -- there is room for one more ledger, or there are as many as there may be
  room_or_full : (length service.rows < 4096) ⊎ (length service.rows ≡ 4096)
  room_or_full = by (order (length service.rows) 4096)
    where
      by : (length service.rows < 4096) ⊎ (4096 ≤ length service.rows) → (length service.rows < 4096) ⊎ (length service.rows ≡ 4096)
      by (inl less) = inl less
      by (inr many) = inr (let few = calm.map.lawful.few in omega (arith, many, few))

module _ (cut : CutLaws) (rows : RowLaws) (refreshes : RefreshLaws) (rooms : RoomLaws) (fulls : FullLaws) (service : ServiceState) (calm : IsCalm service) (from : ViewChain)
    (front : IsFront service.roster service.configs from) (entry : Entry) (is_stored : IsStored entry) (first : IsFirstOrNone service entry)
    (later : Later) (one_more : service.left ≡ later.left + 1) (chain : ViewChain) (past : List Event)
    (honest : AreHonest service.contents past later.contents) (faithful : AreFaithful service.signs service.bank past later.bank) where
  abbrev ask : Ask
  ask = NewLedger entry

  abbrev law : OwnLaw rows refreshes service calm from front ask entry
  law = first_row rows refreshes service calm from front entry

  gave_own : (c : ViewChain) (found : Found) (stored : Stored) (p : List Event) → GaveRow service.accepts ask from c found stored p
      → GaveOwn cut rows refreshes service calm from front ask entry law c found stored p
  gave_own c found stored p gave = gave

  given_so : (found : Found) (stored : Stored) → GaveRow service.accepts ask from chain found stored past
      → Given cut rows refreshes service calm from front ask entry law chain found stored later.contents later.bank
  given_so found stored gave = given cut rows refreshes service calm from front ask entry law chain found stored past (gave_own chain found stored past gave) later.contents later.bank honest faithful

  abbrev IsNext : Found → List Event → Type 0
  IsNext found calls = Next cut rows refreshes service calm from front ask entry law gave_own is_stored chain found calls later.contents later.bank

  abbrev run_of : (found : Found) (calls : List Event) → IsNext found calls → NextSettling
  run_of found calls next = next_of cut rows refreshes service calm from front ask entry law gave_own is_stored later one_more chain found calls next

  abbrev IsStanding : Standing → Bool → Type 0
  IsStanding standing is_own = Stands service.accepts ask from chain (found_in standing is_own) standing.chain standing.receipt past

  -- what stands
  by_stands : (standing : Standing) → IsStanding standing true → CalmNew service entry (Ok standing) later
  by_stands standing (inl (alone, has)) =
      let is = given_so (found_in standing true) has.stored has.given in
      let one = stands_first service calm entry first is.stands.below is.stands.above is.stands.entry is.stands.split is.stands.at in (
        (is.row ∙ ap (λ (b : List Entry). row_above b is.stands.entry) one.0 ∙ ap (row_above []) one.1, alone),
        inr (
          is.stands.above,
          is.stands.split ∙ ap (λ (b : List Entry). b ++ is.stands.entry ∷ is.stands.above) one.0 ∙ ap (λ (e : Entry). e ∷ is.stands.above) one.1,
          stays_calm service calm later one_more chain is.quiet,
        ),
      )
  by_stands standing (inr was) = by (room_or_full service calm entry first)
    where
      next : IsNext (found_in standing true) was.settling.calls
      next = settles cut rows refreshes service calm from front ask entry law gave_own is_stored chain (found_in standing true) was.settle past was.settling later.contents later.bank honest faithful

      settled : IsSettled service.accepts (settling_of (run_of (found_in standing true) was.settling.calls next)) was.settling.calls standing.chain standing.receipt
      settled = settled_so cut rows refreshes service calm from front ask entry law gave_own is_stored later one_more chain (found_in standing true) was.settling.calls next standing.chain standing.receipt was.settled

      none : entries_of service entry ≡ []
      none = next_first service calm entry first next.next.of_height

      by : (length service.rows < 4096) ⊎ (length service.rows ≡ 4096) → CalmNew service entry (Ok standing) later
      by (inl less) =
          let run = run_of (found_in standing true) was.settling.calls next in (
            (next.row ∙ ap (λ (b : List Entry). row_above b entry) none, rooms.own run standing.chain standing.receipt (inr less) settled),
            inl (none, less, rooms.calm run standing.chain standing.receipt (inr less) settled),
          )
      by (inr all) = absurd (fulls.none (run_of (found_in standing true) was.settling.calls next) standing.chain standing.receipt (none, all) settled)

  no_conflict : (standing : Standing) → IsStanding standing false → ⊥
  no_conflict standing (inl (alone, has)) =
      let is = given_so (found_in standing false) has.stored has.given in
      let one = stands_first service calm entry first is.stands.below is.stands.above is.stands.entry is.stands.split is.stands.at in
      let e : false ≡ true = is.own.1 one.1 in
      absurd (cc)
  no_conflict standing (inr was) =
      let next = settles cut rows refreshes service calm from front ask entry law gave_own is_stored chain (found_in standing false) was.settle past was.settling later.contents later.bank honest faithful in
      let e : false ≡ true = next.is_own in
      absurd (cc)

  -- memory was wanted, or the map is full
  abbrev IsFull : Cause → Type 0
  IsFull cause = IsForFullMap cause × (entries_of service entry ≡ []) × (length service.rows ≡ 4096)

  by_settling : (cause : Cause) → WasSettleRefused service.accepts ask from chain cause past → (cause ≡ NoMemory) ⊎ IsFull cause
  by_settling cause (found, settle, settling, refused) = by (cause_or (IsSettleRefused service.accepts (settling_of_row chain.configs found.row) settling.calls) cause refused)
    where
      next : IsNext found settling.calls
      next = settles cut rows refreshes service calm from front ask entry law gave_own is_stored chain found settle past settling later.contents later.bank honest faithful

      none : entries_of service entry ≡ []
      none = next_first service calm entry first next.next.of_height

      by_room : IsSettleRefused service.accepts (settling_of (run_of found settling.calls next)) settling.calls cause → (length service.rows < 4096) ⊎ (length service.rows ≡ 4096)
          → (cause ≡ NoMemory) ⊎ IsFull cause
      by_room bad (inl less) = absurd (rooms.stands (run_of found settling.calls next) cause (inr less) bad)
      by_room bad (inr all) = inr (fulls.full (run_of found settling.calls next) cause (none, all) bad, none, all)

      by : (cause ≡ NoMemory) ⊎ IsSettleRefused service.accepts (settling_of_row chain.configs found.row) settling.calls cause → (cause ≡ NoMemory) ⊎ IsFull cause
      by (inl wanted) = inl wanted
      by (inr bad) =
          by_room (refused_so cut rows refreshes service calm from front ask entry law gave_own is_stored later one_more chain found settling.calls next cause bad) (room_or_full service calm entry first)

  by_refused : (cause : Cause) → WasRefused service.accepts ask from chain cause past → (cause ≡ NoMemory) ⊎ IsFull cause
  by_refused cause (inl was) = inl (refresh_lacks rows refreshes service calm from front chain cause past later.contents honest was)
  by_refused cause (inr (inl was)) = absurd was
  by_refused cause (inr (inr (inl was))) = inl (put_lacks cut rows refreshes service calm from front ask entry law chain past later.contents later.bank honest faithful cause was)
  by_refused cause (inr (inr (inr (inl (own, got, before, is, was, refused))))) =
      inl (taken_lacks cut rows refreshes service calm from front ask entry law chain past later.contents later.bank honest faithful cause (first_there service calm entry first) own got before is was refused)
  by_refused cause (inr (inr (inr (inr was)))) = by_settling cause was

  told : (cause : Cause) → (cause ≡ NoMemory) ⊎ IsFull cause → CalmNew service entry (Err cause) later
  told cause (inl wanted) = subst (λ (c : Cause). CalmNew service entry (Err c) later) (sym wanted) tt
  told cause (inr (full, none, all)) = subst (λ (c : Cause). CalmNew service entry (Err c) later) (sym full.1) (none, all)

  conflicts : (cause : Cause) → IsConflict service.accepts ask from chain cause past → CalmNew service entry (Err cause) later
  conflicts (Conflict standing) is = absurd (no_conflict standing is)
  conflicts cause is = absurd is

  pub made : (answer : Result Standing Cause) → IsAnswered service.accepts ask from chain answer past → CalmNew service entry answer later
  made (Ok standing) is = by_stands standing is
  made (Err cause) (inl is) = conflicts cause is
  made (Err cause) (inr was) = told cause (by_refused cause was)
