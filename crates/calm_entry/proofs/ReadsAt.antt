-- What a read at a height answers over a calm service.
use Rattle.std.proofs.Common.{◌≡◌, ◌⊎◌, inl, inr, ℕ, ◌+◌, ◌≤◌, Bool, true, false, List, length, Result, Ok, Err, refl, sym, subst, ap}
use Rattle.port.specs.declared.key.Key.TheVariants as keys
use Rattle.port.specs.declared.store_answers.Got.TheVariants as gots
use Rattle.port.specs.Cause.{Cause, Conflict, Gap, NoMemory}
use Rattle.port.specs.Contents.{Contents}
use Rattle.port.specs.Link.{Bank}
use Rattle.port.specs.Reply.{Standing as Stood}
use Rattle.port.specs.Stored.{Stored}
use Rattle.port.specs.Trace.{Event, AreHonest, AreFaithful}
use Rattle.view_ledger.specs.Views.{ViewChain}
use Rattle.settle.specs.State.{State as Settle}
use Rattle.op_entry.specs.declared.found.Found.{Found}
use Rattle.op_entry.specs.Ask.{Ask, ReadAt}
use Rattle.op_entry.specs.Refusal.{IsRowRefused}
use Rattle.op_entry.specs.Sound.{GaveRow, IsToSettle, IsSettling, Stands, found_in, WasRowRefused, WasRefused, IsConflict, IsAnswered}
use Rattle.calm.specs.Calm.{ServiceState, IsCalm}
use Rattle.calm.specs.Calls.{Later, StaysCalm, CalmAt}
use Rattle.calm.specs.Ledgers.{row_above}
use Rattle.calm.specs.StandingViews.{IsFront}
use Rattle.calm_entry.proofs.LowerLaws.{CutLaws, RowLaws}
use Rattle.calm_entry.proofs.Quiet.{RefreshLaws, Quiet, stays_calm, leads_get, answered_get, leads_refreshed}
use Rattle.calm_entry.proofs.Standing.{Standing, standing, is_row, is_receipted}
use Rattle.calm_entry.proofs.Refusing.{cause_or, refresh_lacks, row_is_missing}

module _ (cut : CutLaws) (rows : RowLaws) (refreshes : RefreshLaws) (service : ServiceState) (calm : IsCalm service) (from : ViewChain)
    (front : IsFront service.roster service.configs from) (handle : List ℕ) (height : ℕ) (chain : ViewChain) where
  abbrev ask : Ask
  ask = ReadAt handle height

  -- The row that was read is one that stands.
  record Read (found : Found) (stored : Stored) (contents : Contents) (bank : Bank) : Type 0 where
    pub quiet : Quiet service chain contents bank
    pub stands : Standing service calm handle height stored
    pub row : found.row ≡ row_above stands.below stands.entry

  read_so : (found : Found) (stored : Stored) (past : List Event) (contents : Contents) (bank : Bank) → AreHonest service.contents past contents
      → AreFaithful service.signs service.bank past bank → GaveRow service.accepts ask from chain found stored past → Read found stored contents bank
  read_so found stored past contents bank honest faithful (before, is, good, is_own, fresh_now) =
      let key = keys.Row handle height in
      let leads = leads_refreshed service refreshes calm from front chain before fresh_now in
      let answered = answered_get service past before chain key (gots.Some stored) is leads contents bank honest faithful in
      let stands = standing service calm rows handle height stored answered.0 in
      record {
        quiet = leads_get service past before chain key (gots.Some stored) is leads contents bank honest faithful;
        stands = stands;
        row = is_row service calm rows handle height stored stands found.row good;
      }

  -- no row is settled
  began_none : (found : Found) (before : List Event) (contents : Contents) (bank : Bank) → AreHonest service.contents before contents → AreFaithful service.signs service.bank before bank
      → IsToSettle service.accepts ask from chain found before → ⊥
  began_none found before contents bank honest faithful (inl (is_own, (older, is, has))) = has
  began_none found before contents bank honest faithful (inr (stored, gave, bare)) =
      let is = read_so found stored before contents bank honest faithful gave in
      is_receipted service calm rows handle height stored is.stands chain.configs (ap (λ (c : ViewChain). c.configs) is.quiet.whole) found.row is.row bare

  module _ (later : Later) (one_more : service.left ≡ later.left + 1) (past : List Event)
      (honest : AreHonest service.contents past later.contents) (faithful : AreFaithful service.signs service.bank past later.bank) where
    never_settles : (found : Found) (settle : Settle) → IsSettling service.accepts ask from chain found settle past → ⊥
    never_settles found settle settling =
        let h = cut.store service.contents later.contents settling.calls settling.before (subst (λ (p : List Event). AreHonest service.contents p later.contents) settling.split honest) in
        let f = cut.link service.signs service.bank later.bank settling.calls settling.before (subst (λ (p : List Event). AreFaithful service.signs service.bank p later.bank) settling.split faithful) in
        began_none found settling.before h.0 f.0 h.1 f.1 settling.began

    abbrev IsStanding : Stood → Bool → Type 0
    IsStanding standing is_own = Stands service.accepts ask from chain (found_in standing is_own) standing.chain standing.receipt past

    by_stands : (standing : Stood) → IsStanding standing true → CalmAt service handle height (Ok standing) later
    by_stands standing (inl (alone, has)) =
        let is = read_so (found_in standing true) has.stored past later.contents later.bank honest faithful has.given in (
          is.stands.below,
          is.stands.entry,
          (is.stands.above, is.stands.split),
          is.stands.at,
          (is.row, alone),
          stays_calm service calm later one_more chain is.quiet,
        )
    by_stands standing (inr was) = absurd (never_settles (found_in standing true) was.settle was.settling)

    no_conflict : (standing : Stood) → IsStanding standing false → ⊥
    no_conflict standing (inl (alone, has)) = let e : false ≡ true = has.given.3 in absurd (cc)
    no_conflict standing (inr was) = never_settles (found_in standing false) was.settle was.settling

    -- memory was wanted, or nothing stands at the height
    abbrev IsGap : Cause → Type 0
    IsGap cause = (cause ≡ Gap handle height) × (length (service.ledgers handle) ≤ height) × StaysCalm service later

    by_row : (cause : Cause) → WasRowRefused service.accepts ask from chain cause past → (cause ≡ NoMemory) ⊎ IsGap cause
    by_row cause (got, before, is, fresh_now, refused) = by (cause_or (IsRowRefused handle height got) cause refused)
      where
        by : (cause ≡ NoMemory) ⊎ IsRowRefused handle height got cause → (cause ≡ NoMemory) ⊎ IsGap cause
        by (inl wanted) = inl wanted
        by (inr bad) =
            let key = keys.Row handle height in
            let leads = leads_refreshed service refreshes calm from front chain before fresh_now in
            let answered = answered_get service past before chain key got is leads later.contents later.bank honest faithful in
            let gap = row_is_missing rows refreshes service calm from front handle height got later.contents cause answered bad in
            inr (gap.0, gap.1, stays_calm service calm later one_more chain (leads_get service past before chain key got is leads later.contents later.bank honest faithful))

    by_refused : (cause : Cause) → WasRefused service.accepts ask from chain cause past → (cause ≡ NoMemory) ⊎ IsGap cause
    by_refused cause (inl was) = inl (refresh_lacks rows refreshes service calm from front chain cause past later.contents honest was)
    by_refused cause (inr (inl was)) = absurd was
    by_refused cause (inr (inr (inl (row, put, (before, is, has), refused)))) = absurd has
    by_refused cause (inr (inr (inr (inl was)))) = by_row cause was
    by_refused cause (inr (inr (inr (inr (found, settle, settling, refused))))) = absurd (never_settles found settle settling)

    told : (cause : Cause) → (cause ≡ NoMemory) ⊎ IsGap cause → CalmAt service handle height (Err cause) later
    told cause (inl wanted) = subst (λ (c : Cause). CalmAt service handle height (Err c) later) (sym wanted) tt
    told cause (inr gap) = subst (λ (c : Cause). CalmAt service handle height (Err c) later) (sym gap.0) (refl, refl, gap.1, gap.2)

    conflicts : (cause : Cause) → IsConflict service.accepts ask from chain cause past → CalmAt service handle height (Err cause) later
    conflicts (Conflict standing) is = absurd (no_conflict standing is)
    conflicts cause is = absurd is

    pub read : (answer : Result Stood Cause) → IsAnswered service.accepts ask from chain answer past → CalmAt service handle height answer later
    read (Ok standing) is = by_stands standing is
    read (Err cause) (inl is) = conflicts cause is
    read (Err cause) (inr was) = told cause (by_refused cause was)
