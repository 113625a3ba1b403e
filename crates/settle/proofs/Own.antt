-- A settling's own calls.
use Rattle.std.proofs.Common.{◌≡◌, ◌⊎◌, inl, inr, ℕ, List, [], ◌∷◌, ◌++◌, refl, sym, ◌∙◌, subst, ap}
use Rattle.std.specs.List.{AllByRecursion}
use Rattle.chain_block.specs.declared.meta_block.MetaBlock.{MetaBlock}
use Rattle.statement.specs.Receipt.{Receipt, receipt_bytes}
use Rattle.port.specs.declared.key.Key.{Key}
use Rattle.port.specs.declared.key.Key.TheVariants as keys
use Rattle.port.specs.declared.store_answers.Got.{Got}
use Rattle.port.specs.declared.store_answers.Got.TheVariants as gots
use Rattle.port.specs.declared.store_answers.Attached.{Attached}
use Rattle.port.specs.Call.{Call}
use Rattle.port.specs.Cause.{MemberCause}
use Rattle.port.specs.GoodRow.{IsGoodRow}
use Rattle.port.specs.Row.{Content}
use Rattle.port.specs.Stored.{Stored}
use Rattle.port.specs.Store.{StoreCall, PutNew, Get, Attach, WasPut, WasGot, WasAttached}
use Rattle.port.specs.Trace.{Event, AtStore, AtLink, Had}
use Rattle.catch_up.specs.OwnCalls.{append_of}
use Rattle.view_ledger.specs.Receipts.{Accepts}
use Rattle.op_parts.specs.Attachment.{IsReceiptFor}
use Rattle.op_parts.specs.RoundLaws.{IsOwnAppend, IsOwnCall as IsRoundCall}
use Rattle.op_parts.specs.RoundSound.{Sound as SoundRound}
use Rattle.op_parts.specs.RoundState.{State as Round}
use Rattle.op_parts.specs.Walk.{Place, block_tail}
use Rattle.op_parts.specs.WalkSound.{Walked}
use Rattle.settle.specs.Settling.{Settling, asking, start, last_block, top_block}
use Rattle.settle.specs.State.{Stage, AtRound, AtWalk, AtAttach, AtEnd, State}
use Rattle.settle.specs.Sound.{HasWalked, HasLooked, IsBefore, IsAsking, HasReceipt, HasAttached, HasEnded, IsAt, Sound, got_at}
use Rattle.settle.specs.Says.{IsRowGiven}
use Rattle.settle.specs.Laws.{IsOwnRow, IsOwnAttach, IsOwnCall}
use Rattle.settle.proofs.Lists.{Within, later, newer, parts}
use Rattle.settle.proofs.LowerLaws.{Laws}
use Rattle.settle.proofs.Tops.{top_tail, top_height, before_rows}
use Rattle.settle.proofs.Attaching.{receipt_marks, receipt_top}

-- the last of some metablocks is one of them, or the one below
last_of : (P : MetaBlock → Type 0) (below : MetaBlock) (blocks : List MetaBlock) → AllByRecursion P blocks → (last_block below blocks ≡ below) ⊎ P (last_block below blocks)
last_of P below [] all = inl refl
last_of P below (next ∷ blocks) all = sorted (last_of P next blocks all.1)
  where
    sorted : (last_block next blocks ≡ next) ⊎ P (last_block next blocks) → (last_block next blocks ≡ below) ⊎ P (last_block next blocks)
    sorted (inl is) = inr (subst P (sym is) all.0)
    sorted (inr one) = inr one

module _ (laws : Laws) (accepts : Accepts) (settling : Settling) (all : List Event) where
  abbrev Own : Event → Type 0
  Own event = IsOwnCall accepts settling all event

  -- calls of a round over an own row
  appended : (block : MetaBlock) (some : List Event) (call : Call) → IsOwnRow settling all block → Within some all → IsOwnAppend (asking settling block) some call
      → (own : MetaBlock) × IsOwnRow settling all own × (call ≡ append_of settling.handle own)
  appended block some call row within (inl is) = (block, row, is)
  appended block some call row within (inr own) =
      let content : Content = own.2 in (
        content.metablock,
        inr (subst (λ (h : ℕ). (stored : Stored) × (r : Content) × Had all (got_at settling h (gots.Some stored)) × IsGoodRow settling.handle h stored.body r × (content.metablock ≡ r.metablock))
            (sym own.5.at.block_height) (own.1, content, within _ own.4, own.5, refl)),
        own.6,
      )

  of_round : (block : MetaBlock) (some : List Event) (event : Event) → IsOwnRow settling all block → Within some all → IsRoundCall (asking settling block) some event → Own event
  of_round block some (AtStore call answer) row within own = subst (λ (c : StoreCall). Own (AtStore c answer)) (sym own.2) refl
  of_round block some (AtLink id call heard) row within own = (own.0, appended block some call row within own.1)

  by_round : (block : MetaBlock) (round : Round) (calls : List Event) → SoundRound accepts (asking settling block) round calls → IsOwnRow settling all block → Within calls all
      → (event : Event) → Had calls event → Own event
  by_round block round calls sound row within event had = of_round block calls event row within (laws.own accepts (asking settling block) round calls sound event had)

  by_walk : (events : List Event) (place : Place) → Walked accepts settling.configs settling.handle (start settling) events place → (event : Event) → Had events event → Own event
  by_walk [] place walked event had = absurd had
  by_walk (AtStore (Get key) (WasGot got) ∷ past) place (before, walked, at, says) event (inl is) =
      subst Own (ap (λ (k : Key). AtStore (Get k) (WasGot got)) (sym at) ∙ is) refl
  by_walk (AtStore (Get key) (WasGot got) ∷ past) place (before, walked, at, says) event (inr had) = by_walk past before walked event had
  by_walk (AtStore (Get key) (WasPut put) ∷ past) place walked event had = absurd walked
  by_walk (AtStore (Get key) (WasAttached attached) ∷ past) place walked event had = absurd walked
  by_walk (AtStore (PutNew key body) answer ∷ past) place walked event had = absurd walked
  by_walk (AtStore (Attach key bytes) answer ∷ past) place walked event had = absurd walked
  by_walk (AtLink id call heard ∷ past) place walked event had = absurd walked

  either : (a b : List Event) (event : Event) → ((e : Event) → Had a e → Own e) → ((e : Event) → Had b e → Own e) → Had a event ⊎ Had b event → Own event
  either a b event new old (inl had) = new event had
  either a b event new old (inr had) = old event had

  both : (past a b : List Event) → past ≡ a ++ b → ((e : Event) → Had a e → Own e) → ((e : Event) → Had b e → Own e) → (event : Event) → Had past event → Own event
  both past a b is new old event had = either a b event new old (parts a b event (subst (λ (p : List Event). Had p event) is had))

  left : (past a b : List Event) → past ≡ a ++ b → Within past all → Within a all
  left past a b is within e had = within e (subst (λ (p : List Event). Had p e) (sym is) (newer a b e had))

  right : (past a b : List Event) → past ≡ a ++ b → Within past all → Within b all
  right past a b is within e had = within e (subst (λ (p : List Event). Had p e) (sym is) (later a b e had))

  in_walk : (causes : List (ℕ × MemberCause)) (place : Place) (past : List Event) → HasWalked accepts settling causes place past → Within past all
      → (event : Event) → Had past event → Own event
  in_walk causes place past has within =
      both past has.walk has.first has.split (by_walk has.walk place has.walked)
      (by_round settling.block has.failed.round has.first has.failed.sound (inl refl) (right past has.walk has.first has.split within))

  looked : (causes : List (ℕ × MemberCause)) (place : Place) (got : Got) (past : List Event) → HasLooked accepts settling causes place got past → Within past all
      → (event : Event) → Had past event → Own event
  looked causes place got past has within =
      both past (got_at settling place.height got ∷ []) has.0 has.1 newest (in_walk causes place has.0 has.2 (right past (got_at settling place.height got ∷ []) has.0 has.1 within))
    where
      newest : (e : Event) → Had (got_at settling place.height got ∷ []) e → Own e
      newest e (inl is) = subst Own is refl
      newest e (inr had) = absurd had

  before : (place : Place) (past : List Event) → IsBefore accepts settling place past → Within past all → (event : Event) → Had past event → Own event
  before place past (inl begun) within event had = absurd (subst (λ (p : List Event). Had p event) begun.1 had)
  before place past (inr reached) within event had = looked reached.causes place gots.None past reached.looked within event had

  top_row : (place : Place) (past : List Event) → IsBefore accepts settling place past → Within past all → IsOwnRow settling all (top_block settling place)
  top_row place past began within = last_of (IsRowGiven settling all) settling.block place.blocks (before_rows laws accepts settling all place past within began)

  asked : (round : Round) (place : Place) (past : List Event) → IsAsking accepts settling round place past → Within past all → (event : Event) → Had past event → Own event
  asked round place past has within =
      let older_in = right past has.calls has.before has.split within in
      both past has.calls has.before has.split
      (by_round (top_block settling place) round has.calls has.sound (top_row place has.before has.began older_in) (left past has.calls has.before has.split within))
      (before place has.before has.began older_in)

  attach : (receipt : Receipt) (place : Place) (past : List Event) → HasReceipt accepts settling receipt place past → Within past all
      → IsOwnAttach accepts settling all settling.handle (top_block settling place).height (receipt_bytes receipt)
  attach receipt place past has within =
      let top = receipt_top laws accepts settling receipt place past has in (
        top_block settling place,
        receipt,
        top_row place has.asked.before has.asked.began (right past has.asked.calls has.asked.before has.asked.split within),
        refl,
        refl,
        refl,
        subst (λ (n : ℕ). IsReceiptFor accepts settling.configs (record { handle = settling.handle; tail = block_tail (top_block settling place); count = n }) receipt) (top_height settling place top)
            (subst (λ (t : List ℕ). IsReceiptFor accepts settling.configs (record { handle = settling.handle; tail = t; count = place.height }) receipt) (top_tail settling place top) has.accepted),
        receipt_marks laws accepts settling all receipt place past has within,
      )

  attached : (receipt : Receipt) (place : Place) (answer : Attached) (past : List Event) → HasAttached accepts settling receipt place answer past → Within past all
      → (event : Event) → Had past event → Own event
  attached receipt place answer past has within =
      let call : Event = AtStore (Attach (keys.Row settling.handle (top_block settling place).height) (receipt_bytes receipt)) (WasAttached answer) in
      let inner = right past (call ∷ []) has.0 has.2 within in
      both past (call ∷ []) has.0 has.2 (newest (attach receipt place has.0 has.1 inner)) (asked has.1.round place has.0 has.1.asked inner)
    where
      newest : IsOwnAttach accepts settling all settling.handle (top_block settling place).height (receipt_bytes receipt) → (e : Event)
          → Had (AtStore (Attach (keys.Row settling.handle (top_block settling place).height) (receipt_bytes receipt)) (WasAttached answer) ∷ []) e → Own e
      newest own e (inl is) = subst Own is own
      newest own e (inr had) = absurd had

  ended : (past : List Event) → HasEnded accepts settling past → Within past all → (event : Event) → Had past event → Own event
  ended past (inl has) within = asked has.0 has.1 past has.2 within
  ended past (inr (inl has)) within = looked has.0 has.1 has.2 past has.3 within
  ended past (inr (inr has)) within = attached has.0 has.1 has.2 past has.3 within

  at_stage : (past : List Event) (stage : Stage) → IsAt accepts settling past stage → Within past all → (event : Event) → Had past event → Own event
  at_stage past (AtRound round place) has within = asked round place past has within
  at_stage past (AtWalk walk causes) has within = in_walk causes walk.place past has.1 within
  at_stage past (AtAttach receipt bytes place) has within = asked has.1.round place past has.1.asked within
  at_stage past AtEnd has within = ended past has within

-- a settling makes no other call
pub all_own : Laws → (accepts : Accepts) (settling : Settling) (state : State) (past : List Event) → Sound accepts settling state past
    → (event : Event) → Had past event → IsOwnCall accepts settling past event
all_own laws accepts settling state past sound = at_stage laws accepts settling past past state.stage sound.at (λ e had. had)
