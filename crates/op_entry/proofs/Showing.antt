-- What the calls of an operation show of a refusal.
use Rattle.std.proofs.Common.{◌≡◌, inl, inr, ℕ, List, [], ◌∷◌, length, Some, None, refl, sym, subst, ◌∙◌}
use Rattle.chain_block.specs.Entry.{handle_of}
use Rattle.statement.specs.declared.member.Member.{Member}
use Rattle.statement.specs.declared.view_block.ViewBlock.{ViewBlock}
use Rattle.port.specs.declared.key.Key.{Key}
use Rattle.port.specs.declared.key.Key.TheVariants as keys
use Rattle.port.specs.declared.store_answers.Put.{Put}
use Rattle.port.specs.declared.store_answers.Put.TheVariants as puts
use Rattle.port.specs.declared.store_answers.Got.{Got}
use Rattle.port.specs.declared.store_answers.Got.TheVariants as gots
use Rattle.port.specs.Cause.{MemberCause, WasLost, Denied, OtherTail, Cause, Conflict, Gap, NoQuorum, ViewMoved, StoreFault, BadRow, Contended, Full, TooFar, Reused, NoMemory, IsMemberShown, IsToldToStand, IsShown}
use Rattle.port.specs.Row.{Content}
use Rattle.port.specs.RowForm.{row_bytes}
use Rattle.port.specs.Store.{PutNew, Get, WasPut as DidPut, WasGot}
use Rattle.port.specs.Trace.{Event, Had}
use Rattle.view_ledger.specs.Views.{ViewChain}
use Rattle.view_ledger.specs.Receipts.{Accepts}
use Rattle.op_parts.specs.RefreshSays.{IsRefusedAtView, IsRefusedAtFinals}
use Rattle.op_parts.specs.RefreshSound.{Sound as SoundRefresh, IsHalfway, key_of as key_of_refresh}
use Rattle.op_parts.specs.RefreshState.{RefreshState, AtView, AtFinals, AtEnd}
use Rattle.settle.specs.Says.{IsRefused as IsSettleRefused}
use Rattle.settle.specs.Settling.{Settling}
use Rattle.op_entry.specs.Ask.{Ask, NewLedger, AppendEntry, ReadAt}
use Rattle.op_entry.specs.OwnRow.{key_of, put_of, get_of, height_below}
use Rattle.op_entry.specs.Refusal.{OrMemory, IsRefreshRefused, IsRowRefused, IsPutRefused, IsTakenRefused}
use Rattle.op_entry.specs.Standing.{settling_of}
use Rattle.op_entry.specs.Sound.{WasPut, WasRefused, WasBelowRefused, WasRowRefused}
use Rattle.std.specs.Prelude.{Err}
use Rattle.op_entry.specs.Says.{Says}
use Rattle.op_entry.proofs.Within.{Within, calls_within, within_next, had_newest, all_more}

member_more : (some all : List Event) (id : ℕ) (cause : MemberCause) → Within some all → IsMemberShown some id cause → IsMemberShown all id cause
member_more some all id WasLost more shown = (shown.0, more _ shown.1)
member_more some all id (Denied denial) more shown = (shown.0, more _ shown.1)
member_more some all id (OtherTail count tail) more shown = (shown.0, (shown.1.0, more _ shown.1.1), shown.2)

told_more : (some all : List Event) (key : Key) → Within some all → IsToldToStand some key → IsToldToStand all key
told_more some all (keys.Row handle height) more told = (told.0, more _ told.1)
told_more some all (keys.View number) more told = (told.0, more _ told.1)
told_more some all (keys.Finals number) more told = tt

-- further calls show it too
shown_more : (some all : List Event) (cause : Cause) → Within some all → IsShown some cause → IsShown all cause
shown_more some all (Gap handle missing) more shown = more _ shown
shown_more some all (NoQuorum need reasons) more shown =
    all_more (λ (r : ℕ × MemberCause). IsMemberShown some r.0 r.1) (λ (r : ℕ × MemberCause). IsMemberShown all r.0 r.1) (λ r s. member_more some all r.0 r.1 more s) reasons shown
shown_more some all (ViewMoved from id statement sig) more shown = (shown.0, more _ shown.1)
shown_more some all StoreFault more shown = (shown.0, shown.1, more _ shown.2, shown.3)
shown_more some all (BadRow key (Some bytes)) more shown = (shown.0, more _ shown.1, shown.2)
shown_more some all (BadRow key None) more shown = (more _ shown.0, told_more some all key more shown.1)
shown_more some all (Contended member first later) more shown = (shown.0, (shown.1.0, (shown.1.1.0, more _ shown.1.1.1), shown.1.2))
shown_more some all (Full member) more shown = (shown.0, more _ shown.1)
shown_more some all (Conflict standing) more shown = tt
shown_more some all (TooFar needed) more shown = tt
shown_more some all (Reused id) more shown = tt
shown_more some all NoMemory more shown = tt

-- want of memory needs nothing that shows it
or_memory : (P : Cause → Type 0) (past : List Event) (cause : Cause) → (P cause → IsShown past cause) → OrMemory P cause → IsShown past cause
or_memory P past NoMemory shows is = tt
or_memory P past cause shows is = shows is

-- what was given for a key
module _ (past before : List Event) (key : Key) (got : Got) (newest : past ≡ get_of key got ∷ before) where
  got_so : (answer : Got) → got ≡ answer → Had past (get_of key answer)
  got_so answer is = subst (λ (g : Got). Had past (get_of key g)) is (had_newest past (get_of key got) before newest)

  fault_shown : got ≡ gots.Failed → IsShown past StoreFault
  fault_shown is = (Get key, WasGot gots.Failed, got_so gots.Failed is, refl)

row_shown : (handle : List ℕ) (height : ℕ) (got : Got) (past before : List Event) (cause : Cause) → past ≡ get_of (keys.Row handle height) got ∷ before
    → IsRowRefused handle height got cause → IsShown past cause
row_shown handle height got past before StoreFault newest is = fault_shown past before (keys.Row handle height) got newest is
row_shown handle height got past before (Gap ledger missing) newest is =
    subst (λ (h : List ℕ). Had past (get_of (keys.Row h missing) gots.None)) (sym is.0)
    (subst (λ (n : ℕ). Had past (get_of (keys.Row handle n) gots.None)) (sym is.1) (got_so past before (keys.Row handle height) got newest gots.None is.2))
row_shown handle height got past before (BadRow key (Some bytes)) newest is =
    (is.1.0, subst (λ (k : Key). Had past (get_of k (gots.Some is.1.0))) (sym is.0) (got_so past before (keys.Row handle height) got newest (gots.Some is.1.0) is.1.1), is.1.2)
row_shown handle height got past before cause newest is = absurd is

put_shown : (row : Content) (put : Put) (past before : List Event) (cause : Cause) → past ≡ put_of row put ∷ before → IsPutRefused put cause → IsShown past cause
put_shown row put past before StoreFault newest is =
    (PutNew (key_of row) (row_bytes row), DidPut puts.Failed, subst (λ (p : Put). Had past (put_of row p)) is (had_newest past (put_of row put) before newest), refl)
put_shown row put past before cause newest is = absurd is

module _ (accepts : Accepts) (from chain : ViewChain) where
  taken_shown : (ask : Ask) (own : Content) (got : Got) (past before : List Event) (cause : Cause) → past ≡ get_of (key_of own) got ∷ before
      → WasPut accepts ask from chain own puts.Taken before → IsTakenRefused own got cause → IsShown past cause
  taken_shown ask own got past before StoreFault newest was is = fault_shown past before (key_of own) got newest is
  taken_shown ask own got past before (BadRow key None) newest was is =
      let put : Had past (put_of own puts.Taken) = within_next past (get_of (key_of own) got) before newest _ (had_newest before (put_of own puts.Taken) was.0 was.1) in
      let told : IsToldToStand past (key_of own) = (row_bytes own, put) in
      let none : Had past (get_of (key_of own) gots.None) = got_so past before (key_of own) got newest gots.None is.1 in
      subst (λ (k : Key). Had past (get_of k gots.None) × IsToldToStand past k) (sym is.0) (none, told)
  taken_shown ask own got past before (BadRow key (Some bytes)) newest was is =
      (is.1.0, subst (λ (k : Key). Had past (get_of k (gots.Some is.1.0))) (sym is.0) (got_so past before (key_of own) got newest (gots.Some is.1.0) is.1.1), is.1.2)
  taken_shown ask own got past before cause newest was is = absurd is

  -- a view that was given before its finals were asked for
  halfway_gave : (body : List ℕ) (block : ViewBlock) (config : List Member) (before : List Event) → IsHalfway accepts from body block config chain before
      → IsShown before (BadRow (keys.View (length chain.configs)) (Some body))
  halfway_gave body block config [] half = absurd half
  halfway_gave body block config (event ∷ before) half = (half.1.0, inl half.1.1, half.1.2)

  view_shown : (event : Event) (past before : List Event) (cause : Cause) → past ≡ event ∷ before → IsRefusedAtView (length chain.configs) event cause → IsShown past cause
  view_shown event past before StoreFault newest is =
      (Get (keys.View (length chain.configs)), WasGot gots.Failed, subst (λ (e : Event). Had past e) is (had_newest past event before newest), refl)
  view_shown event past before (BadRow key (Some bytes)) newest is =
      let gave = is.1.0 in
      (gave.0, subst (λ (k : Key). Had past (get_of k (gots.Some gave.0))) (sym is.0) (subst (λ (e : Event). Had past e) gave.1 (had_newest past event before newest)), gave.2)
  view_shown event past before cause newest is = absurd is

  finals_shown : (body : List ℕ) (block : ViewBlock) (config : List Member) (event : Event) (past before : List Event) (cause : Cause) → past ≡ event ∷ before
      → IsHalfway accepts from body block config chain before → IsRefusedAtFinals accepts chain body block config event cause → IsShown past cause
  finals_shown body block config event past before StoreFault newest half is =
      (Get (keys.Finals (length chain.configs)), WasGot gots.Failed, subst (λ (e : Event). Had past e) is (had_newest past event before newest), refl)
  finals_shown body block config event past before (BadRow (keys.Finals number) None) newest half is =
      (subst (λ (e : Event). Had past e) is.1 (had_newest past event before newest), tt)
  finals_shown body block config event past before (BadRow (keys.Finals number) (Some bytes)) newest half is = elim is.1 [
    | inl bad ↦ (bad.0.0, subst (λ (e : Event). Had past e) bad.0.1 (had_newest past event before newest), bad.0.2)
    | inr fault ↦
        let gave = fault.2.given in
        (gave.0, subst (λ (n : ℕ). Had past (get_of (keys.Finals n) (gots.Some gave.0))) (sym is.0) (subst (λ (e : Event). Had past e) gave.1 (had_newest past event before newest)), gave.2)
  ]
  finals_shown body block config event past before (BadRow (keys.View number) (Some bytes)) newest half is =
      let all = within_next past event before newest in
      let shown = halfway_gave body block config before half in
      (shown.0, subst (λ (n : ℕ). Had past (get_of (keys.View n) (gots.Some shown.0))) (sym is.0) (all _ shown.1), shown.2 ∙ sym is.1)
  finals_shown body block config event past before cause newest half is = absurd is

  refresh_shown : (refresh : RefreshState) (event : Event) (past before : List Event) (cause : Cause) → past ≡ event ∷ before → SoundRefresh accepts from refresh chain before
      → IsRefreshRefused accepts chain refresh event cause → IsShown past cause
  refresh_shown AtView event past before cause newest sound is = view_shown event past before cause newest is
  refresh_shown (AtFinals body block config) event past before cause newest sound is = finals_shown body block config event past before cause newest sound is
  refresh_shown AtEnd event past before cause newest sound is = absurd is

  below_shown : (ask : Ask) (cause : Cause) (past : List Event) → WasBelowRefused accepts ask from chain cause past → IsShown past cause
  below_shown (NewLedger entry) cause past was = absurd was
  below_shown (AppendEntry entry) cause past was =
      or_memory (IsRowRefused (handle_of entry) (height_below entry) was.0) past cause (row_shown (handle_of entry) (height_below entry) was.0 past was.1 cause was.2) was.4
  below_shown (ReadAt handle height) cause past was = absurd was

  own_shown : (ask : Ask) (cause : Cause) (past : List Event) → WasRowRefused accepts ask from chain cause past → IsShown past cause
  own_shown (NewLedger entry) cause past was = or_memory (IsTakenRefused was.0 was.1) past cause (taken_shown (NewLedger entry) was.0 was.1 past was.2 cause was.3 was.4) was.5
  own_shown (AppendEntry entry) cause past was = or_memory (IsTakenRefused was.0 was.1) past cause (taken_shown (AppendEntry entry) was.0 was.1 past was.2 cause was.3 was.4) was.5
  own_shown (ReadAt handle height) cause past was = or_memory (IsRowRefused handle height was.0) past cause (row_shown handle height was.0 past was.1 cause was.2) was.4

  pub refusal_shown : ((a : Accepts) (settling : Settling) (calls : List Event) (c : Cause) → IsSettleRefused a settling calls c → IsShown calls c)
      → (ask : Ask) (cause : Cause) (past : List Event) → WasRefused accepts ask from chain cause past → IsShown past cause
  refusal_shown law ask cause past (inl was) =
      or_memory (IsRefreshRefused accepts chain was.0 (get_of (key_of_refresh was.0 chain) was.1)) past cause (refresh_shown was.0 (get_of (key_of_refresh was.0 chain) was.1) past was.2 cause was.3 was.4) was.5
  refusal_shown law ask cause past (inr (inl was)) = below_shown ask cause past was
  refusal_shown law ask cause past (inr (inr (inl was))) = or_memory (IsPutRefused was.1) past cause (put_shown was.0 was.1 past was.2.0 cause was.2.1) was.3
  refusal_shown law ask cause past (inr (inr (inr (inl was)))) = own_shown ask cause past was
  refusal_shown law ask cause past (inr (inr (inr (inr was)))) =
      or_memory (IsSettleRefused accepts (settling_of chain.configs was.0.row) was.2.calls) past cause
      (λ is. shown_more was.2.calls past cause (calls_within past was.2.calls was.2.before was.2.split) (law accepts (settling_of chain.configs was.0.row) was.2.calls cause is)) was.3

  -- an answer that is a refusal says what shows it
  pub said_shown : ((a : Accepts) (settling : Settling) (calls : List Event) (c : Cause) → IsSettleRefused a settling calls c → IsShown calls c)
      → (ask : Ask) (past : List Event) (cause : Cause) → Says accepts ask from chain past (Err cause) → IsShown past cause
  said_shown law ask past (Conflict standing) says = tt
  said_shown law ask past cause says = refusal_shown law ask cause past says
