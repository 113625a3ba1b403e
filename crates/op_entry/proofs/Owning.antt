-- An operation makes no call but its own.
use Rattle.std.proofs.Common.{◌≡◌, ◌⊎◌, inl, inr, ℕ, true, false, List, [], ◌∷◌, Result, Ok, Err, refl, sym, subst, ap}
use Rattle.statement.specs.declared.member.Member.{Member}
use Rattle.statement.specs.declared.view_block.ViewBlock.{ViewBlock}
use Rattle.port.specs.declared.key.Key.TheVariants as keys
use Rattle.port.specs.declared.store_answers.Put.{Put}
use Rattle.port.specs.declared.store_answers.Put.TheVariants as puts
use Rattle.port.specs.declared.store_answers.Got.{Got}
use Rattle.port.specs.declared.store_answers.Got.TheVariants as gots
use Rattle.port.specs.Cause.{Cause, Conflict}
use Rattle.port.specs.Reply.{Standing}
use Rattle.chain_block.specs.declared.meta_block.MetaBlock.{MetaBlock}
use Rattle.statement.specs.Receipt.{Receipt}
use Rattle.op_entry.specs.Says.{IsTailBelow}
use Rattle.port.specs.Row.{Content}
use Rattle.port.specs.Stored.{Stored}
use Rattle.port.specs.Trace.{Event, Had}
use Rattle.view_ledger.specs.Views.{ViewChain}
use Rattle.view_ledger.specs.Receipts.{Accepts}
use Rattle.op_parts.specs.Refresh.{Grew}
use Rattle.op_parts.specs.RefreshSound.{Sound as SoundRefresh, IsHalfway, key_of as key_of_refresh}
use Rattle.op_parts.specs.RefreshState.{RefreshState, AtView, AtFinals, AtEnd}
use Rattle.settle.specs.Laws.{IsOwnCall as IsSettleCall}
use Rattle.settle.specs.Settling.{Settling}
use Rattle.settle.specs.Sound.{Sound as SoundSettle}
use Rattle.settle.specs.State.{State as Settle}
use Rattle.op_entry.specs.declared.found.Found.{Found}
use Rattle.op_entry.specs.Ask.{Ask, NewLedger, AppendEntry, ReadAt}
use Rattle.op_entry.specs.OwnRow.{key_of, put_of, get_of, get_below}
use Rattle.op_entry.specs.Standing.{settling_of}
use Rattle.op_entry.specs.State.{Stage, Refreshing, GettingBelow, Putting, GettingTaken, GettingAt, Settling as SettlingRow, Ended}
use Rattle.op_entry.specs.Sound.{Refreshed, HasOwnRow, WasPut, GaveRow, IsToSettle, IsSettling, Stands, IsAnswered, IsConflict, WasRefused, WasRowRefused, WasBelowRefused, IsAt, found_in}
use Rattle.op_entry.specs.Laws.{IsRefreshGet, IsBelowGet, IsOwnGet, IsOwnPut, IsOwnCall, OwnCalls}
use Rattle.op_entry.proofs.Within.{Within, within_all, within_next, parted, newest_or}
use Rattle.op_entry.proofs.Knowing.{IsOwnRow, own_row, tail_more, to_settle_knows}

-- a call before the settling
abbrev IsCallBefore : Ask → List Event → Event → Type 0
IsCallBefore ask past event = IsRefreshGet event ⊎ (IsBelowGet ask event ⊎ (IsOwnPut ask past event ⊎ IsOwnGet ask event))

abbrev AreBefore : Ask → List Event → Type 0
AreBefore ask past = (event : Event) → Had past event → IsCallBefore ask past event

put_more : (ask : Ask) (some all : List Event) (event : Event) → Within some all → IsOwnPut ask some event → IsOwnPut ask all event
put_more (NewLedger entry) some all event more own = (own.0, own.1, own.2, tail_more (NewLedger entry) some all own.0 more own.3)
put_more (AppendEntry entry) some all event more own = (own.0, own.1, own.2, tail_more (AppendEntry entry) some all own.0 more own.3)
put_more (ReadAt handle height) some all event more own = own

before_more : (ask : Ask) (some all : List Event) (event : Event) → Within some all → IsCallBefore ask some event → IsCallBefore ask all event
before_more ask some all event more (inl own) = inl own
before_more ask some all event more (inr (inl own)) = inr (inl own)
before_more ask some all event more (inr (inr (inl own))) = inr (inr (inl (put_more ask some all event more own)))
before_more ask some all event more (inr (inr (inr own))) = inr (inr (inr own))

-- one more call
and_newest : (ask : Ask) (past : List Event) (event : Event) (before : List Event) → past ≡ event ∷ before → IsCallBefore ask past event → AreBefore ask before → AreBefore ask past
and_newest ask past event before is own all e had = elim (newest_or past event before is e had) [
  | inl same ↦ subst (λ (x : Event). IsCallBefore ask past x) same own
  | inr h ↦ before_more ask before past e (within_next past event before is) (all e h)
]

-- the gets of a refresh
abbrev AreRefreshGets : List Event → Type 0
AreRefreshGets past = (event : Event) → Had past event → IsRefreshGet event

and_get : (past : List Event) (event : Event) → IsRefreshGet event → AreRefreshGets past → AreRefreshGets (event ∷ past)
and_get past event own all e (inl same) = subst IsRefreshGet same own
and_get past event own all e (inr had) = all e had

view_get : (number : ℕ) (event : Event) (got : Got) → event ≡ get_of (keys.View number) got → IsRefreshGet event
view_get number event got is = (number, got, inl is)

finals_get : (number : ℕ) (event : Event) (got : Got) → event ≡ get_of (keys.Finals number) got → IsRefreshGet event
finals_get number event got is = (number, got, inr is)

grew_gets : (accepts : Accepts) (from chain : ViewChain) (past : List Event) → Grew accepts from past chain → AreRefreshGets past
grew_gets accepts from chain [] grew = λ event had. absurd had
grew_gets accepts from chain (second ∷ []) grew = absurd grew
grew_gets accepts from chain (second ∷ first ∷ past) grew =
    let next = grew.3 in
    and_get (first ∷ past) second (finals_get _ second (gots.Some next.given.0) next.given.1)
    (and_get past first (view_get _ first (gots.Some next.view.0) next.view.1) (grew_gets accepts from grew.0 past grew.2))

halfway_gets : (accepts : Accepts) (from chain : ViewChain) (body : List ℕ) (block : ViewBlock) (config : List Member) (past : List Event)
    → IsHalfway accepts from body block config chain past → AreRefreshGets past
halfway_gets accepts from chain body block config [] half = absurd half
halfway_gets accepts from chain body block config (event ∷ past) half =
    and_get past event (view_get _ event (gots.Some half.1.0) half.1.1) (grew_gets accepts from chain past half.0)

refresh_gets : (accepts : Accepts) (from chain : ViewChain) (refresh : RefreshState) (past : List Event) → SoundRefresh accepts from refresh chain past → AreRefreshGets past
refresh_gets accepts from chain AtView past sound = grew_gets accepts from chain past sound
refresh_gets accepts from chain (AtFinals body block config) past sound = halfway_gets accepts from chain body block config past sound
refresh_gets accepts from chain AtEnd [] sound = absurd sound
refresh_gets accepts from chain AtEnd (event ∷ past) (inl ended) = and_get past event (view_get _ event ended.1.0 ended.1.1) (grew_gets accepts from chain past ended.0)
refresh_gets accepts from chain AtEnd (event ∷ past) (inr ended) =
    and_get past event (finals_get _ event ended.4.0 ended.4.1) (halfway_gets accepts from chain ended.0 ended.1 ended.2 past ended.3)

refreshed_gets : (accepts : Accepts) (from chain : ViewChain) (past : List Event) → Refreshed accepts from chain past → AreRefreshGets past
refreshed_gets accepts from chain past fresh =
    let newest : IsRefreshGet fresh.0 = elim fresh.4 [
      | inl none ↦ view_get _ fresh.0 gots.None none
      | inr given ↦ view_get _ fresh.0 (gots.Some given.0) given.1
    ] in
    subst AreRefreshGets (sym fresh.2) (and_get fresh.1 fresh.0 newest (grew_gets accepts from chain fresh.1 fresh.3))

-- the key of a refresh
key_gets : (refresh : RefreshState) (chain : ViewChain) (got : Got) → IsRefreshGet (get_of (key_of_refresh refresh chain) got)
key_gets AtView chain got = view_get _ _ got refl
key_gets (AtFinals body block config) chain got = finals_get _ _ got refl
key_gets AtEnd chain got = view_get _ _ got refl

module _ (accepts : Accepts) (from chain : ViewChain) where
  refreshed_own : (ask : Ask) (past : List Event) → Refreshed accepts from chain past → AreBefore ask past
  refreshed_own ask past fresh event had = inl (refreshed_gets accepts from chain past fresh event had)

  row_own : (ask : Ask) (row : Content) (past : List Event) → HasOwnRow accepts ask from chain row past → AreBefore ask past
  row_own (NewLedger entry) row past has = refreshed_own (NewLedger entry) past has.2
  row_own (AppendEntry entry) row past has =
      and_newest (AppendEntry entry) past (get_below entry (gots.Some has.0)) has.2 has.3 (inr (inl (gots.Some has.0, refl))) (refreshed_own (AppendEntry entry) has.2 has.6)
  row_own (ReadAt handle height) row past has = absurd has

  -- the put of a row that stands on a tail
  is_put : (ask : Ask) (row : Content) (put : Put) (tail : List ℕ) (past : List Event) → IsOwnRow ask tail row → IsTailBelow ask past tail → IsOwnPut ask past (put_of row put)
  is_put (NewLedger entry) row put tail past is below = (tail, put, ap (λ (r : Content). put_of r put) is, below)
  is_put (AppendEntry entry) row put tail past is below = (tail, put, ap (λ (r : Content). put_of r put) is, below)
  is_put (ReadAt handle height) row put tail past is below = absurd is

  put_own : (ask : Ask) (row : Content) (put : Put) (past : List Event) → WasPut accepts ask from chain row put past → AreBefore ask past
  put_own ask row put past was =
      let made = own_row accepts from chain ask row was.0 was.2 in
      and_newest ask past (put_of row put) was.0 was.1
      (inr (inr (inl (is_put ask row put made.0 past made.1 (tail_more ask was.0 past made.0 (within_next past (put_of row put) was.0 was.1) made.2)))))
      (row_own ask row was.0 was.2)

  -- the get of the key of an own row
  is_get : (ask : Ask) (row : Content) (got : Got) (tail : List ℕ) → IsOwnRow ask tail row → IsOwnGet ask (get_of (key_of row) got)
  is_get (NewLedger entry) row got tail is = (got, ap (λ (r : Content). get_of (key_of r) got) is)
  is_get (AppendEntry entry) row got tail is = (got, ap (λ (r : Content). get_of (key_of r) got) is)
  is_get (ReadAt handle height) row got tail is = absurd is

  taken_own : (ask : Ask) (own : Content) (got : Got) (past before : List Event) → past ≡ get_of (key_of own) got ∷ before → WasPut accepts ask from chain own puts.Taken before → AreBefore ask past
  taken_own ask own got past before is was =
      let made = own_row accepts from chain ask own was.0 was.2 in
      and_newest ask past (get_of (key_of own) got) before is (inr (inr (inr (is_get ask own got made.0 made.1)))) (put_own ask own puts.Taken before was)

  read_own : (handle : List ℕ) (height : ℕ) (got : Got) (past before : List Event) → past ≡ get_of (keys.Row handle height) got ∷ before → Refreshed accepts from chain before
      → AreBefore (ReadAt handle height) past
  read_own handle height got past before is fresh =
      and_newest (ReadAt handle height) past (get_of (keys.Row handle height) got) before is (inr (inr (inr (got, refl)))) (refreshed_own (ReadAt handle height) before fresh)

  given_own : (ask : Ask) (found : Found) (stored : Stored) (past : List Event) → GaveRow accepts ask from chain found stored past → AreBefore ask past
  given_own (NewLedger entry) found stored past gave = taken_own (NewLedger entry) gave.0 (gots.Some stored) past gave.1 gave.2 gave.5
  given_own (AppendEntry entry) found stored past gave = taken_own (AppendEntry entry) gave.0 (gots.Some stored) past gave.1 gave.2 gave.5
  given_own (ReadAt handle height) found stored past gave = read_own handle height (gots.Some stored) past gave.0 gave.1 gave.4

  to_settle_own : (ask : Ask) (found : Found) (past : List Event) → IsToSettle accepts ask from chain found past → AreBefore ask past
  to_settle_own ask found past (inl is) = put_own ask found.row puts.Done past is.1
  to_settle_own ask found past (inr is) = given_own ask found is.0 past is.1

  below_refused_own : (ask : Ask) (cause : Cause) (past : List Event) → WasBelowRefused accepts ask from chain cause past → AreBefore ask past
  below_refused_own (NewLedger entry) cause past was = absurd was
  below_refused_own (AppendEntry entry) cause past was =
      and_newest (AppendEntry entry) past (get_below entry was.0) was.1 was.2 (inr (inl (was.0, refl))) (refreshed_own (AppendEntry entry) was.1 was.3)
  below_refused_own (ReadAt handle height) cause past was = absurd was

  row_refused_own : (ask : Ask) (cause : Cause) (past : List Event) → WasRowRefused accepts ask from chain cause past → AreBefore ask past
  row_refused_own (NewLedger entry) cause past was = taken_own (NewLedger entry) was.0 was.1 past was.2 was.3 was.4
  row_refused_own (AppendEntry entry) cause past was = taken_own (AppendEntry entry) was.0 was.1 past was.2 was.3 was.4
  row_refused_own (ReadAt handle height) cause past was = read_own handle height was.0 past was.1 was.2 was.3

-- all calls are own ones
module _ (accepts : Accepts) (from chain : ViewChain)
    (settle_calls : (a : Accepts) (settling : Settling) (state : Settle) (calls : List Event) → SoundSettle a settling state calls → (event : Event) → Had calls event → IsSettleCall a settling calls event) where
  of_before : (ask : Ask) (past : List Event) (event : Event) → IsCallBefore ask past event → IsOwnCall accepts ask chain.configs past event
  of_before ask past event (inl own) = inl own
  of_before ask past event (inr (inl own)) = inr (inl own)
  of_before ask past event (inr (inr (inl own))) = inr (inr (inl own))
  of_before ask past event (inr (inr (inr own))) = inr (inr (inr (inl own)))

  all_before : (ask : Ask) (past : List Event) → AreBefore ask past → OwnCalls accepts ask chain.configs past
  all_before ask past all event had = of_before ask past event (all event had)

  settling_own : (ask : Ask) (found : Found) (settle : Settle) (past : List Event) → IsSettling accepts ask from chain found settle past → OwnCalls accepts ask chain.configs past
  settling_own ask found settle past settling event had =
      let knows = to_settle_knows accepts from chain ask found settling.before settling.began in
      elim (parted past settling.calls settling.before settling.split event had) [
        | inl new ↦ inr (inr (inr (inr (
          found.row,
          settling.calls,
          settling.before,
          settling.split,
          knows.at,
          knows.known,
          settle_calls accepts (settling_of chain.configs found.row) settle settling.calls settling.sound event new,
        ))))
        | inr old ↦ of_before ask past event
            (before_more ask settling.before past event (within_all past settling.calls settling.before settling.split) (to_settle_own accepts from chain ask found settling.before settling.began event old))
      ]

  stands_own : (ask : Ask) (found : Found) (blocks : List MetaBlock) (receipt : Receipt) (past : List Event) → Stands accepts ask from chain found blocks receipt past → OwnCalls accepts ask chain.configs past
  stands_own ask found blocks receipt past (inl is) = all_before ask past (given_own accepts from chain ask found is.1.stored past is.1.given)
  stands_own ask found blocks receipt past (inr was) = settling_own ask found was.settle past was.settling

  refused_own : (ask : Ask) (cause : Cause) (past : List Event) → WasRefused accepts ask from chain cause past → OwnCalls accepts ask chain.configs past
  refused_own ask cause past (inl was) =
      let gets : AreRefreshGets past = subst AreRefreshGets (sym was.3) (and_get was.2 (get_of (key_of_refresh was.0 chain) was.1) (key_gets was.0 chain was.1) (refresh_gets accepts from chain was.0 was.2 was.4)) in
      λ event had. inl (gets event had)
  refused_own ask cause past (inr (inl was)) = all_before ask past (below_refused_own accepts from chain ask cause past was)
  refused_own ask cause past (inr (inr (inl was))) = all_before ask past (put_own accepts from chain ask was.0 was.1 past was.2)
  refused_own ask cause past (inr (inr (inr (inl was)))) = all_before ask past (row_refused_own accepts from chain ask cause past was)
  refused_own ask cause past (inr (inr (inr (inr was)))) = settling_own ask was.0 was.1 past was.2

  conflict_own : (ask : Ask) (cause : Cause) (past : List Event) → IsConflict accepts ask from chain cause past → OwnCalls accepts ask chain.configs past
  conflict_own ask (Conflict standing) past stands = stands_own ask (found_in standing false) standing.chain standing.receipt past stands
  conflict_own ask cause past is = absurd is

  answered_own : (ask : Ask) (answer : Result Standing Cause) (past : List Event) → IsAnswered accepts ask from chain answer past → OwnCalls accepts ask chain.configs past
  answered_own ask (Ok standing) past stands = stands_own ask (found_in standing true) standing.chain standing.receipt past stands
  answered_own ask (Err cause) past (inl is) = conflict_own ask cause past is
  answered_own ask (Err cause) past (inr was) = refused_own ask cause past was

  pub all_own : (ask : Ask) (stage : Stage) (past : List Event) → IsAt accepts ask from chain stage past → OwnCalls accepts ask chain.configs past
  all_own ask (Refreshing asked refresh) past at = λ event had. inl (refresh_gets accepts from chain refresh past at.2 event had)
  all_own ask (GettingBelow entry) past at = all_before ask past (refreshed_own accepts from chain ask past at.1)
  all_own ask (Putting row) past at = all_before ask past (row_own accepts from chain ask row past at)
  all_own ask (GettingTaken row) past at = all_before ask past (put_own accepts from chain ask row puts.Taken past at)
  all_own ask (GettingAt handle height) past at = all_before ask past (refreshed_own accepts from chain ask past at.1)
  all_own ask (SettlingRow found settle) past at = settling_own ask found settle past at
  all_own ask (Ended answer) past at = answered_own ask answer past at
