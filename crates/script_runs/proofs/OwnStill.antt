-- No operation puts anything of what ends a view, and none but the setting up of view 0 tells endorsers to begin.
use Rattle.std.proofs.Common.{◌≡◌, inl, inr, ℕ, List, [], ◌∷◌, sym, subst}
use Rattle.statement.specs.declared.member.Member.{Member}
use Rattle.port.specs.declared.key.Key.TheVariants as keys
use Rattle.port.specs.Call.{Initialize, Activate, Append, Latest, Finalize, Show}
use Rattle.port.specs.Store.{StoreAnswer, StoreCall, PutNew, Get, Attach}
use Rattle.port.specs.Trace.{Event, AtStore, AtLink}
use Rattle.view_ledger.specs.Views.{ViewChain, tail_at}
use Rattle.view_ledger.specs.Receipts.{Accepts}
use Rattle.settle.specs.Laws.{IsOwnCall as IsSettleCall}
use Rattle.settle.specs.Settling.{Settling}
use Rattle.op_entry.specs.Ask.{Ask, NewLedger, AppendEntry, ReadAt}
use Rattle.op_entry.specs.Laws.{IsBelowGet, IsOwnCall as IsEntryCall, IsOwnPut, IsRefreshGet, OwnCalls as EntryCalls}
use Rattle.op_latest.specs.LatestAsked.{Asking}
use Rattle.op_latest.specs.LatestOwn.{IsOwnCall as IsLatestCall, OwnCalls as LatestCalls}
use Rattle.op_reconf.specs.OwnCalls.{IsOwnCall as IsFirstCall, OwnCalls as FirstCalls}
use Rattle.coordinator.specs.Views.{OwnGets}
use Rattle.script_runs.proofs.Still.{AreStill, BeginsIn, IsStill, all_had}

module _ (view : List ℕ) where
  still_at : (event other : Event) → event ≡ other → IsStill view other → IsStill view event
  still_at event other is still = subst (IsStill view) (sym is) still

  refresh_still : (event : Event) → IsRefreshGet event → IsStill view event
  refresh_still event (number, got, inl is) = still_at event _ is tt
  refresh_still event (number, got, inr is) = still_at event _ is tt

  below_still : (ask : Ask) (event : Event) → IsBelowGet ask event → IsStill view event
  below_still (NewLedger entry) event own = absurd own
  below_still (AppendEntry entry) event (got, is) = still_at event _ is tt
  below_still (ReadAt handle height) event own = absurd own

  put_still : (ask : Ask) (past : List Event) (event : Event) → IsOwnPut ask past event → IsStill view event
  put_still (NewLedger entry) past event (tail, put, is, below) = still_at event _ is tt
  put_still (AppendEntry entry) past event (tail, put, is, below) = still_at event _ is tt
  put_still (ReadAt handle height) past event own = absurd own

  settle_still : (accepts : Accepts) (settling : Settling) (past : List Event) (event : Event) → IsSettleCall accepts settling past event → IsStill view event
  settle_still accepts settling past (AtStore (PutNew (keys.Row handle height) body) answer) own = tt
  settle_still accepts settling past (AtStore (PutNew (keys.View number) body) answer) own = tt
  settle_still accepts settling past (AtStore (PutNew (keys.Finals number) body) answer) own = own
  settle_still accepts settling past (AtStore (Get key) answer) own = tt
  settle_still accepts settling past (AtStore (Attach key bytes) answer) own = tt
  settle_still accepts settling past (AtLink id call heard) (member, (block, row, is)) = subst (BeginsIn view) (sym is) tt

  entry_call_still : (accepts : Accepts) (ask : Ask) (configs : List (List Member)) (past : List Event) (event : Event) → IsEntryCall accepts ask configs past event → IsStill view event
  entry_call_still accepts ask configs past event (inl own) = refresh_still event own
  entry_call_still accepts ask configs past event (inr (inl own)) = below_still ask event own
  entry_call_still accepts ask configs past event (inr (inr (inl own))) = put_still ask past event own
  entry_call_still accepts ask configs past event (inr (inr (inr (inl (got, is))))) = still_at event _ is tt
  entry_call_still accepts ask configs past event (inr (inr (inr (inr (row, calls, before, split, at, known, own))))) = settle_still accepts _ calls event own

  pub entry_still : (accepts : Accepts) (ask : Ask) (configs : List (List Member)) (events : List Event) → EntryCalls accepts ask configs events → AreStill view events
  entry_still accepts ask configs events own = all_had (IsStill view) events (λ event had. entry_call_still accepts ask configs events event (own event had))

  pub views_still : (events : List Event) → OwnGets events → AreStill view events
  views_still events own = all_had (IsStill view) events (λ event had. refresh_still event (own event had))

  latest_call_still : (accepts : Accepts) (ask : Asking) (past : List Event) (event : Event) → IsLatestCall accepts ask past event → IsStill view event
  latest_call_still accepts ask past (AtStore (PutNew key body) answer) own = absurd own
  latest_call_still accepts ask past (AtStore (Get key) answer) own = tt
  latest_call_still accepts ask past (AtStore (Attach key bytes) answer) own = absurd own
  latest_call_still accepts ask past (AtLink id (Initialize block config map) heard) own = tt
  latest_call_still accepts ask past (AtLink id (Activate other proof) heard) own = absurd own
  latest_call_still accepts ask past (AtLink id (Append handle prev entry height) heard) own = tt
  latest_call_still accepts ask past (AtLink id (Latest handle nonce) heard) own = tt
  latest_call_still accepts ask past (AtLink id (Finalize config number) heard) own = tt
  latest_call_still accepts ask past (AtLink id (Show handle) heard) own = tt

  pub latest_still : (accepts : Accepts) (ask : Asking) (events : List Event) → LatestCalls accepts ask events → AreStill view events
  latest_still accepts ask [] own = tt
  latest_still accepts ask (event ∷ past) own = (latest_call_still accepts ask past event own.0, latest_still accepts ask past own.1)

  store_still : (call other : StoreCall) (answer : StoreAnswer) → call ≡ other → IsStill view (AtStore other answer) → IsStill view (AtStore call answer)
  store_still call other answer is still = subst (λ (c : StoreCall). IsStill view (AtStore c answer)) (sym is) still

  module _ (from : ViewChain) (is : tail_at from.configs 0 ≡ view) where
    first_call_still : (past : List Event) (event : Event) → IsFirstCall from past event → IsStill view event
    first_call_still past (AtStore call answer) (inl own) = store_still call _ answer own.0 tt
    first_call_still past (AtStore call answer) (inr own) = store_still call _ answer own.0 tt
    first_call_still past (AtLink id call heard) (member, inl own) = subst (BeginsIn view) (sym own.0) tt
    first_call_still past (AtLink id call heard) (member, inr own) = subst (BeginsIn view) (sym own.0) is

    pub first_still : (events : List Event) → FirstCalls from events → AreStill view events
    first_still [] own = tt
    first_still (event ∷ past) own = (first_call_still past event own.0, first_still past own.1)
