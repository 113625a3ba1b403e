-- What follows from a latest read's own calls, and from what its answer says.
use Rattle.std.proofs.Common.{◌≡◌, ◌⊎◌, inl, inr, ℕ, List, [], ◌∷◌, ◌++◌, length, Option, Some, None, sym, ◌∙◌, subst, ap}
use Rattle.statement.specs.declared.member.Member.{Member}
use Rattle.statement.specs.declared.view_block.ViewBlock.{ViewBlock}
use Rattle.port.specs.declared.key.Key.{Key}
use Rattle.port.specs.declared.key.Key.TheVariants as keys
use Rattle.port.specs.Call.{Call, Append, Latest}
use Rattle.port.specs.Cause.{Cause, Gap, NoQuorum, ViewMoved, StoreFault, BadRow, Contended, Full, NoMemory, MemberCause, IsMemberShown, IsShown}
use Rattle.port.specs.Heard.{Heard}
use Rattle.port.specs.Store.{StoreCall, StoreAnswer}
use Rattle.port.specs.Trace.{Event, AtStore, AtLink, Had}
use Rattle.view_ledger.specs.Receipts.{Accepts}
use Rattle.view_ledger.specs.Views.{ViewChain}
use Rattle.op_parts.specs.Refresh.{GaveView, GaveFinals}
use Rattle.op_parts.specs.RefreshSays.{IsRefusedAtView, IsRefusedAtFinals}
use Rattle.op_latest.specs.LatestAsked.{Asking}
use Rattle.op_latest.specs.LatestOwn.{GaveRow, IsOwnGet, IsOwnCall, OwnCalls}
use Rattle.op_latest.specs.LatestSays.{IsIdIn, GaveNewest, IsRefusedInRefresh, IsRefused}
use Rattle.op_latest.proofs.LatestLists.{all_more}

module _ (accepts : Accepts) (ask : Asking) where
  pub each_own : (newer : List Event) (event : Event) (older past : List Event) → OwnCalls accepts ask past → past ≡ newer ++ event ∷ older → IsOwnCall accepts ask older event
  each_own newer event older past own is = by newer (subst (OwnCalls accepts ask) is own)
    where
      by : (n : List Event) → OwnCalls accepts ask (n ++ event ∷ older) → IsOwnCall accepts ask older event
      by [] own = own.0
      by (first ∷ n) own = by n own.1

  pub store_own : (past : List Event) (call : StoreCall) (answer : StoreAnswer) → OwnCalls accepts ask past → Had past (AtStore call answer) → IsOwnGet ask.claim.handle call
  store_own [] call answer own had = absurd had
  store_own (event ∷ past) call answer own (inl is) = subst (IsOwnCall accepts ask past) is own.0
  store_own (event ∷ past) call answer own (inr had) = store_own past call answer own.1 had

  -- what is sent to a member
  abbrev Sends : List Event → ℕ → Call → Type 0
  Sends past id call =
      IsIdIn ask id × ((call ≡ Latest ask.claim.handle ask.claim.nonce)
      ⊎ ((prev entry : List ℕ) × (height : ℕ) × (call ≡ Append ask.claim.handle prev entry height) × GaveRow past ask.claim.handle prev entry height))

  sends_by : (past : List Event) (id : ℕ) (call : Call) (heard : Heard) → IsOwnCall accepts ask past (AtLink id call heard) → Sends past id call
  sends_by past id (Latest handle nonce) heard own =
      (own.0, inl (ap (λ (h : List ℕ). Latest h nonce) own.1 ∙ ap (λ (n : List ℕ). Latest ask.claim.handle n) own.2))
  sends_by past id (Append handle prev entry height) heard own =
      (own.0, inr (prev, entry, height, ap (λ (h : List ℕ). Append h prev entry height) own.1, subst (λ (h : List ℕ). GaveRow past h prev entry height) own.1 own.2))
  sends_by past id call heard own = absurd own

  gave_more : (event : Event) (past : List Event) (handle prev entry : List ℕ) (height : ℕ) → GaveRow past handle prev entry height → GaveRow (event ∷ past) handle prev entry height
  gave_more event past handle prev entry height gave = (gave.0, gave.1, inr gave.2, gave.3, gave.4, gave.5)

  sends_more : (event : Event) (past : List Event) (id : ℕ) (call : Call) → Sends past id call → Sends (event ∷ past) id call
  sends_more event past id call (member, inl read) = (member, inl read)
  sends_more event past id call (member, inr (prev, entry, height, is, gave)) =
      (member, inr (prev, entry, height, is, gave_more event past ask.claim.handle prev entry height gave))

  pub link_own : (past : List Event) (id : ℕ) (call : Call) (heard : Heard) → OwnCalls accepts ask past → Had past (AtLink id call heard) → Sends past id call
  link_own [] id call heard own had = absurd had
  link_own (event ∷ past) id call heard own (inl is) = sends_more event past id call (sends_by past id call heard (subst (IsOwnCall accepts ask past) is own.0))
  link_own (event ∷ past) id call heard own (inr had) = sends_more event past id call (link_own past id call heard own.1 had)

  view_given : (number : ℕ) (body : List ℕ) (event : Event) (past : List Event) → GaveView number body event → IsShown (event ∷ past) (BadRow (keys.View number) (Some body))
  view_given number body event past gave = (gave.0, inl gave.1, gave.2)

  newest_given : (chain : ViewChain) (body : List ℕ) (block : ViewBlock) (config : List Member) (event : Event) (past : List Event) → GaveNewest chain body block config past
      → IsShown (event ∷ past) (BadRow (keys.View (length chain.configs)) (Some body))
  newest_given chain body block config event [] gave = absurd gave
  newest_given chain body block config event (first ∷ past) gave = let v = view_given (length chain.configs) body first past gave.0 in (v.0, inr v.1, v.2)

  finals_given : (number : ℕ) (bytes : List ℕ) (event : Event) (past : List Event) → GaveFinals number bytes event → IsShown (event ∷ past) (BadRow (keys.Finals number) (Some bytes))
  finals_given number bytes event past gave = (gave.0, inl gave.1, gave.2)

  at_view : (number : ℕ) (event : Event) (past : List Event) (key : Key) (bytes : Option (List ℕ)) → IsRefusedAtView number event (BadRow key bytes) → IsShown (event ∷ past) (BadRow key bytes)
  at_view number event past key None is = absurd is
  at_view number event past key (Some bytes) is =
      subst (λ (k : Key). IsShown (event ∷ past) (BadRow k (Some bytes))) (sym is.0) (view_given number bytes event past is.1.0)

  at_finals : (chain : ViewChain) (body : List ℕ) (block : ViewBlock) (config : List Member) (event : Event) (past : List Event) (key : Key) (bytes : Option (List ℕ))
      → GaveNewest chain body block config past → IsRefusedAtFinals accepts chain body block config event (BadRow key bytes) → IsShown (event ∷ past) (BadRow key bytes)
  at_finals chain body block config event past (keys.Finals number) None gave is = (inl is.1, tt)
  at_finals chain body block config event past (keys.Finals number) (Some bytes) gave (same, inl bad) = finals_given number bytes event past bad.0
  at_finals chain body block config event past (keys.Finals number) (Some bytes) gave (same, inr refused) =
      subst (λ (n : ℕ). IsShown (event ∷ past) (BadRow (keys.Finals n) (Some bytes))) (sym same) (finals_given (length chain.configs) bytes event past refused.2.given)
  at_finals chain body block config event past (keys.View number) (Some bytes) gave is =
      subst (λ (n : ℕ). IsShown (event ∷ past) (BadRow (keys.View n) (Some bytes))) (sym is.0)
      (subst (λ (b : List ℕ). IsShown (event ∷ past) (BadRow (keys.View (length chain.configs)) (Some b))) (sym is.1) (newest_given chain body block config event past gave))
  at_finals chain body block config event past key bytes gave is = absurd is

  in_refresh : (chain : ViewChain) (past : List Event) (key : Key) (bytes : Option (List ℕ)) → IsRefusedInRefresh accepts chain past (BadRow key bytes) → IsShown past (BadRow key bytes)
  in_refresh chain [] key bytes is = absurd is
  in_refresh chain (event ∷ past) key bytes (inl is) = at_view (length chain.configs) event past key bytes is
  in_refresh chain (event ∷ past) key bytes (inr (body, block, config, gave, is)) = at_finals chain body block config event past key bytes gave is

  -- each cause is shown
  pub shown : (chain : ViewChain) (past : List Event) (cause : Cause) → IsRefused accepts ask chain past cause → IsShown past cause
  shown chain past StoreFault is = is
  shown chain past (Gap handle missing) is = is.1
  shown chain past (BadRow (keys.Row handle height) (Some bytes)) is = is.1
  shown chain past (BadRow (keys.Row handle height) None) is = absurd is
  shown chain past (BadRow (keys.View number) bytes) is = in_refresh chain past (keys.View number) bytes is
  shown chain past (BadRow (keys.Finals number) bytes) is = in_refresh chain past (keys.Finals number) bytes is
  shown chain past (ViewMoved from id statement sig) is = is.1
  shown chain past (Full id) is = is.1
  shown chain past (Contended id first later) is = (is.1, is.3)
  shown chain past (NoQuorum need reasons) is =
      all_more (λ (r : ℕ × MemberCause). IsIdIn ask r.0 × IsMemberShown past r.0 r.1) (λ (r : ℕ × MemberCause). IsMemberShown past r.0 r.1) (λ r one. one.1) reasons is.2
  shown chain past NoMemory is = tt
  shown chain past cause is = absurd is
