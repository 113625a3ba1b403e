-- A latest read's own calls.
use Rattle.std.proofs.Common.{◌≡◌, ◌⊎◌, inl, inr, ℕ, ◌<◌, List, [], ◌∷◌, ◌++◌, length, map, slice_get, Option, Some, None, refl, sym, ◌∙◌, subst, ap, arith}
use Rattle.std.specs.Option.{option_map}
use Rattle.std.proofs.lemmas.Option.{slice_get-map}
use Rattle.statement.specs.declared.member.Member.{Member}
use Rattle.statement.specs.declared.view_block.ViewBlock.{ViewBlock}
use Rattle.statement.specs.Config.{ids, id_of as member_id, IsConfig}
use Rattle.port.specs.declared.key.Key.{Key}
use Rattle.port.specs.declared.key.Key.TheVariants as keys
use Rattle.port.specs.declared.store_answers.Got.TheVariants as gots
use Rattle.port.specs.Answer.{Answer, Signed}
use Rattle.port.specs.Call.{Call, Append, Latest}
use Rattle.port.specs.Cause.{HadAnswer, TellsCount}
use Rattle.port.specs.Heard.{Heard, Answered}
use Rattle.port.specs.Row.{Content}
use Rattle.port.specs.Store.{Get, WasGot, StoreCall, StoreAnswer}
use Rattle.port.specs.Trace.{Event, AtStore, AtLink, Had}
use Rattle.catch_up.specs.OwnCalls.{IsOwnCall as IsCatchUpCall, JustGave}
use Rattle.catch_up.specs.Told.{told}
use Rattle.view_ledger.specs.Receipts.{Accepts}
use Rattle.view_ledger.specs.Views.{ViewChain}
use Rattle.op_parts.specs.RefreshState.{RefreshState, AtView, AtFinals, AtEnd}
use Rattle.op_parts.specs.Refresh.{Grew}
use Rattle.op_parts.specs.RefreshSays.{GaveNoView}
use Rattle.op_parts.specs.RefreshSound.{Sound as SoundRefresh, IsHalfway, HasEnded}
use Rattle.op_latest.specs.declared.latest_head.LatestHead.{LatestHead}
use Rattle.op_latest.specs.LatestAsked.{Asking, IsMember, latest_to, target_of, AreAsked, HasTold, IsOtherMember, AreBoth}
use Rattle.op_latest.specs.LatestJudged.{latest}
use Rattle.op_latest.specs.LatestOwn.{IsOwnCall, OwnCalls, GaveRow}
use Rattle.op_latest.specs.LatestSays.{IsFresh, IsAfter}
use Rattle.op_latest.specs.LatestVote.{Told, MemberVote, id_of}
use Rattle.op_latest.proofs.LatestBoth.{both_ids, both_shown}
use Rattle.op_latest.proofs.LatestLists.{later, newer, split, one_of, rising_apart}
use Rattle.op_latest.proofs.LatestShown.{ReachedLaw, AheadLaw, MemberLaw, VoteShown}

module _ (accepts : Accepts) (ask : Asking) where
  got_view : (past : List Event) (number : ℕ) (answer : StoreAnswer) (event : Event) → event ≡ AtStore (Get (keys.View number)) answer → IsOwnCall accepts ask past event
  got_view past number answer event is = subst (IsOwnCall accepts ask past) (sym is) tt

  got_finals : (past : List Event) (number : ℕ) (answer : StoreAnswer) (event : Event) → event ≡ AtStore (Get (keys.Finals number)) answer → IsOwnCall accepts ask past event
  got_finals past number answer event is = subst (IsOwnCall accepts ask past) (sym is) tt

  -- a refresh's calls are own calls
  grew_own : (from chain : ViewChain) (past : List Event) → Grew accepts from past chain → OwnCalls accepts ask past
  grew_own from chain [] grew = tt
  grew_own from chain (second ∷ []) grew = absurd grew
  grew_own from chain (second ∷ first ∷ past) grew = (
    got_finals (first ∷ past) _ _ second grew.3.given.1,
    (got_view past _ _ first grew.3.view.1, grew_own from grew.0 past grew.2),
  )

  half_own : (from chain : ViewChain) (body : List ℕ) (block : ViewBlock) (config : List Member) (past : List Event) → IsHalfway accepts from body block config chain past → OwnCalls accepts ask past
  half_own from chain body block config [] half = absurd half
  half_own from chain body block config (event ∷ past) half = (got_view past _ _ event half.1.1, grew_own from chain past half.0)

  ended_own : (from chain : ViewChain) (past : List Event) → HasEnded accepts from chain past → OwnCalls accepts ask past
  ended_own from chain [] ended = absurd ended
  ended_own from chain (event ∷ past) (inl ended) = (got_view past _ _ event ended.1.1, grew_own from chain past ended.0)
  ended_own from chain (event ∷ past) (inr ended) = (
    got_finals past _ _ event ended.4.1,
    half_own from chain ended.0 ended.1 ended.2 past ended.3,
  )

  pub refresh_own : (from chain : ViewChain) (state : RefreshState) (past : List Event) → SoundRefresh accepts from state chain past → OwnCalls accepts ask past
  refresh_own from chain AtView past sound = grew_own from chain past sound
  refresh_own from chain (AtFinals body block config) past sound = half_own from chain body block config past sound
  refresh_own from chain AtEnd past sound = ended_own from chain past sound

  abbrev IsStores : Event → Type 0
  IsStores event = (call : StoreCall) × (answer : StoreAnswer) × (event ≡ AtStore call answer)

  none_over_link : (first : Event) (id : ℕ) (call : Call) (heard : Heard) → IsStores first → first ≡ AtLink id call heard → ⊥
  none_over_link first id call heard is e = absurd (cc (sym is.2 ∙ e))

  grew_stores : (from chain : ViewChain) (past : List Event) (id : ℕ) (call : Call) (heard : Heard) → Grew accepts from past chain → Had past (AtLink id call heard) → ⊥
  grew_stores from chain [] id call heard grew had = had
  grew_stores from chain (second ∷ []) id call heard grew had = grew
  grew_stores from chain (second ∷ first ∷ past) id call heard grew (inl e) = none_over_link second id call heard (_, _, grew.3.given.1) e
  grew_stores from chain (second ∷ first ∷ past) id call heard grew (inr (inl e)) = none_over_link first id call heard (_, _, grew.3.view.1) e
  grew_stores from chain (second ∷ first ∷ past) id call heard grew (inr (inr had)) = grew_stores from grew.0 past id call heard grew.2 had

  no_view : (number : ℕ) (event : Event) → GaveNoView number event → IsStores event
  no_view number event (inl is) = (_, _, is)
  no_view number event (inr is) = (_, _, is.1)

  fresh_stores : (from chain : ViewChain) (past : List Event) (id : ℕ) (call : Call) (heard : Heard) → IsFresh accepts from chain past → Had past (AtLink id call heard) → ⊥
  fresh_stores from chain [] id call heard fresh had = fresh
  fresh_stores from chain (event ∷ past) id call heard fresh (inl e) = none_over_link event id call heard (no_view (length chain.configs) event fresh.1) e
  fresh_stores from chain (event ∷ past) id call heard fresh (inr had) = grew_stores from chain past id call heard fresh.0 had

  same_link : (one other : ℕ) (call : Call) (heard more : Heard) → AtLink one call heard ≡ AtLink other call more → one ≡ other
  same_link one other call heard more e = cc e

  -- who was asked in the first asking stands at an earlier place
  asked_before : (votes : List MemberVote) (calls : List Event) (id : ℕ) (heard : Heard) → AreAsked accepts ask votes calls → Had calls (latest_to ask id heard)
      → (place : ℕ) × (member : Member) × (place < length calls) × IsMember ask place member × (member.id ≡ id)
  asked_before votes [] id heard asked had = absurd had
  asked_before votes (event ∷ past) id heard (member, more, vote, others, is, sent, judged, last, asked) (inl e) =
      (length past, member, omega arith, is, same_link member.id id _ more heard (sym sent ∙ e))
  asked_before votes (event ∷ past) id heard (member, more, vote, others, is, sent, judged, last, asked) (inr had) =
      let b = asked_before others past id heard asked had in (b.0, b.1, omega (arith, b.2), b.3, b.4)

  id_at : (place : ℕ) (member : Member) → IsMember ask place member → slice_get (ids ask.members) place ≡ Some member.id
  id_at place member is = slice_get-map member_id ask.members place ∙ ap (λ (o : Option Member). option_map member_id o) is

  -- the next member wasn't asked before
  pub not_asked : IsConfig ask.members → (from chain : ViewChain) (past calls : List Event) (votes : List MemberVote) (member : Member) → IsAfter accepts from chain past calls
      → AreAsked accepts ask votes calls → IsMember ask (length calls) member → (heard : Heard) → Had past (latest_to ask member.id heard) → ⊥
  not_asked config from chain past calls votes member after asked is heard had =
      by (split calls after.fresh (latest_to ask member.id heard) (subst (λ (p : List Event). Had p (latest_to ask member.id heard)) after.split had))
    where
      by : Had calls (latest_to ask member.id heard) ⊎ Had after.fresh (latest_to ask member.id heard) → ⊥
      by (inl earlier) =
          let b = asked_before votes calls member.id heard asked earlier in
          absurd (omega (arith, b.4, rising_apart None (ids ask.members) b.0 (length calls) b.1.id member.id config.rising b.2 (id_at b.0 b.1 b.3) (id_at (length calls) member is)))
      by (inr earlier) = fresh_stores from chain after.fresh member.id _ heard after.refreshed earlier

  -- the first read of a member
  pub first_own : IsConfig ask.members → (from chain : ViewChain) (past calls : List Event) (votes : List MemberVote) (member : Member) (heard : Heard) → IsAfter accepts from chain past calls
      → AreAsked accepts ask votes calls → IsMember ask (length calls) member → IsOwnCall accepts ask past (latest_to ask member.id heard)
  first_own config from chain past calls votes member heard after asked is =
      ((length calls, member, is, refl), refl, refl, inl (not_asked config from chain past calls votes member after asked is))

  -- a member that told another head has told its count in answer to the read
  pub told_first : AheadLaw → MemberLaw → (head : LatestHead) (place : ℕ) (votes : List MemberVote) (calls : List Event) (member : Member) (count : ℕ) → AreBoth accepts ask head place votes calls
      → IsOtherMember ask head votes place member count → (answer : Answer) × HadAnswer calls member.id answer × TellsCount answer count
  told_first by_ahead by_member head place votes calls member count both other =
      let shown = one_of (VoteShown accepts ask calls) votes place (record { id = other.id; vote = Told other.tail count other.sig }) (both_shown accepts ask by_ahead by_member head place votes calls both) other.at in
      let its_id : other.id ≡ member.id = same_id in (
        Signed (latest ask.claim other.tail count) other.sig,
        (Latest ask.claim.handle ask.claim.nonce, subst (λ (i : ℕ). Had calls (latest_to ask i (Answered (Signed (latest ask.claim other.tail count) other.sig)))) (sym shown.3 ∙ its_id) shown.4.2),
        (other.tail, (refl, refl)),
      )
    where
      there : slice_get (map id_of votes) place ≡ Some other.id
      there = slice_get-map id_of votes place ∙ ap (λ (o : Option MemberVote). option_map id_of o) other.at

      same_id : other.id ≡ member.id
      same_id =
          let both_is : Some other.id ≡ Some member.id =
          sym there ∙ ap (λ (l : List ℕ). slice_get l place) (both_ids accepts ask head place votes calls both) ∙ id_at place member other.is in
          cc both_is

  -- a member that may be asked again has told the target's count
  pub told_target : ReachedLaw → AheadLaw → MemberLaw → (head : LatestHead) (place : ℕ) (votes : List MemberVote) (before turn : List Event) (member : Member) (count : ℕ)
      → AreBoth accepts ask head place votes before → IsOtherMember ask head votes place member count → HasTold ask head member.id count turn
      → (answer : Answer) × HadAnswer (turn ++ before) member.id answer × TellsCount answer head.count
  told_target by_reached by_ahead by_member head place votes before turn member count both other (inl same) =
      let first = told_first by_ahead by_member head place votes before member count both other in (
        first.0,
        (first.1.0, later turn before _ first.1.1),
        subst (TellsCount first.0) same.0 first.2,
      )
  told_target by_reached by_ahead by_member head place votes before [] member count both other (inr caught) = absurd caught.1
  told_target by_reached by_ahead by_member head place votes before (event ∷ turn) member count both other (inr caught) =
      let reached = by_reached (target_of ask head member.id) (told member.id count turn) event turn caught.1 in
      (reached.0, (reached.1.0, newer (event ∷ turn) before _ reached.1.1), reached.2)

  -- a call of a catch-up
  gave_row : (handle : List ℕ) (height : ℕ) (turn before : List Event) (row : Content) → JustGave handle height turn row
      → GaveRow (turn ++ before) handle row.metablock.prev row.metablock.entry height
  gave_row handle height [] before row gave = absurd gave
  gave_row handle height (AtStore (Get key) (WasGot (gots.Some stored)) ∷ turn) before row gave =
      (stored, row, inl (ap (λ (k : Key). AtStore (Get k) (WasGot (gots.Some stored))) gave.0), gave.1, refl, refl)
  gave_row handle height (event ∷ turn) before row gave = absurd gave

  pub caught_own : (head : LatestHead) (place : ℕ) (member : Member) (count : ℕ) (turn before : List Event) (event : Event) → IsMember ask place member
      → IsCatchUpCall (target_of ask head member.id) count turn event → IsOwnCall accepts ask (turn ++ before) event
  caught_own head place member count turn before (AtStore (Get (keys.Row handle height)) answer) is own = own.0
  caught_own head place member count turn before (AtLink id (Append handle prev entry height) heard) is own =
      let gave = gave_row handle height turn before own.4.0 own.4.1 in (
        (place, member, is, own.0),
        own.1,
        (
          gave.0,
          gave.1,
          gave.2,
          gave.3,
          own.4.2 ∙ gave.4,
          own.4.3 ∙ gave.5,
        ),
      )
  caught_own head place member count turn before event is own = absurd own
