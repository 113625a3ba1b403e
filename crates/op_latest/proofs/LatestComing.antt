-- To which stage the votes lead.
use Rattle.std.proofs.Common.{◌≡◌, inl, inr, ℕ, zero, suc, ◌<◌, ◌≤◌, ◌==◌, Bool, true, false, ltb, if◌then◌else◌, List, [], ◌∷◌, length, map, slice_get, Option, Some, None, refl, sym, ◌∙◌, subst, ap, arith}
use Rattle.std.specs.Prelude.{Ok, MatchOption}
use Rattle.std.proofs.lemmas.Bool.{cases_Bool, ltb-true, ltb-false}
use Rattle.std.proofs.lemmas.Option.{slice_get_within}
use Rattle.statement.specs.declared.member.Member.{Member}
use Rattle.statement.specs.Config.{ids, IsConfig}
use Rattle.statement.specs.Mark.{Content as Mark}
use Rattle.statement.specs.Receipt.{Receipt}
use Rattle.port.specs.Answer.{Signed}
use Rattle.port.specs.Heard.{Answered}
use Rattle.port.specs.Trace.{Event, Had}
use Rattle.view_ledger.specs.Receipts.{Accepts}
use Rattle.view_ledger.specs.Views.{ViewChain, newest_config}
use Rattle.op_latest.specs.declared.latest_head.LatestHead.{LatestHead}
use Rattle.op_latest.specs.LatestAsked.{LatestAsk, Asking, asking_of, latest_to, AreAsked, AreAskedAgain, AreBoth, AreDone}
use Rattle.op_latest.specs.LatestJudged.{latest}
use Rattle.op_latest.specs.LatestSays.{IsAfter, IsReceipted}
use Rattle.op_latest.specs.LatestSound.{AtLive, AtStage}
use Rattle.op_latest.specs.LatestState.{Stage, Ended, Getting}
use Rattle.op_latest.specs.LatestSteps.{receipt_of, with_receipt, without_quorum, concluded, Proceeds, Decides, AsksNext}
use Rattle.op_latest.specs.LatestTurn.{IsSettledAt}
use Rattle.op_latest.specs.LatestVote.{Told, MemberVote, id_of, has_quorum, quorum_head, target}
use Rattle.op_latest.proofs.LatestBoth.{done_shown, done_ids, both_length}
use Rattle.op_latest.proofs.LatestLists.{Within, newer, all_more, some_at}
use Rattle.op_latest.proofs.LatestRefused.{refused}
use Rattle.op_latest.proofs.LatestShown.{AheadLaw, MemberLaw, VotesShown, votes_more, same_later}
use Rattle.op_latest.proofs.LatestTargets.{told_below, found_holds}
use Rattle.op_latest.proofs.LatestVerdict.{receipted}

-- the receipt's marks are answers of all these calls
pub receipted_more : (accepts : Accepts) (ask : Asking) (some all : List Event) (head : LatestHead) (receipt : Receipt) → Within some all
    → IsReceipted accepts ask some head receipt → IsReceipted accepts ask all head receipt
receipted_more accepts ask some all head receipt more is = record {
  states = is.states;
  accepted = is.accepted;
  marks = all_more (λ (m : Mark). Had some (latest_to ask m.id (Answered (Signed (latest ask.claim head.tail head.count) m.sig))))
      (λ (m : Mark). Had all (latest_to ask m.id (Answered (Signed (latest ask.claim head.tail head.count) m.sig)))) (λ m had. more _ had) receipt.marks is.marks;
  head_is = is.head_is;
}

-- members that aren't to be asked
skip : (accepts : Accepts) (ask : Asking) (head : LatestHead) (firsts votes : List MemberVote) (calls : List Event) (n m : ℕ)
    → AreAskedAgain accepts ask head firsts n votes calls → n ≤ m → ((k : ℕ) → n ≤ k → k < m → IsSettledAt head votes k) → AreAskedAgain accepts ask head firsts m votes calls
skip accepts ask head firsts votes calls n zero again le settled =
    let same : n ≡ 0 = omega (arith, le) in subst (λ (k : ℕ). AreAskedAgain accepts ask head firsts k votes calls) same again
skip accepts ask head firsts votes calls n (suc m) again le settled =
    elim (cases_Bool (ltb n (suc m))) [
      | inl less ↦
          let below : n ≤ m = omega (arith, ltb-true n (suc m) less) in
          inl (skip accepts ask head firsts votes calls n m again below (λ k a b. settled k a (omega (arith, b))), settled m below (omega arith))
      | inr not_less ↦
          let same : n ≡ suc m = omega (arith, ltb-false n (suc m) not_less, le) in
          subst (λ (k : ℕ). AreAskedAgain accepts ask head firsts k votes calls) same again
    ]

skip_both : (accepts : Accepts) (ask : Asking) (head : LatestHead) (votes : List MemberVote) (calls : List Event) (n m : ℕ)
    → AreBoth accepts ask head n votes calls → n ≤ m → ((k : ℕ) → n ≤ k → k < m → IsSettledAt head votes k) → AreBoth accepts ask head m votes calls
skip_both accepts ask head votes calls n m both le settled = record {
  firsts = both.firsts;
  later = both.later;
  earlier = both.earlier;
  split = both.split;
  first = both.first;
  again = skip accepts ask head both.firsts votes both.later n m both.again le settled;
}

module _ (by_ahead : AheadLaw) (by_member : MemberLaw) (accepts : Accepts) (ask : LatestAsk) (from chain : ViewChain) (event : Event) (past : List Event)
    (live : (stage : Stage) × AtLive accepts ask from chain stage past) (config : IsConfig (newest_config chain.configs)) where
  abbrev Asked : Asking
  Asked = asking_of ask chain

  abbrev Comes : Stage → Type 0
  Comes stage = AtStage accepts ask from chain stage (event ∷ past)

  abbrev After : List Event → Type 0
  After calls = IsAfter accepts from chain (event ∷ past) calls

  -- nobody is to be asked any more
  concludes : (head : LatestHead) (votes : List MemberVote) (calls : List Event) → AreDone accepts Asked head votes calls → After calls → Comes (concluded Asked.claim chain head votes)
  concludes head votes calls done after = by (has_quorum Asked.members votes head) refl
    where
      inside : VotesShown accepts Asked calls votes
      inside = done_shown accepts Asked by_ahead by_member head votes calls done

      more : Within calls (event ∷ past)
      more = subst (Within calls) (sym after.split) (newer calls after.fresh)

      shown : VotesShown accepts Asked (event ∷ past) votes
      shown = votes_more accepts Asked calls (event ∷ past) votes more inside

      all : map id_of votes ≡ ids Asked.members
      all = done_ids accepts Asked head votes calls done

      wins : (b : Bool) → (head.count == 0) ≡ b → has_quorum Asked.members votes head ≡ true
          → Comes (if b then Ended (Ok (record { row = None; receipt = receipt_of Asked.claim head votes })) else Getting head (receipt_of Asked.claim head votes))
      wins true none enough = (
        live,
        (
          head,
          receipted accepts Asked (event ∷ past) head votes config all shown enough,
          record { votes = votes; newer = []; calls = calls; older = after.fresh; split = after.split; done = done; is = refl },
          zero_of head.count none,
        ),
        inr (inr (inr (inl (record {
          head = head;
          votes = votes;
          calls = calls;
          after = after;
          done = done;
          is = rw (enough, none) refl;
        })))),
      )
        where
          zero_of : (n : ℕ) → (n == 0) ≡ true → n ≡ 0
          zero_of n e = grind (arith, e)
      wins false some enough = (calls, after, (votes, done, refl, receipted accepts Asked calls head votes config all inside enough))

      both_of : has_quorum Asked.members votes head ≡ false → AreDone accepts Asked head votes calls → AreBoth accepts Asked head (length Asked.members) votes calls
      both_of few (inl one) = absurd (cc (sym few ∙ found_holds (has_quorum Asked.members votes) _ head one.2))
      both_of few (inr both) = both

      by : (b : Bool) → has_quorum Asked.members votes head ≡ b → Comes (if b then with_receipt head (receipt_of Asked.claim head votes) else without_quorum chain head votes)
      by true enough = wins (head.count == 0) refl enough
      by false few = (
        live,
        refused accepts Asked (event ∷ past) chain _ (record {
          head = head;
          votes = votes;
          calls = calls;
          fresh = after.fresh;
          split = after.split;
          both = both_of few done;
          few = few;
          is = refl;
        }) shown,
        inr (inr (inr (inl (record {
          head = head;
          votes = votes;
          calls = calls;
          after = after;
          done = done;
          is = rw few refl;
        })))),
      )

  -- the second asking, from a place on
  pub proceeds : (head : LatestHead) (votes : List MemberVote) (calls : List Event) (place : ℕ) (stage : Stage) → AreBoth accepts Asked head place votes calls
      → place ≤ length Asked.members → After calls → Proceeds Asked.claim chain head votes place stage → Comes stage
  proceeds head votes calls place stage both le after (inl (settled, is)) =
      let all : length votes ≡ length Asked.members = both_length accepts Asked head place votes calls both in
      subst Comes (sym is)
      (concludes head votes calls
      (inr (skip_both accepts Asked head votes calls place (length Asked.members) both le (λ k a b. settled k a (omega (arith, b, all))))) after)
  proceeds head votes calls place stage both le after (inr (next, count, above, other, settled, inl (member, catch_up, less, is, at, sound))) =
      subst Comes (sym is) (
        calls,
        after,
        (
          member,
          count,
          [],
          record {
            before = calls;
            split = refl;
            both = skip_both accepts Asked head votes calls place next both above settled;
            other = record { is = at; id = other.id; tail = other.tail; sig = other.sig; at = other.at; other = other.other };
          },
          less,
          sound,
        ),
      )
  proceeds head votes calls place stage both le after (inr (next, count, above, other, settled, inr (enough, is))) =
      subst Comes (sym is) (
        calls,
        after,
        (
          found.0,
          count,
          [],
          record {
            before = calls;
            split = refl;
            both = skip_both accepts Asked head votes calls place next both above settled;
            other = record { is = found.1; id = other.id; tail = other.tail; sig = other.sig; at = other.at; other = other.other };
          },
          inl (same, refl),
        ),
      )
    where
      all : length votes ≡ length Asked.members
      all = both_length accepts Asked head place votes calls both

      there : next < length votes
      there = slice_get_within votes next (record { id = other.id; vote = Told other.tail count other.sig }) other.at

      found : (x : Member) × (slice_get Asked.members next ≡ Some x)
      found = some_at Asked.members next (omega (arith, there, all))

      first_at : slice_get both.firsts next ≡ Some (record { id = other.id; vote = Told other.tail count other.sig })
      first_at = sym (same_later accepts Asked head both.firsts place votes both.later both.again next above) ∙ other.at

      same : count ≡ head.count
      same =
          let most : count ≤ (target both.firsts).count = told_below both.firsts next other.id count other.tail other.sig first_at in
          let is_target : head.count ≡ (target both.firsts).count = ap (λ (h : LatestHead). h.count) both.first.most in
          omega (arith, most, is_target, enough)

  -- after the votes of all members
  decides : (votes : List MemberVote) (calls : List Event) (stage : Stage) → AreAsked accepts Asked votes calls → length votes ≡ length Asked.members
      → After calls → Decides Asked.claim chain votes stage → Comes stage
  decides votes calls stage asked all after is = by (quorum_head Asked.members votes) refl is
    where
      by : (o : Option LatestHead) → quorum_head Asked.members votes ≡ o
          → MatchOption o (Proceeds Asked.claim chain (target votes) votes 0 stage) (λ head. stage ≡ concluded Asked.claim chain head votes) → Comes stage
      by (Some head) found is = subst Comes (sym is) (concludes head votes calls (inl (asked, all, found)) after)
      by None found is =
          proceeds (target votes) votes calls 0 stage (record {
            firsts = votes;
            later = [];
            earlier = calls;
            split = refl;
            first = record { asked = asked; all = all; none = found; most = refl };
            again = (refl, refl);
          }) (omega arith) after is

  -- after some votes of the first asking
  pub asks_next : (votes : List MemberVote) (calls : List Event) (stage : Stage) → AreAsked accepts Asked votes calls → length votes ≤ length Asked.members
      → After calls → AsksNext Asked.claim chain votes stage → Comes stage
  asks_next votes calls stage asked le after (inl is) = subst Comes (sym is.1) (calls, after, asked)
  asks_next votes calls stage asked le after (inr is) = decides votes calls stage asked (omega (arith, le, is.0)) after is.1
