-- What one more call makes of a latest read.
use Rattle.std.proofs.Common.{◌≡◌, inl, inr, ℕ, suc, ◌+◌, ◌<◌, List, [], ◌∷◌, ◌++◌, length, slice_get, Option, Some, refl, sym, ◌∙◌, subst, ap, arith, add-one}
use Rattle.std.specs.Prelude.{Result, Ok, Err, unwrap_or}
use Rattle.std.proofs.lemmas.List.{append_assoc}
use Rattle.std.proofs.lemmas.Option.{slice_get_within}
use Rattle.nim_base.specs.declared.no_memory.NoMemory.{NoMemory as MemoryWanted}
use Rattle.statement.specs.declared.member.Member.{Member}
use Rattle.statement.specs.Config.{IsConfig}
use Rattle.statement.specs.Receipt.{Receipt}
use Rattle.port.specs.declared.key.Key.{Key}
use Rattle.port.specs.declared.key.Key.TheVariants as keys
use Rattle.port.specs.declared.store_answers.Got.{Got}
use Rattle.port.specs.declared.store_answers.Got.TheVariants as gots
use Rattle.port.specs.Answer.{Answer}
use Rattle.port.specs.Cause.{Cause, StoreFault, Gap, BadRow, NoMemory, cause_of, member_cause_of, HadAnswer, TellsCount}
use Rattle.port.specs.Heard.{Heard, Answered}
use Rattle.port.specs.Reply.{LatestReply}
use Rattle.port.specs.Store.{Get, WasGot}
use Rattle.port.specs.Trace.{Event, AtStore, AtLink, Had}
use Rattle.catch_up.specs.declared.progress.Progress.{Progress}
use Rattle.catch_up.specs.declared.progress.Progress.TheVariants as caught
use Rattle.catch_up.specs.State.{State as CatchingUpState}
use Rattle.catch_up.specs.Told.{told}
use Rattle.catch_up.specs.Says.{Says, IsRowRefused}
use Rattle.catch_up.specs.Sound.{Sound as SoundCatchUp, Leads as CatchUpLeads}
use Rattle.view_ledger.specs.Receipts.{Accepts}
use Rattle.view_ledger.specs.Views.{ViewChain, newest_config, newest_tail}
use Rattle.op_latest.specs.declared.latest_claim.LatestClaim.{LatestClaim}
use Rattle.op_latest.specs.declared.latest_head.LatestHead.{LatestHead}
use Rattle.op_latest.specs.LatestAsked.{LatestAsk, Asking, asking_of, IsMember, latest_to, target_of, Ends, HasTold, AreBoth}
use Rattle.op_latest.specs.LatestJudged.{IsVote}
use Rattle.op_latest.specs.LatestOwn.{IsOwnCall}
use Rattle.op_latest.specs.LatestRow.{IsNoRowOf, TakesRow}
use Rattle.op_latest.specs.LatestSays.{IsAfter, IsReceipted, IsDecided, IsToldHeight, IsRefused, LatestSays}
use Rattle.op_latest.specs.LatestSound.{AtLive, AtStage, IsInSecond, LatestSound}
use Rattle.op_latest.specs.LatestState.{Stage, Asking as AskingFirst, CatchingUp, AskingAgain, Getting, Ended, State}
use Rattle.op_latest.specs.LatestSteps.{at, claim_of, Goes, AsksNext, Settles, settled, with_vote, TakesFirst, TakesAgain, TakesProgress}
use Rattle.op_latest.specs.LatestTurn.{Second}
use Rattle.op_latest.specs.LatestVote.{Vote, Ahead, Blamed, MemberVote}
use Rattle.op_latest.proofs.LatestBoth.{both_target}
use Rattle.op_latest.proofs.LatestComing.{receipted_more, asks_next, proceeds}
use Rattle.op_latest.proofs.LatestLists.{newer}
use Rattle.op_latest.proofs.LatestOwned.{first_own, told_first, told_target, caught_own}
use Rattle.op_latest.proofs.LatestShown.{ReachedLaw, AheadLaw, MemberLaw, asked_length}

-- the stage of a state that is put aside: memory was wanted
abbrev pub wanting : State → State
wanting state = at (Ended (Err NoMemory)) state

-- the claim of a state is what was asked
claim_is : (accepts : Accepts) (ask : LatestAsk) (from : ViewChain) (state : State) (past : List Event) → LatestSound accepts ask from state past
    → claim_of state ≡ (asking_of ask state.chain).claim
claim_is accepts ask from state past sound =
    ap (λ (h : List ℕ). record { view = newest_tail state.chain.configs; handle = h; nonce = state.nonce }) sound.handle
    ∙ ap (λ (n : List ℕ). record { view = newest_tail state.chain.configs; handle = ask.handle; nonce = n }) sound.nonce

length_and : (xs : List MemberVote) (x : MemberVote) → length (xs ++ x ∷ []) ≡ length xs + 1
length_and [] x = refl
length_and (first ∷ xs) x = omega (arith, length_and xs x)

-- the catch-up of a member goes on
abbrev IsCatching : Accepts → Asking → Second → CatchingUpState → List Event → Member → ℕ → List Event → Type 0
IsCatching accepts ask second catch_up calls member count turn =
    IsInSecond accepts ask second member count turn calls × (count < second.head.count) × SoundCatchUp (target_of ask second.head member.id) count catch_up turn

-- there is one member at a place
same_member : (members : List Member) (n : ℕ) (a b : Member) → slice_get members n ≡ Some a → slice_get members n ≡ Some b → a ≡ b
same_member members n a b p q = ap (λ (o : Option Member). unwrap_or o a) (sym p ∙ q)

module _ (accepts : Accepts) (ask : LatestAsk) (from : ViewChain) (state : State) (event : Event) (past : List Event) where
  abbrev Asked : Asking
  Asked = asking_of ask state.chain

  -- a state with this stage, where what was asked is the state's and the call is its own
  abbrev Sound : State → Type 0
  Sound new = LatestSound accepts ask from new (event ∷ past)

  moved_on : LatestSound accepts ask from state past → IsOwnCall accepts Asked past event → (stage : Stage) (new : State) → new ≡ at stage state
      → AtStage accepts ask from state.chain stage (event ∷ past) → Sound new
  moved_on sound own stage new is rests =
      subst Sound (sym is) (record { handle = sound.handle; nonce = sound.nonce; own = (own, sound.own); at = rests })

  -- memory was wanted
  wanted : LatestSound accepts ask from state past → IsOwnCall accepts Asked past event → (stage : Stage) × AtLive accepts ask from state.chain stage past → (new : State) → new ≡ wanting state → Sound new
  wanted sound own live new is = moved_on sound own (Ended (Err NoMemory)) new is (live, tt, inl refl)

  goes : LatestSound accepts ask from state past → IsOwnCall accepts Asked past event → (stage : Stage) × AtLive accepts ask from state.chain stage past
      → (P : Stage → Type 0) → ((stage : Stage) → P stage → AtStage accepts ask from state.chain stage (event ∷ past)) → (new : State) → Goes P (wanting state) new → Sound new
  goes sound own live P comes new (inl next) = moved_on sound own next.0 new next.1 (comes next.0 next.2)
  goes sound own live P comes new (inr is) = wanted sound own live new is

  after_more : (calls : List Event) → IsAfter accepts from state.chain past calls → IsAfter accepts from state.chain (event ∷ past) (event ∷ calls)
  after_more calls after = record { fresh = after.fresh; split = ap (λ (p : List Event). event ∷ p) after.split; refreshed = after.refreshed }

module _ (by_reached : ReachedLaw) (by_ahead : AheadLaw) (by_member : MemberLaw) (accepts : Accepts) (ask : LatestAsk) (from : ViewChain) (state new : State) (past : List Event) where
  abbrev Its : Asking
  Its = asking_of ask state.chain

  -- the first read of a member
  pub first_read : (votes : List MemberVote) (member : Member) (heard : Heard) → state.stage ≡ AskingFirst votes → IsConfig (newest_config state.chain.configs) → length votes < length (newest_config state.chain.configs)
      → slice_get (newest_config state.chain.configs) (length votes) ≡ Some member → TakesFirst accepts member heard votes (wanting state) new
      → LatestSound accepts ask from state past → LatestSound accepts ask from new (latest_to Its member.id heard ∷ past)
  first_read votes member heard stage config below is takes sound = by takes
    where
      event : Event
      event = latest_to Its member.id heard

      live : AtLive accepts ask from state.chain (AskingFirst votes) past
      live = subst (λ (s : Stage). AtStage accepts ask from state.chain s past) stage sound.at

      calls : List Event
      calls = live.0

      place : length votes ≡ length calls
      place = asked_length accepts Its votes calls live.2

      is_next : IsMember Its (length calls) member
      is_next = subst (λ (n : ℕ). IsMember Its n member) place is

      own : IsOwnCall accepts Its past event
      own = first_own accepts Its config from state.chain past calls votes member heard live.1 live.2 is_next

      claim : claim_of state ≡ Its.claim
      claim = claim_is accepts ask from state past sound

      by : TakesFirst accepts member heard votes (wanting state) new → LatestSound accepts ask from new (event ∷ past)
      by (inr is_wanted) = wanted accepts ask from state event past sound own (AskingFirst votes, live) new is_wanted
      by (inl (vote, judged, next)) =
          goes accepts ask from state event past sound own (AskingFirst votes, live) (AsksNext (claim_of state) state.chain (with_vote member.id vote votes))
          (λ next_stage p.
          asks_next by_ahead by_member accepts ask from state.chain event past (AskingFirst votes, live) config (with_vote member.id vote votes) (event ∷ calls) next_stage
          (member, heard, vote, votes, is_next, refl, subst (λ (k : LatestClaim). IsVote accepts k member.key heard vote) claim judged, refl, live.2)
          (omega (arith, below, length_and votes (record { id = member.id; vote = vote })))
          (after_more accepts ask from state event past calls live.1)
          (subst (λ (k : LatestClaim). AsksNext k state.chain (with_vote member.id vote votes) next_stage) claim p)) new next

  -- the turn of a member in the second asking ends
  module _ (second : Second) (member : Member) (event : Event) (config : IsConfig (newest_config state.chain.configs))
      (is : slice_get (newest_config state.chain.configs) second.place ≡ Some member) (sound : LatestSound accepts ask from state past) where
    ends : (stage : Stage) (count : ℕ) (turn calls : List Event) (vote : Vote) → AtLive accepts ask from state.chain stage past → IsAfter accepts from state.chain past calls
        → IsInSecond accepts Its second member count turn calls → Ends accepts Its second.head member count (event ∷ turn) vote → IsOwnCall accepts Its past event
        → Goes (Settles (claim_of state) state.chain second member.id vote) (wanting state) new → LatestSound accepts ask from new (event ∷ past)
    ends stage count turn calls vote live after in_second ended own next =
        goes accepts ask from state event past sound own (stage, live) (Settles (claim_of state) state.chain second member.id vote)
        (λ next_stage p.
        proceeds by_ahead by_member accepts ask from state.chain event past (stage, live) config second.head (settled member.id vote second) (event ∷ calls) (second.place + 1) next_stage
        (subst (λ (n : ℕ). AreBoth accepts Its second.head n (settled member.id vote second) (event ∷ calls)) (sym (add-one second.place)) both)
        (omega (arith, slice_get_within (newest_config state.chain.configs) second.place member is))
        (after_more accepts ask from state event past calls after)
        (subst (λ (k : LatestClaim). Settles k state.chain second member.id vote next_stage) (claim_is accepts ask from state past sound) p)) new next
      where
        both : AreBoth accepts Its second.head (suc second.place) (settled member.id vote second) (event ∷ calls)
        both = record {
          firsts = in_second.both.firsts;
          later = (event ∷ turn) ++ in_second.both.later;
          earlier = in_second.both.earlier;
          split = ap (λ (c : List Event). event ∷ c) (in_second.split ∙ ap (λ (c : List Event). turn ++ c) in_second.both.split)
              ∙ sym (append_assoc (event ∷ turn) in_second.both.later in_second.both.earlier);
          first = in_second.both.first;
          again = inr (
            second.votes,
            member,
            count,
            vote,
            event ∷ turn,
            in_second.both.later,
            refl,
            in_second.both.again,
            in_second.other,
            ended,
            refl,
          );
        }

  -- the second read of a member
  pub second_read : (second : Second) (member : Member) (heard : Heard) → state.stage ≡ AskingAgain second → IsConfig (newest_config state.chain.configs)
      → slice_get (newest_config state.chain.configs) second.place ≡ Some member → TakesAgain accepts member heard second (wanting state) new
      → LatestSound accepts ask from state past → LatestSound accepts ask from new (latest_to Its member.id heard ∷ past)
  second_read second member heard stage config is takes sound = by live.2.0 (same_member (newest_config state.chain.configs) second.place live.2.0 member live.2.3.other.is is) live.2.1 live.2.2 live.2.3 live.2.4 takes
    where
      event : Event
      event = latest_to Its member.id heard

      live : AtLive accepts ask from state.chain (AskingAgain second) past
      live = subst (λ (s : Stage). AtStage accepts ask from state.chain s past) stage sound.at

      with_member : (one : Member) → one ≡ member → (count : ℕ) (turn : List Event) → IsInSecond accepts Its second one count turn live.0 → HasTold Its second.head one.id count turn
          → IsInSecond accepts Its second member count turn live.0 × HasTold Its second.head member.id count turn
      with_member one same count turn in_second told_it =
          subst (λ (m : Member). IsInSecond accepts Its second m count turn live.0 × HasTold Its second.head m.id count turn) same (in_second, told_it)

      go : (count : ℕ) (turn : List Event) → IsInSecond accepts Its second member count turn live.0 × HasTold Its second.head member.id count turn
          → TakesAgain accepts member heard second (wanting state) new → LatestSound accepts ask from new (event ∷ past)
      go count turn known takes =
          let in_second = known.0 in
          let answered = told_target accepts Its by_reached by_ahead by_member second.head second.place second.votes in_second.before turn member count in_second.both in_second.other known.1 in
          let whole : past ≡ (turn ++ in_second.before) ++ live.1.fresh = live.1.split ∙ ap (λ (c : List Event). c ++ live.1.fresh) in_second.split in
          let own : IsOwnCall accepts Its past event = (
            (second.place, member, is, refl),
            refl,
            refl,
            inr (
              second.head.count,
              answered.0,
              both_target accepts Its second.head second.place second.votes turn in_second.before live.1.fresh past in_second.both whole,
              (answered.1.0, subst (λ (p : List Event). Had p (AtLink member.id answered.1.0 (Answered answered.0))) (sym whole) (newer (turn ++ in_second.before) live.1.fresh _ answered.1.1)),
              answered.2,
            ),
          ) in
          by_takes in_second own takes
        where
          by_takes : IsInSecond accepts Its second member count turn live.0 → IsOwnCall accepts Its past event → TakesAgain accepts member heard second (wanting state) new
              → LatestSound accepts ask from new (event ∷ past)
          by_takes in_second own (inr is_wanted) = wanted accepts ask from state event past sound own (AskingAgain second, live) new is_wanted
          by_takes in_second own (inl (vote, judged, next)) =
              ends second member event config is sound (AskingAgain second) count turn live.0 vote live live.1 in_second
              (inl (turn, heard, refl, known.1, subst (λ (k : LatestClaim). IsVote accepts k member.key heard vote) (claim_is accepts ask from state past sound) judged)) own next

      by : (one : Member) → one ≡ member → (count : ℕ) (turn : List Event) → IsInSecond accepts Its second one count turn live.0 → HasTold Its second.head one.id count turn
          → TakesAgain accepts member heard second (wanting state) new → LatestSound accepts ask from new (event ∷ past)
      by one same count turn in_second told_it takes = go count turn (with_member one same count turn in_second told_it) takes

  -- a call of a catch-up
  pub catch_up_call : (second : Second) (member : Member) (event : Event) (before after : CatchingUpState) (progress : Result Progress MemoryWanted)
      → state.stage ≡ CatchingUp second before → IsConfig (newest_config state.chain.configs) → slice_get (newest_config state.chain.configs) second.place ≡ Some member
      → CatchUpLeads before event after progress → TakesProgress member second after progress (wanting state) new
      → LatestSound accepts ask from state past → LatestSound accepts ask from new (event ∷ past)
  catch_up_call second member event before after progress stage config is leads takes sound =
      by live.2.0 (same_member (newest_config state.chain.configs) second.place live.2.0 member live.2.3.other.is is) live.2.1 live.2.2 live.2.3 live.2.4 live.2.5
    where
      live : AtLive accepts ask from state.chain (CatchingUp second before) past
      live = subst (λ (s : Stage). AtStage accepts ask from state.chain s past) stage sound.at

      go : (count : ℕ) (turn : List Event) → IsCatching accepts Its second before live.0 member count turn → LatestSound accepts ask from new (event ∷ past)
      go count turn known =
          let led = leads (target_of Its second.head member.id) count turn known.2 in
          by_progress progress takes led.0 led.1
        where
          in_second : IsInSecond accepts Its second member count turn live.0
          in_second = known.0

          whole : past ≡ turn ++ (in_second.before ++ live.1.fresh)
          whole = live.1.split ∙ ap (λ (c : List Event). c ++ live.1.fresh) in_second.split ∙ append_assoc turn in_second.before live.1.fresh

          in_second_more : IsInSecond accepts Its second member count (event ∷ turn) (event ∷ live.0)
          in_second_more = record {
            before = in_second.before;
            split = ap (λ (c : List Event). event ∷ c) in_second.split;
            both = in_second.both;
            other = in_second.other;
          }

          owned : SoundCatchUp (target_of Its second.head member.id) count after (event ∷ turn) → IsOwnCall accepts Its past event
          owned went =
              subst (λ (p : List Event). IsOwnCall accepts Its p event) (sym whole)
              (caught_own accepts Its second.head second.place member count turn (in_second.before ++ live.1.fresh) event is went.own.0)

          by_progress : (p : Result Progress MemoryWanted) → TakesProgress member second after p (wanting state) new
              → SoundCatchUp (target_of Its second.head member.id) count after (event ∷ turn) → Says (target_of Its second.head member.id) (told member.id count turn) event p
              → LatestSound accepts ask from new (event ∷ past)
          by_progress (Ok caught.More) takes went says =
              moved_on accepts ask from state event past sound (owned went) (CatchingUp second after) new takes
              (event ∷ live.0, after_more accepts ask from state event past live.0 live.1, (member, count, event ∷ turn, in_second_more, known.1, went))
          by_progress (Ok caught.Reached) takes went says =
              moved_on accepts ask from state event past sound (owned went) (AskingAgain second) new takes (
                event ∷ live.0,
                after_more accepts ask from state event past live.0 live.1,
                (member, count, event ∷ turn, in_second_more, inr (record { below = known.1; own = went.own }, says)),
              )
          by_progress (Ok (caught.Ahead more tail)) takes went says =
              ends second member event config is sound (CatchingUp second before) count turn live.0 (Ahead more tail) live live.1 in_second
              (inr (caught.Ahead more tail, record { below = known.1; own = went.own }, says, refl)) (owned went) takes
          by_progress (Ok (caught.Member reason)) takes went says =
              ends second member event config is sound (CatchingUp second before) count turn live.0 (Blamed (member_cause_of reason)) live live.1 in_second
              (inr (caught.Member reason, record { below = known.1; own = went.own }, says, refl)) (owned went) takes
          by_progress (Ok (caught.Row refusal)) takes went says =
              moved_on accepts ask from state event past sound (owned went) (Ended (Err (cause_of refusal))) new takes
              ((CatchingUp second before, live), row_refused (cause_of refusal) says, inr (inr (inl (record { second = second; catch_up = before; come = live }))))
            where
              first : (answer : Answer) × HadAnswer in_second.before member.id answer × TellsCount answer count
              first = told_first accepts Its by_ahead by_member second.head second.place second.votes in_second.before member count in_second.both in_second.other

              at_height : IsToldHeight Its (event ∷ past) (told member.id count turn)
              at_height = record {
                id = member.id;
                first = count;
                newest = event;
                turn = turn;
                before = in_second.before ++ live.1.fresh;
                split = ap (λ (p : List Event). event ∷ p) whole;
                member = (second.place, member, is, refl);
                answer = first.0;
                had = (first.1.0, newer in_second.before live.1.fresh _ first.1.1);
                tells = first.2;
                is = refl;
              }

              row_refused : (cause : Cause) → IsRowRefused Its.claim.handle (told member.id count turn) event cause → IsRefused accepts Its state.chain (event ∷ past) cause
              row_refused StoreFault refused = (Get (keys.Row Its.claim.handle (told member.id count turn)), WasGot gots.Failed, inl refused, refl)
              row_refused (Gap ledger missing) refused = (
                refused.0,
                inl (refused.2 ∙ ap (λ (k : Key). AtStore (Get k) (WasGot gots.None)) (ap (λ (h : List ℕ). keys.Row h (told member.id count turn)) (sym refused.0) ∙ ap (λ (n : ℕ). keys.Row ledger n) (sym refused.1))),
                inl (subst (IsToldHeight Its (event ∷ past)) (sym refused.1) at_height),
              )
              row_refused (BadRow key (Some bytes)) refused =
                  subst (λ (k : Key). IsRefused accepts Its state.chain (event ∷ past) (BadRow k (Some bytes))) (sym refused.0) (
                    refl,
                    (refused.1.0, inl (refused.1.1 ∙ ap (λ (k : Key). AtStore (Get k) (WasGot (gots.Some refused.1.0))) refused.0), refused.1.2),
                    inl (at_height, refused.2),
                  )
              row_refused cause refused = absurd refused
          by_progress (Err none) takes went says = wanted accepts ask from state event past sound (owned went) (CatchingUp second before, live) new takes

      by : (one : Member) → one ≡ member → (count : ℕ) (turn : List Event) → IsInSecond accepts Its second one count turn live.0 → count < second.head.count
          → SoundCatchUp (target_of Its second.head one.id) count before turn → LatestSound accepts ask from new (event ∷ past)
      by one same count turn in_second less caught_up = go count turn (subst (λ (m : Member). IsCatching accepts Its second before live.0 m count turn) same (in_second, less, caught_up))

  -- the get of the row below the head
  pub row_get : (head : LatestHead) (receipt : Receipt) (height : ℕ) (got : Got) (answer : Result LatestReply Cause) → state.stage ≡ Getting head receipt → head.count ≡ height + 1
      → TakesRow Its.claim.handle head receipt got answer → new ≡ at (Ended answer) state
      → LatestSound accepts ask from state past → LatestSound accepts ask from new (AtStore (Get (keys.Row Its.claim.handle height)) (WasGot got) ∷ past)
  row_get head receipt height got answer stage below takes is sound =
      moved_on accepts ask from state event past sound refl (Ended answer) new is (
        (Getting head receipt, live),
        says answer takes,
        inr (inr (inr (inr (record {
          head = head;
          receipt = receipt;
          come = live;
          height = height;
          below = below;
          got = got;
          call = refl;
          takes = takes;
        })))),
      )
    where
      event : Event
      event = AtStore (Get (keys.Row Its.claim.handle height)) (WasGot got)

      live : AtLive accepts ask from state.chain (Getting head receipt) past
      live = subst (λ (s : Stage). AtStage accepts ask from state.chain s past) stage sound.at

      receipted : IsReceipted accepts Its (event ∷ past) head receipt
      receipted =
          receipted_more accepts Its live.0 (event ∷ past) head receipt
          (λ e had. inr (subst (λ (p : List Event). Had p e) (sym live.1.split) (newer live.0 live.1.fresh e had))) live.2.3

      decided : IsDecided accepts Its (event ∷ past) head receipt
      decided = record {
        votes = live.2.0;
        newer = event ∷ [];
        calls = live.0;
        older = live.1.fresh;
        split = ap (λ (p : List Event). event ∷ p) live.1.split;
        done = live.2.1;
        is = live.2.2;
      }

      gave : (what : Got) → got ≡ what → event ≡ AtStore (Get (keys.Row Its.claim.handle height)) (WasGot what)
      gave what same = ap (λ (g : Got). AtStore (Get (keys.Row Its.claim.handle height)) (WasGot g)) same

      same_height : (a b c : ℕ) → a ≡ b + 1 → a ≡ c + 1 → b ≡ c
      same_height a b c p q = omega (arith, p, q)

      says : (answer : Result LatestReply Cause) → TakesRow Its.claim.handle head receipt got answer → LatestSays accepts ask state.chain (event ∷ past) answer
      says (Ok reply) takes =
          subst (λ (r : LatestReply). LatestSays accepts ask state.chain (event ∷ past) (Ok r)) (sym takes.4)
          (head, receipted, decided, (height, takes.0.body, below, (takes.0, inl (gave (gots.Some takes.0) takes.2), refl), takes.3))
      says (Err StoreFault) takes = (Get (keys.Row Its.claim.handle height), WasGot gots.Failed, inl (gave gots.Failed takes), refl)
      says (Err (Gap ledger missing)) takes = (
        takes.1,
        inl (gave gots.None takes.0 ∙ ap (λ (k : Key). AtStore (Get k) (WasGot gots.None))
            (ap (λ (h : List ℕ). keys.Row h height) (sym takes.1) ∙ ap (λ (n : ℕ). keys.Row ledger n) (same_height head.count height missing below takes.2))),
        inr (head, (receipt, receipted, decided, takes.2)),
      )
      says (Err (BadRow (keys.Row ledger n) (Some bytes))) takes = (
        takes.3,
        (
          takes.0,
          inl (gave (gots.Some takes.0) takes.1 ∙ ap (λ (k : Key). AtStore (Get k) (WasGot (gots.Some takes.0)))
              (ap (λ (h : List ℕ). keys.Row h height) (sym takes.3) ∙ ap (λ (m : ℕ). keys.Row ledger m) (same_height head.count height n below takes.4))),
          takes.2,
        ),
        inr (head, (receipt, receipted, decided, takes.4), subst (λ (h : List ℕ). IsNoRowOf h head bytes) (sym takes.3) takes.5),
      )
      says (Err NoMemory) takes = tt
      says (Err cause) takes = absurd takes
