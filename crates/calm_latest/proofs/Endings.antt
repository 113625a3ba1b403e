-- How a latest read over a calm service ends.
use Rattle.std.proofs.Common.{◌≡◌, inl, inr, ℕ, ◌+◌, ◌==◌, Bool, true, false, if◌then◌else◌, List, [], ◌∷◌, ◌++◌, length, Some, None, Result, Ok, Err, refl, sym, subst, ap, ◌∙◌, arith, length-append}
use Rattle.std.proofs.lemmas.Bool.{eqb-true}
use Rattle.std.proofs.lemmas.List.{append-nil}
use Rattle.chain_block.specs.declared.entry.Entry.{Entry}
use Rattle.statement.specs.Receipt.{Receipt}
use Rattle.port.specs.declared.key.Key.TheVariants as keys
use Rattle.port.specs.declared.store_answers.Got.{Got}
use Rattle.port.specs.declared.store_answers.Got.TheVariants as gots
use Rattle.port.specs.Cause.{Cause, StoreFault, Gap, BadRow, NoMemory}
use Rattle.port.specs.Contents.{Contents}
use Rattle.port.specs.GoodRow.{IsGoodRow}
use Rattle.port.specs.Link.{Bank}
use Rattle.port.specs.Reply.{LatestReply}
use Rattle.port.specs.Row.{Content}
use Rattle.port.specs.Store.{Get, WasGot, IsHonest}
use Rattle.port.specs.Trace.{Event, AreHonest, AreFaithful}
use Rattle.view_ledger.specs.Views.{ViewChain}
use Rattle.op_parts.specs.RefreshSound.{Sound as SoundRefresh}
use Rattle.op_parts.specs.RefreshState.{RefreshState, AtView, AtFinals, AtEnd}
use Rattle.op_latest.specs.declared.latest_head.LatestHead.{LatestHead}
use Rattle.op_latest.specs.LatestAsked.{LatestAsk, Asking, asking_of, AreBoth, AreDone}
use Rattle.op_latest.specs.LatestRow.{TakesRow, IsRowOf}
use Rattle.op_latest.specs.LatestSays.{IsAfter}
use Rattle.op_latest.specs.LatestSound.{AtLive, AtStage, RefusesRefresh, EndedInCatchUp, EndedByVotes, EndedByRow, HasEnded}
use Rattle.op_latest.specs.LatestState.{Stage, Refreshing, Asking as AskingFirst, CatchingUp, AskingAgain, Getting, Ended}
use Rattle.op_latest.specs.LatestSteps.{receipt_of, with_receipt, concluded}
use Rattle.op_latest.specs.LatestVote.{has_quorum}
use Rattle.calm.specs.Ledgers.{tail_of, row_above}
use Rattle.calm.specs.Storing.{GivesRow}
use Rattle.calm.specs.StandingViews.{IsFront}
use Rattle.calm.specs.Calls.{CalmLatest}
use Rattle.calm.specs.Calm.{ServiceState, IsCalm}
use Rattle.calm_latest.proofs.LowerLaws.{Laws}
use Rattle.calm_latest.proofs.CalmReads.{whole, refresh_of, head_of, no_entries, all_views, Since, since, Read, no_second, done_read}

-- where a ledger has no entry the read has ended, and else the row is to be got
ended_with : (none : Bool) (answer : Result LatestReply Cause) (reply : LatestReply) (head : LatestHead) (receipt : Receipt)
    → Ended answer ≡ (if none then Ended (Ok reply) else Getting head receipt) → (none ≡ true) × (answer ≡ Ok reply)
ended_with true answer reply head receipt is = (refl, cc)
ended_with false answer reply head receipt is = absurd (cc)

no_length : (entries : List Entry) → length entries ≡ 0 → entries ≡ []
no_length [] none = refl
no_length (entry ∷ entries) none = absurd (omega (arith, none))

-- the entry at the top
record Newest (entries : List Entry) (height : ℕ) : Type 0 where
  pub below : List Entry
  pub entry : Entry
  pub split : entries ≡ below ++ entry ∷ []
  pub place : length below ≡ height

module _ (laws : Laws) (service : ServiceState) (calm : IsCalm service) (left : ℕ) (one_more : service.left ≡ left + 1) (ask : LatestAsk)
    (from : ViewChain) (front : IsFront service.roster service.configs from) where
  abbrev Its : Asking
  Its = asking_of ask (whole service)

  abbrev Head : LatestHead
  Head = head_of service ask.handle

  abbrev Entries : List Entry
  Entries = service.ledgers ask.handle

  abbrev Says : Result LatestReply Cause → Contents → Bank → Type 0
  Says answer contents bank = CalmLatest service ask.handle ask.nonce answer (record { contents = contents; bank = bank; left = left })

  -- the refresh isn't refused
  refresh_stays : (refresh : RefreshState) (chain : ViewChain) (past : List Event) (event : Event) (cause : Cause) (contents : Contents) → SoundRefresh service.accepts from refresh chain past
      → AreHonest service.contents (event ∷ past) contents → RefusesRefresh service.accepts refresh chain event cause → ⊥
  refresh_stays AtView chain past event cause contents sound honest refused =
      laws.view_stays (refresh_of service calm from front) chain past event contents cause sound honest refused
  refresh_stays (AtFinals body block config) chain past event cause contents sound honest refused =
      laws.finals_stay (refresh_of service calm from front) chain body block config past event contents cause sound honest refused
  refresh_stays AtEnd chain past event cause contents sound honest refused = refused

  -- there is no catch-up
  no_catch_up : (chain : ViewChain) (past : List Event) (event : Event) (contents : Contents) (bank : Bank) → EndedInCatchUp service.accepts ask from chain past
      → AreHonest service.contents (event ∷ past) contents → AreFaithful service.signs service.bank (event ∷ past) bank → ⊥
  no_catch_up chain past event contents bank ended honest faithful =
      let come = ended.come in
      let store = laws.split_store service.contents contents (event ∷ []) past honest in
      let link = laws.split_link service.signs service.bank bank (event ∷ []) past faithful in
      let s = since laws service calm from chain past come.0 store.0 link.0 front come.1 store.1 link.1 in
      let second = come.2.3 in
      let turn = laws.split_link service.signs service.bank link.0 come.2.2 second.before (subst (λ (c : List Event). AreFaithful service.signs service.bank c link.0) second.split s.faithful) in
      no_second laws service calm left one_more ask ended.second.head ended.second.place ended.second.votes second.before turn.0
      (subst (λ (c : ViewChain). AreBoth service.accepts (asking_of ask c) ended.second.head ended.second.place ended.second.votes second.before) s.all second.both) turn.1

  -- there is no row to be got
  by_votes : (chain : ViewChain) (past : List Event) (answer : Result LatestReply Cause) (contents : Contents) (bank : Bank) → EndedByVotes service.accepts ask from chain past answer
      → AreHonest service.contents past contents → AreFaithful service.signs service.bank past bank → Says answer contents bank
  by_votes chain past answer contents bank ended honest faithful =
      subst (λ (a : Result LatestReply Cause). Says a contents bank) (sym none.1)
      (refl, no_entries laws service calm ask.handle (eqb-true Head.count 0 none.0), (read.2.unstored service.contents contents s.honest, read.2.calm_then))
    where
      s : Since laws service calm chain ended.calls contents bank
      s = since laws service calm from chain past ended.calls contents bank front ended.after honest faithful

      read : (ended.head ≡ Head) × (has_quorum Its.members ended.votes Head ≡ true) × Read laws service calm left one_more ask ended.calls bank
      read =
          done_read laws service calm left one_more ask ended.head ended.votes ended.calls bank
          (subst (λ (c : ViewChain). AreDone service.accepts (asking_of ask c) ended.head ended.votes ended.calls) s.all ended.done) s.faithful

      reply : LatestReply
      reply = record { row = None; receipt = receipt_of Its.claim Head ended.votes }

      is : Ended answer ≡ concluded Its.claim (whole service) Head ended.votes
      is =
          subst (λ (h : LatestHead). Ended answer ≡ concluded Its.claim (whole service) h ended.votes) read.0
          (subst (λ (c : ViewChain). Ended answer ≡ concluded (asking_of ask c).claim c ended.head ended.votes) s.all ended.is)

      chosen : concluded Its.claim (whole service) Head ended.votes ≡ with_receipt Head (receipt_of Its.claim Head ended.votes)
      chosen = rw (read.1) refl

      none : ((Head.count == 0) ≡ true) × (answer ≡ Ok reply)
      none = ended_with (Head.count == 0) answer reply Head (receipt_of Its.claim Head ended.votes) (is ∙ chosen)

  newest : (height : ℕ) → length Entries ≡ height + 1 → Newest Entries height
  newest height all =
      let at = laws.at Entries height (omega (arith, all)) in
      let lengths : length Entries ≡ length at.0 + length (at.1 ∷ at.2) = ap length at.3 ∙ length-append at.0 (at.1 ∷ at.2) in
      let none : at.2 ≡ [] = no_length at.2 (omega (arith, all, lengths, at.4)) in
      record { below = at.0; entry = at.1; split = at.3 ∙ ap (λ (l : List Entry). at.0 ++ at.1 ∷ l) none; place = at.4 }

  -- the row was got, or memory was wanted
  module _ (receipt : Receipt) (height : ℕ) (all : length Entries ≡ height + 1) (got : Got) (contents : Contents) (bank : Bank)
      (states : receipt.statement ≡ (receipt_of Its.claim Head []).statement)
      (honest : IsHonest service.contents (Get (keys.Row ask.handle height)) (WasGot got) contents) (calm_then : IsCalm (record service { bank = bank; left = left })) where
    top : Newest Entries height
    top = newest height all

    gives : GivesRow service.accepts service.configs ask.handle top.below top.entry got
    gives =
        laws.row service.accepts service.configs service.contents contents ask.handle Entries top.below [] top.entry got (calm.stand ask.handle) top.split
        (subst (λ (n : ℕ). IsHonest service.contents (Get (keys.Row ask.handle n)) (WasGot got) contents) (sym top.place) honest)

    gives_so : (what : Got) → got ≡ what → GivesRow service.accepts service.configs ask.handle top.below top.entry what
    gives_so what is = subst (GivesRow service.accepts service.configs ask.handle top.below top.entry) is gives

    -- what was got is the newest row
    is_newest : (bytes : List ℕ) (row : Content) → IsGoodRow ask.handle (length top.below) bytes (row_above top.below top.entry) → IsRowOf ask.handle Head bytes row
        → row ≡ row_above top.below top.entry
    is_newest bytes row good is =
        let below = is.below in
        let place = top.place in
        let same : is.height ≡ length top.below = omega (arith, below, place, all) in
        laws.one top.below top.entry ask.handle bytes row good (subst (λ (n : ℕ). IsGoodRow ask.handle n bytes row) same is.good)

    -- it is the row of the head
    is_row : (bytes : List ℕ) → IsGoodRow ask.handle (length top.below) bytes (row_above top.below top.entry) → IsRowOf ask.handle Head bytes (row_above top.below top.entry)
    is_row bytes good =
        let place = top.place in
        record { height = length top.below; below = omega (arith, place, all); good = good; agrees = sym (ap tail_of top.split ∙ laws.tail top.below top.entry) }

    row_says : (answer : Result LatestReply Cause) → TakesRow ask.handle Head receipt got answer → Says answer contents bank
    row_says (Ok reply) takes =
        let gave = gives_so (gots.Some takes.0) takes.2 in
        let same : contents ≡ service.contents = (subst (λ (g : Got). IsHonest service.contents (Get (keys.Row ask.handle height)) (WasGot g) contents) takes.2 honest).1 in
        subst (λ (r : LatestReply). Says (Ok r) contents bank) (sym takes.4)
        (states, (top.below, top.entry, top.split, is_newest takes.0.body takes.1 gave.0 takes.3), (same, calm_then))
    row_says (Err StoreFault) takes = absurd (gives_so gots.Failed takes)
    row_says (Err (Gap ledger missing)) takes = absurd (gives_so gots.None takes.0)
    row_says (Err (BadRow (keys.Row ledger n) (Some bytes))) takes =
        let gave = gives_so (gots.Some takes.0) takes.1 in
        absurd (takes.5 (row_above top.below top.entry) (is_row bytes (subst (λ (b : List ℕ). IsGoodRow ask.handle (length top.below) b (row_above top.below top.entry)) takes.2 gave.0)))
    row_says (Err NoMemory) takes = tt
    row_says (Err cause) takes = absurd takes

  by_row : (chain : ViewChain) (past : List Event) (event : Event) (answer : Result LatestReply Cause) (contents : Contents) (bank : Bank) → EndedByRow service.accepts ask from chain past event answer
      → AreHonest service.contents (event ∷ past) contents → AreFaithful service.signs service.bank (event ∷ past) bank → Says answer contents bank
  by_row chain past event answer contents bank ended honest faithful =
      row_says ended.receipt ended.height (sym (ap (λ (h : LatestHead). h.count) read.0) ∙ ended.below) ended.got contents bank states here read.2.calm_then answer
      (subst (λ (h : LatestHead). TakesRow ask.handle h ended.receipt ended.got answer) read.0 ended.takes)
    where
      come : AtLive service.accepts ask from chain (Getting ended.head ended.receipt) past
      come = ended.come

      before : (c : Contents) × AreHonest service.contents past c × IsHonest c (Get (keys.Row ask.handle ended.height)) (WasGot ended.got) contents
      before = subst (λ (e : Event). AreHonest service.contents (e ∷ past) contents) ended.call honest

      of_link : AreFaithful service.signs service.bank past bank
      of_link = subst (λ (e : Event). AreFaithful service.signs service.bank (e ∷ past) bank) ended.call faithful

      s : Since laws service calm chain come.0 before.0 bank
      s = since laws service calm from chain past come.0 before.0 bank front come.1 before.1 of_link

      read : (ended.head ≡ Head) × (has_quorum Its.members come.2.0 Head ≡ true) × Read laws service calm left one_more ask come.0 bank
      read =
          done_read laws service calm left one_more ask ended.head come.2.0 come.0 bank
          (subst (λ (c : ViewChain). AreDone service.accepts (asking_of ask c) ended.head come.2.0 come.0) s.all come.2.1) s.faithful

      here : IsHonest service.contents (Get (keys.Row ask.handle ended.height)) (WasGot ended.got) contents
      here =
          subst (λ (c : Contents). IsHonest c (Get (keys.Row ask.handle ended.height)) (WasGot ended.got) contents)
          (read.2.unstored service.contents before.0 s.honest) before.2

      states : ended.receipt.statement ≡ (receipt_of Its.claim Head []).statement
      states =
          subst (λ (h : LatestHead). ended.receipt.statement ≡ (receipt_of Its.claim h []).statement) read.0
          (subst (λ (c : ViewChain). ended.receipt.statement ≡ (receipt_of (asking_of ask c).claim ended.head []).statement) s.all (ap (λ (r : Receipt). r.statement) come.2.2))

  -- whatever ended it
  ended_says : (chain : ViewChain) (past : List Event) (event : Event) (answer : Result LatestReply Cause) (contents : Contents) (bank : Bank)
      → HasEnded service.accepts ask from chain past event answer → AreHonest service.contents (event ∷ past) contents → AreFaithful service.signs service.bank (event ∷ past) bank
      → Says answer contents bank
  ended_says chain past event answer contents bank (inl wanted) honest faithful = subst (λ (a : Result LatestReply Cause). Says a contents bank) (sym wanted) tt
  ended_says chain past event answer contents bank (inr (inl ended)) honest faithful =
      absurd (refresh_stays ended.refresh chain past event ended.cause contents ended.come honest ended.refuses)
  ended_says chain past event answer contents bank (inr (inr (inl ended))) honest faithful = absurd (no_catch_up chain past event contents bank ended honest faithful)
  ended_says chain past event answer contents bank (inr (inr (inr (inl ended)))) honest faithful = by_votes chain (event ∷ past) answer contents bank ended honest faithful
  ended_says chain past event answer contents bank (inr (inr (inr (inr ended)))) honest faithful = by_row chain past event answer contents bank ended honest faithful

  pub answer_says : (chain : ViewChain) (past : List Event) (answer : Result LatestReply Cause) (contents : Contents) (bank : Bank)
      → AtStage service.accepts ask from chain (Ended answer) past → AreHonest service.contents past contents → AreFaithful service.signs service.bank past bank → Says answer contents bank
  answer_says chain [] answer contents bank at honest faithful = absurd at
  answer_says chain (event ∷ past) answer contents bank at honest faithful = ended_says chain past event answer contents bank at.2 honest faithful

module _ (laws : Laws) (service : ServiceState) (calm : IsCalm service) (ask : LatestAsk) (from chain : ViewChain) (front : IsFront service.roster service.configs from) where
  abbrev Front : Type 0
  Front = IsFront service.roster service.configs chain

  whole_front : chain ≡ whole service → Front
  whole_front is =
      subst (IsFront service.roster service.configs) (sym is)
      (record { genuine = refl; some = calm.views.some; rest = []; split = sym (append-nil service.configs) })

  front_after : (past calls : List Event) (contents : Contents) → IsAfter service.accepts from chain past calls → AreHonest service.contents past contents → Front
  front_after past calls contents after honest = whole_front (all_views laws service calm from chain past calls contents front after honest)

  front_live : (stage : Stage) (past : List Event) (contents : Contents) → AtLive service.accepts ask from chain stage past → AreHonest service.contents past contents → Front
  front_live (Refreshing refresh) past contents live honest = laws.front (refresh_of service calm from front) chain refresh past contents live honest
  front_live (AskingFirst votes) past contents live honest = front_after past live.0 contents live.1 honest
  front_live (CatchingUp second catch_up) past contents live honest = front_after past live.0 contents live.1 honest
  front_live (AskingAgain second) past contents live honest = front_after past live.0 contents live.1 honest
  front_live (Getting head receipt) past contents live honest = front_after past live.0 contents live.1 honest
  front_live (Ended answer) past contents live honest = front_after past live.0 contents live.1 honest

  pub front_stage : (stage : Stage) (past : List Event) (contents : Contents) → AtStage service.accepts ask from chain stage past → AreHonest service.contents past contents → Front
  front_stage (Ended answer) [] contents at honest = absurd at
  front_stage (Ended answer) (event ∷ past) contents at honest =
      let store = laws.split_store service.contents contents (event ∷ []) past honest in front_live at.0.0 past store.0 at.0.1 store.1
  front_stage (Refreshing refresh) past contents at honest = front_live (Refreshing refresh) past contents at honest
  front_stage (AskingFirst votes) past contents at honest = front_live (AskingFirst votes) past contents at honest
  front_stage (CatchingUp second catch_up) past contents at honest = front_live (CatchingUp second catch_up) past contents at honest
  front_stage (AskingAgain second) past contents at honest = front_live (AskingAgain second) past contents at honest
  front_stage (Getting head receipt) past contents at honest = front_live (Getting head receipt) past contents at honest
