-- What the next call of a refresh is answered over an honest store in which all views stand.
use Rattle.std.proofs.Common.{◌≡◌, inl, inr, ℕ, true, false, List, [], ◌∷◌, ◌++◌, length, Some, None, Result, Ok, Err, sym, ap, subst, ◌∙◌}
use Rattle.std.proofs.lemmas.List.{append-nil}
use Rattle.nim_base.specs.declared.no_memory.NoMemory.{NoMemory}
use Rattle.statement.specs.declared.member.Member.{Member}
use Rattle.statement.specs.declared.view_block.ViewBlock.{ViewBlock}
use Rattle.port.specs.declared.key.Key.{Key}
use Rattle.port.specs.declared.key.Key.TheVariants as keys
use Rattle.port.specs.declared.store_answers.Got.TheVariants as gots
use Rattle.port.specs.Contents.{Contents}
use Rattle.port.specs.Stored.{Stored}
use Rattle.port.specs.View.{FinalMap}
use Rattle.port.specs.FinalsForm.{finals_bytes}
use Rattle.port.specs.Cause.{Cause, StoreFault, BadRow, cause_of}
use Rattle.port.specs.Store.{Get, WasGot}
use Rattle.port.specs.Trace.{Event, AtStore, AtLink, AreHonest}
use Rattle.view_ledger.specs.declared.view_fault.ViewFault.{ViewFault}
use Rattle.view_ledger.specs.Views.{ViewChain, next_block}
use Rattle.view_ledger.specs.Receipts.{Accepts}
use Rattle.view_ledger.specs.Extension.{Follows}
use Rattle.op_parts.specs.declared.refresh_turn.RefreshProgress.{RefreshProgress}
use Rattle.op_parts.specs.declared.refresh_turn.RefreshProgress.TheVariants.{More, Fresh, Refused}
use Rattle.op_parts.specs.RefreshState.{RefreshState, AtView, AtFinals, AtEnd}
use Rattle.op_parts.specs.Refresh.{IsComplete, GaveFinals, marks_of}
use Rattle.op_parts.specs.RefreshSays.{GaveNoView, FailedAt, GaveBadFinals, RefusesNext, IsRefusedAtView, IsRefusedAtFinals}
use Rattle.op_parts.specs.RefreshTurn.{GoesAtView, GoesAtFinals}
use Rattle.op_parts.specs.RefreshSound.{Sound, Goes}
use Rattle.calm.specs.StandingViews.{ViewStands, FinalsStand, StandViews, IsFront}
use Rattle.calm.specs.Refreshing.{FindsAll}
use Rattle.calm.proofs.HonestGets.{newest_get}
use Rattle.calm.proofs.RefreshedChains.{ViewsLaw, FinalsLaw, IsNextView, Leads, next_of, longer_front, grew, halfway}
use Rattle.calm.proofs.ViewsThatFollow.{follows_extends}

module _ (views_law : ViewsLaw) (finals_law : FinalsLaw) (accepts : Accepts) (roster : List Member) (contents : Contents) (configs : List (List Member)) (stand : StandViews accepts roster contents configs) where
  abbrev pub Older : List Event → ViewChain → Type 0
  Older past chain = (before : Contents) → AreHonest contents past before → Leads views_law accepts roster contents configs stand past chain before

  -- what stood before the newest call
  pub older_of : (c : Contents) (past : List Event) (event : Event) (after : Contents) → AreHonest c (event ∷ past) after → (before : Contents) × AreHonest c past before
  older_of c past (AtStore call answer) after honest = (honest.0, honest.1)
  older_of c past (AtLink id call heard) after honest = (after, honest)

  -- a store that is honest doesn't fail
  no_failure : (past : List Event) (event : Event) (after : Contents) (key : Key) → AreHonest contents (event ∷ past) after → FailedAt key event → ⊥
  no_failure past event after key honest failed = (newest_get contents after past event key gots.Failed failed honest).answered

  -- the view of the next number, where the store gave nothing that is complete: there is none
  pub no_more : (chain : ViewChain) (past : List Event) (event : Event) (after : Contents) → IsFront roster configs chain → Older past chain
      → AreHonest contents (event ∷ past) after → GaveNoView (length chain.configs) event → chain ≡ record { roster = roster; configs = configs }
  no_more chain past event after front older honest gave = by_rest front.rest front.split
    where
      by_rest : (rest : List (List Member)) → configs ≡ chain.configs ++ rest → chain ≡ record { roster = roster; configs = configs }
      by_rest [] split =
          let all : configs ≡ chain.configs = split ∙ append-nil chain.configs in
          ap (λ (r : List Member). record chain { roster = r }) front.genuine ∙ ap (λ (c : List (List Member)). record { roster = roster; configs = c }) (sym all)
      by_rest (config ∷ above) split = absurd (by_gift gave)
        where
          view : ViewStands contents chain.configs config
          view = stand.views chain.configs above config split

          by_gift : GaveNoView (length chain.configs) event → ⊥
          by_gift (inl is) =
              let b = newest_get contents after past event (keys.View (length chain.configs)) gots.None is honest in
              let there : contents (keys.View (length chain.configs)) ≡ None = subst (λ (c : Contents). c (keys.View (length chain.configs)) ≡ None) (older b.before b.honest).same b.answered.0 in
              let stands = view.stands in
              absurd (cc)
          by_gift (inr is) =
              let b = newest_get contents after past event (keys.View (length chain.configs)) (gots.Some is.0) is.1 honest in
              let there : contents (keys.View (length chain.configs)) ≡ Some is.0 = subst (λ (c : Contents). c (keys.View (length chain.configs)) ≡ Some is.0) (older b.before b.honest).same b.answered.0 in
              let same : view.stored ≡ is.0 = (let s : Some view.stored ≡ Some is.0 = sym view.stands ∙ there in cc) in
              let complete : IsComplete is.0 ≡ true = subst (λ (s : Stored). IsComplete s ≡ true) same view.complete in
              let incomplete : IsComplete is.0 ≡ false = is.2 in
              absurd (cc)

  -- no view is refused
  pub view_stays : (chain : ViewChain) (past : List Event) (event : Event) (after : Contents) → IsFront roster configs chain → Older past chain
      → AreHonest contents (event ∷ past) after → (cause : Cause) → IsRefusedAtView (length chain.configs) event cause → ⊥
  view_stays chain past event after front older honest StoreFault is = no_failure past event after (keys.View (length chain.configs)) honest is
  view_stays chain past event after front older honest (BadRow key (Some bytes)) is =
      let gave = is.1.0 in
      let b = newest_get contents after past event (keys.View (length chain.configs)) (gots.Some gave.0) gave.1 honest in
      let there : contents (keys.View (length chain.configs)) ≡ Some gave.0 = subst (λ (c : Contents). c (keys.View (length chain.configs)) ≡ Some gave.0) (older b.before b.honest).same b.answered.0 in
      let next = next_of views_law accepts roster contents configs stand chain gave.0 front there in
      let view = stand.views chain.configs next.1 next.0 next.2 in
      let same : view.stored ≡ gave.0 = (let s : Some view.stored ≡ Some gave.0 = sym view.stands ∙ there in cc) in
      is.1.1 (next_block chain.configs next.0, next.0) (view.reads.0, sym gave.2 ∙ ap (λ (s : Stored). s.body) (sym same) ∙ view.reads.1)
  view_stays chain past event after front older honest cause is = absurd is

  -- what ended the newest view, for the next one
  module _ (chain : ViewChain) (body : List ℕ) (block : ViewBlock) (config : List Member) (past : List Event) (event : Event) (after : Contents)
      (front : IsFront roster configs chain) (next : IsNextView configs chain block config) (older : Older past chain) (honest : AreHonest contents (event ∷ past) after) where
    finals : FinalsStand accepts roster contents chain.configs config
    finals = stand.finals chain.configs next.above config next.split front.some

    -- what the store gave of them is what stands
    given_finals : (bytes : List ℕ) → GaveFinals (length chain.configs) bytes event → bytes ≡ finals_bytes finals.maps
    given_finals bytes gave =
        let b = newest_get contents after past event (keys.Finals (length chain.configs)) (gots.Some gave.0) gave.1 honest in
        let there : contents (keys.Finals (length chain.configs)) ≡ Some gave.0 = subst (λ (c : Contents). c (keys.Finals (length chain.configs)) ≡ Some gave.0) (older b.before b.honest).same b.answered.0 in
        let same : finals.stored ≡ gave.0 = (let s : Some finals.stored ≡ Some gave.0 = sym finals.stands ∙ there in cc) in
        sym gave.2 ∙ ap (λ (s : Stored). s.body) (sym same) ∙ finals.reads.1

    -- the view follows the chain with what was given
    follows : (maps : List FinalMap) → finals.maps ≡ maps → Follows accepts chain (record { block = block; config = config; finals = marks_of maps })
    follows maps same =
        subst (λ (c : ViewChain). Follows accepts c (record { block = block; config = config; finals = marks_of maps }))
        (ap (λ (r : List Member). record { roster = r; configs = chain.configs }) (sym front.genuine))
        (subst (λ (b : ViewBlock). Follows accepts (record { roster = roster; configs = chain.configs }) (record { block = b; config = config; finals = marks_of maps })) (sym next.links)
        (subst (λ (m : List FinalMap). Follows accepts (record { roster = roster; configs = chain.configs }) (record { block = next_block chain.configs config; config = config; finals = marks_of m })) same finals.follows))

    -- it isn't refused
    next_stays : (bytes : List ℕ) (fault : ViewFault) → RefusesNext accepts chain block config bytes fault event → ⊥
    next_stays bytes fault refuses =
        let same : finals.maps ≡ refuses.maps = finals_law finals.maps refuses.maps finals.reads.0 refuses.finals.0 (sym (given_finals bytes refuses.given) ∙ refuses.finals.1) in
        let ok = follows_extends accepts chain (record { block = block; config = config; finals = marks_of refuses.maps }) (follows refuses.maps same) in
        let err = refuses.outcome in
        absurd (cc)

    not_missing : (number : ℕ) → number ≡ length chain.configs → event ≡ AtStore (Get (keys.Finals number)) (WasGot gots.None) → ⊥
    not_missing number here is =
        let now : event ≡ AtStore (Get (keys.Finals (length chain.configs))) (WasGot gots.None) = is ∙ ap (λ (n : ℕ). AtStore (Get (keys.Finals n)) (WasGot gots.None)) here in
        let b = newest_get contents after past event (keys.Finals (length chain.configs)) gots.None now honest in
        let there : contents (keys.Finals (length chain.configs)) ≡ None = subst (λ (c : Contents). c (keys.Finals (length chain.configs)) ≡ None) (older b.before b.honest).same b.answered.0 in
        let stands = finals.stands in
        absurd (cc)

    not_bad : (number : ℕ) (bytes : List ℕ) → number ≡ length chain.configs → GaveBadFinals number bytes event → ⊥
    not_bad number bytes here bad =
        let gave : GaveFinals (length chain.configs) bytes event = subst (λ (n : ℕ). GaveFinals n bytes event) here bad.0 in
        bad.1 finals.maps (finals.reads.0, given_finals bytes gave)

    pub finals_stay : (cause : Cause) → IsRefusedAtFinals accepts chain body block config event cause → ⊥
    finals_stay StoreFault is = no_failure past event after (keys.Finals (length chain.configs)) honest is
    finals_stay (BadRow (keys.Finals number) None) is = not_missing number is.0 is.1
    finals_stay (BadRow (keys.Finals number) (Some bytes)) (here, inl bad) = not_bad number bytes here bad
    finals_stay (BadRow (keys.Finals number) (Some bytes)) (here, inr bad) = next_stays bytes bad.0 bad.2
    finals_stay (BadRow (keys.View number) (Some bytes)) is = next_stays is.2.1 is.2.0 is.2.3
    finals_stay cause is = absurd is

    finals_find : (longer : ViewChain) (new : RefreshState) (result : Result RefreshProgress NoMemory) → GoesAtFinals accepts chain body block config event longer new result
        → FindsAll roster configs longer result
    finals_find longer AtView (Ok More) goes = longer_front views_law accepts roster contents configs stand chain longer block config front next goes.grown
    finals_find longer AtEnd (Ok (Refused refusal)) goes = absurd (finals_stay (cause_of refusal) goes.0)
    finals_find longer new (Err wanted) goes = subst (IsFront roster configs) (sym goes.2) front
    finals_find longer new (Ok progress) goes = absurd goes

  view_finds : (chain longer : ViewChain) (past : List Event) (event : Event) (after : Contents) → IsFront roster configs chain → Older past chain
      → AreHonest contents (event ∷ past) after → (new : RefreshState) (result : Result RefreshProgress NoMemory)
      → GoesAtView (length chain.configs) event new result → longer ≡ chain → FindsAll roster configs longer result
  view_finds chain longer past event after front older honest (AtFinals body block config) (Ok More) goes same = subst (IsFront roster configs) (sym same) front
  view_finds chain longer past event after front older honest AtEnd (Ok Fresh) goes same = same ∙ no_more chain past event after front older honest goes
  view_finds chain longer past event after front older honest AtEnd (Ok (Refused refusal)) goes same = absurd (view_stays chain past event after front older honest (cause_of refusal) goes)
  view_finds chain longer past event after front older honest new (Err wanted) goes same = subst (IsFront roster configs) (sym same) front
  view_finds chain longer past event after front older honest new (Ok progress) goes same = absurd goes

  pub finds : (from chain longer : ViewChain) (state new : RefreshState) (past : List Event) (event : Event) (after : Contents) (result : Result RefreshProgress NoMemory)
      → IsFront roster configs from → Sound accepts from state chain past → AreHonest contents (event ∷ past) after → Goes accepts state chain event new longer result
      → FindsAll roster configs longer result
  finds from chain longer AtView new past event after result from_front sound honest goes =
      let before = older_of contents past event after honest in
      let led = grew views_law accepts roster contents configs stand from from_front past chain before.0 sound before.1 in
      view_finds chain longer past event after led.front (λ c h. grew views_law accepts roster contents configs stand from from_front past chain c sound h) honest new result goes.0 goes.1
  finds from chain longer (AtFinals body block config) new past event after result from_front sound honest goes =
      let before = older_of contents past event after honest in
      let half = halfway views_law accepts roster contents configs stand from from_front past body block config chain before.0 sound before.1 in
      finals_find chain body block config past event after half.0.front half.1
      (λ c h. (halfway views_law accepts roster contents configs stand from from_front past body block config chain c sound h).0) honest longer new result goes
  finds from chain longer AtEnd new past event after result from_front sound honest goes = absurd goes
