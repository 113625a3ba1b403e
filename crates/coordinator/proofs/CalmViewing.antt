-- What a call for views answers over a calm service.
use Rattle.std.proofs.Common.{◌≡◌, ◌⊎◌, inl, inr, ℕ, zero, suc, ◌+◌, ◌<◌, ◌≤◌, max, List, [], ◌∷◌, ◌++◌, length, take, get_or, Some, None, Result, Ok, Err, refl, sym, ap, ◌∙◌, subst, arith}
use Rattle.std.proofs.lemmas.List.{append-nil}
use Rattle.statement.specs.declared.member.Member.{Member}
use Rattle.statement.specs.declared.view_block.ViewBlock.{ViewBlock}
use Rattle.port.specs.declared.key.Key.{Key}
use Rattle.port.specs.declared.key.Key.TheVariants as keys
use Rattle.port.specs.declared.store_answers.Got.{Got}
use Rattle.port.specs.declared.store_answers.Got.TheVariants as gots
use Rattle.port.specs.Cause.{Cause, StoreFault, BadRow, NoMemory}
use Rattle.port.specs.Contents.{Contents}
use Rattle.port.specs.FinalsForm.{IsFinals, finals_bytes}
use Rattle.port.specs.Link.{Bank}
use Rattle.port.specs.Store.{Get, WasGot, IsHonest}
use Rattle.port.specs.Stored.{Stored}
use Rattle.port.specs.Trace.{Event, Had, AreHonest, AreFaithful}
use Rattle.port.specs.View.{FinalMap, ViewRow}
use Rattle.view_ledger.specs.Extension.{Follows, extended, extend_outcome}
use Rattle.view_ledger.specs.Numbered.{chain_below, row_at}
use Rattle.view_ledger.specs.Receipts.{Accepts}
use Rattle.view_ledger.specs.Views.{ViewChain, config_at, next_block}
use Rattle.op_parts.specs.Refresh.{Grew, ReadsAsFinals, marks_of}
use Rattle.op_parts.specs.RefreshSays.{GaveNoView, IsRefusedAtView, IsRefusedAtFinals}
use Rattle.op_parts.specs.RefreshSound.{IsHalfway, Sound, key_of}
use Rattle.op_parts.specs.RefreshState.{RefreshState, AtView, AtFinals, AtEnd}
use Rattle.op_entry.specs.Laws.{IsRefreshGet}
use Rattle.op_entry.specs.OwnRow.{get_of}
use Rattle.op_entry.specs.Refusal.{OrMemory, IsRefreshRefused}
use Rattle.op_entry.specs.Sound.{Refreshed, WasRefreshRefused}
use Rattle.calm.specs.Calls.{Later, StaysCalm}
use Rattle.calm.specs.Calm.{ServiceState, NewestHold, IsCalm}
use Rattle.calm.specs.Members.{Signs}
use Rattle.calm.specs.Refreshing.{ReadyRefresh}
use Rattle.calm.specs.StandingViews.{StandViews, IsFront}
use Rattle.calm.specs.Storing.{GivesFinals}
use Rattle.coordinator.specs.Calm.{OverCalm, CalmViews}
use Rattle.coordinator.specs.ViewsGot.{finals_event, GaveOthers, IsFinalsRefused, AreGot}
use Rattle.coordinator.specs.Views.{first_got, AreBegun, AreViews, WasFinalsRefused, WasStopped, ViewsSay, OwnGets, ViewsServed}

-- laws of the crates below
pub record ViewLaws : Type 0 where
  pub cut : (contents after : Contents) (newer older : List Event) → AreHonest contents (newer ++ older) after → (middle : Contents) × AreHonest contents older middle × AreHonest middle newer after
  pub all : (ready : ReadyRefresh) (chain : ViewChain) (past : List Event) (event : Event) (later : Contents) → Grew ready.accepts ready.from past chain → GaveNoView (length chain.configs) event
      → AreHonest ready.contents (event ∷ past) later → chain ≡ record { roster = ready.roster; configs = ready.configs }
  pub view_stays : (ready : ReadyRefresh) (chain : ViewChain) (past : List Event) (event : Event) (later : Contents) (cause : Cause) → Grew ready.accepts ready.from past chain
      → AreHonest ready.contents (event ∷ past) later → IsRefusedAtView (length chain.configs) event cause → ⊥
  pub finals_stay : (ready : ReadyRefresh) (chain : ViewChain) (body : List ℕ) (block : ViewBlock) (config : List Member) (past : List Event) (event : Event) (later : Contents) (cause : Cause)
      → IsHalfway ready.accepts ready.from body block config chain past → AreHonest ready.contents (event ∷ past) later → IsRefusedAtFinals ready.accepts chain body block config event cause → ⊥
  pub front : (ready : ReadyRefresh) (chain : ViewChain) (state : RefreshState) (past : List Event) (later : Contents) → Sound ready.accepts ready.from state chain past
      → AreHonest ready.contents past later → IsFront ready.roster ready.configs chain
  pub finals : (accepts : Accepts) (roster : List Member) (contents after : Contents) (configs below above : List (List Member)) (config : List Member) (got : Got) → StandViews accepts roster contents configs
      → configs ≡ below ++ config ∷ above → 1 ≤ length below → IsHonest contents (Get (keys.Finals (length below))) (WasGot got) after → GivesFinals accepts roster below config got
  pub extends : (accepts : Accepts) (chain : ViewChain) (next : ViewRow) → Follows accepts chain next → extend_outcome accepts chain next ≡ Ok (extended chain next.config)
  pub own_bytes : (a b : List FinalMap) → IsFinals a → IsFinals b → finals_bytes a ≡ finals_bytes b → a ≡ b
  pub same : (service : ServiceState) (after : Bank) (left : ℕ) → IsCalm service → NewestHold service.configs after service.rows left → IsCalm (record service { bank = after; left = left })

-- gets change nothing that stands, and ask no endorser
module _ (contents : Contents) where
  quiet_get : (before after : Contents) (key : Key) (got : Got) → IsHonest before (Get key) (WasGot got) after → after ≡ before
  quiet_get before after key (gots.Some stored) honest = honest.1
  quiet_get before after key gots.None honest = honest.1
  quiet_get before after key gots.Failed honest = absurd honest
  quiet_get before after key gots.NoMemory honest = honest

  quiet_at : (key : Key) (got : Got) (past : List Event) (after : Contents) → ((before : Contents) → AreHonest contents past before → before ≡ contents) → AreHonest contents (get_of key got ∷ past) after → after ≡ contents
  quiet_at key got past after older honest = quiet_get honest.0 after key got honest.2 ∙ older honest.0 honest.1

  quiet_more : (event : Event) (past : List Event) (after : Contents) → IsRefreshGet event → ((before : Contents) → AreHonest contents past before → before ≡ contents) → AreHonest contents (event ∷ past) after → after ≡ contents
  quiet_more event past after (number, got, inl is) older honest = quiet_at (keys.View number) got past after older (subst (λ (e : Event). AreHonest contents (e ∷ past) after) is honest)
  quiet_more event past after (number, got, inr is) older honest = quiet_at (keys.Finals number) got past after older (subst (λ (e : Event). AreHonest contents (e ∷ past) after) is honest)

  pub quiet : (events : List Event) (after : Contents) → OwnGets events → AreHonest contents events after → after ≡ contents
  quiet [] after own honest = honest
  quiet (event ∷ past) after own honest = quiet_more event past after (own event (inl refl)) (λ before h. quiet past before (λ other had. own other (inr had)) h) honest

module _ (signs : Signs) (bank : Bank) where
  unasked_more : (event : Event) (past : List Event) (after : Bank) → IsRefreshGet event → (AreFaithful signs bank past after → after ≡ bank) → AreFaithful signs bank (event ∷ past) after → after ≡ bank
  unasked_more event past after (number, got, inl is) older faithful = older (subst (λ (e : Event). AreFaithful signs bank (e ∷ past) after) is faithful)
  unasked_more event past after (number, got, inr is) older faithful = older (subst (λ (e : Event). AreFaithful signs bank (e ∷ past) after) is faithful)

  pub unasked : (events : List Event) (after : Bank) → OwnGets events → AreFaithful signs bank events after → after ≡ bank
  unasked [] after own faithful = faithful
  unasked (event ∷ past) after own faithful = unasked_more event past after (own event (inl refl)) (λ f. unasked past after (λ other had. own other (inr had)) f) faithful

-- a list at a place
pub record Split (configs : List (List Member)) (number : ℕ) : Type 0 where
  pub below : List (List Member)
  pub config : List Member
  pub above : List (List Member)
  pub is : configs ≡ below ++ config ∷ above
  pub many : length below ≡ number
  pub front : take number configs ≡ below
  pub here : config_at configs number ≡ config

split : (configs : List (List Member)) (number : ℕ) → number < length configs → Split configs number
split [] number known = absurd (omega arith)
split (first ∷ rest) zero known = record { below = []; config = first; above = rest; is = refl; many = refl; front = refl; here = refl }
split (first ∷ rest) (suc n) known =
    let s = split rest n (omega arith) in
    record { below = first ∷ s.below; config = s.config; above = s.above; is = ap (λ (l : List (List Member)). first ∷ l) s.is; many = ap suc s.many; front = ap (λ (l : List (List Member)). first ∷ l) s.front; here = s.here }

or_memory : (P : Cause → Type 0) (cause : Cause) → OrMemory P cause → (cause ≡ NoMemory) ⊎ P cause
or_memory P NoMemory is = inl refl
or_memory P cause is = inr is

lacking : (chain : ViewChain) (service : ServiceState) (later : Later) (cause : Cause) → cause ≡ NoMemory → CalmViews chain (Err cause) service later
lacking chain service later cause is = subst (λ (c : Cause). CalmViews chain (Err c) service later) (sym is) tt

module _ (laws : ViewLaws) (service : ServiceState) (later : Later) (from chain : ViewChain) (calm : IsCalm service) (one_more : service.left ≡ later.left + 1) (knows : IsFront service.roster service.configs from) where
  ready : ReadyRefresh
  ready = record { accepts = service.accepts; roster = service.roster; contents = service.contents; configs = service.configs; from = from; stand = calm.views; front = knows }

  abbrev AllKnown : Type 0
  AllKnown = chain ≡ record { roster = service.roster; configs = service.configs }

  -- the chain that was refreshed by the oldest of these calls has all views
  all_known : (before : List Event) (middle : Contents) → Refreshed service.accepts from chain before → AreHonest service.contents before middle → AllKnown
  unfolding ready
  all_known before middle fresh honest = laws.all ready chain fresh.1 fresh.0 middle fresh.3 fresh.4 (subst (λ (l : List Event). AreHonest service.contents l middle) fresh.2 honest)

  begun_knows : (first : ℕ) (rows : List ViewRow) (events : List Event) (after : Contents) → AreBegun service.accepts from chain first rows events → AreHonest service.contents events after → AllKnown
  begun_knows first rows events after begun honest =
      let h = laws.cut service.contents after begun.calls begun.before (subst (λ (l : List Event). AreHonest service.contents l after) begun.split honest) in
      all_known begun.before h.0 begun.refreshed h.1

  front_of : AllKnown → IsFront service.roster service.configs chain
  front_of all =
      subst (λ (c : ViewChain). IsFront service.roster service.configs c) (sym all)
      (record { genuine = refl; some = calm.views.some; rest = []; split = sym (append-nil service.configs) })

  -- the members have what they had
  still_calm : later.bank ≡ service.bank → IsCalm (record service { bank = later.bank; left = later.left })
  still_calm same =
      laws.same service later.bank later.left calm
      (subst (λ (b : Bank). NewestHold service.configs b service.rows later.left) (sym same)
      (record {
        each = λ place member at.
            let able = calm.members.each place member at in
            record {
              told = able.told;
              known = able.known;
              me = able.me;
              first = able.first;
              active = able.active;
              stamps = omega (arith, able.stamps, one_more);
              signatures = omega (arith, able.signatures, one_more);
            };
      }))

  -- no refresh is refused
  refresh_stays : (cause : Cause) (events : List Event) → AreHonest service.contents events later.contents → WasRefreshRefused service.accepts from chain cause events → (cause ≡ NoMemory) × IsFront service.roster service.configs chain
  unfolding ready
  refresh_stays cause events honest (state, got, before, is, sound, refused) =
      let h : AreHonest service.contents (get_of (key_of state chain) got ∷ before) later.contents = subst (λ (l : List Event). AreHonest service.contents l later.contents) is honest in
      (by state sound h (or_memory (IsRefreshRefused service.accepts chain state (get_of (key_of state chain) got)) cause refused), laws.front ready chain state before h.0 sound h.1)
    where
      by : (state : RefreshState) → Sound service.accepts from state chain before → AreHonest service.contents (get_of (key_of state chain) got ∷ before) later.contents
          → (cause ≡ NoMemory) ⊎ IsRefreshRefused service.accepts chain state (get_of (key_of state chain) got) cause → cause ≡ NoMemory
      by state sound h (inl is) = is
      by AtView sound h (inr refused) = absurd (laws.view_stays ready chain before (get_of (key_of AtView chain) got) later.contents cause sound h refused)
      by (AtFinals body block config) sound h (inr refused) =
          absurd (laws.finals_stay ready chain body block config before (get_of (key_of (AtFinals body block config) chain) got) later.contents cause sound h refused)
      by AtEnd sound h (inr refused) = absurd refused

  -- what ended the view below one of the service's
  module _ (number : ℕ) (got : Got) (after : Contents) (known : number < length service.configs) (some : 1 ≤ number) (all : AllKnown)
      (honest : IsHonest service.contents (Get (keys.Finals number)) (WasGot got) after) where
    at : Split service.configs number
    at = split service.configs number known

    gives : GivesFinals service.accepts service.roster at.below at.config got
    unfolding at
    gives =
        laws.finals service.accepts service.roster service.contents after service.configs at.below at.above at.config got calm.views at.is (omega (arith, some, at.many))
        (subst (λ (n : ℕ). IsHonest service.contents (Get (keys.Finals n)) (WasGot got) after) (sym at.many) honest)

    -- the view follows those below it with the finals that stand
    follows : (maps : List FinalMap) → Follows service.accepts (record { roster = service.roster; configs = at.below }) (record { block = next_block at.below at.config; config = at.config; finals = marks_of maps })
        → Follows service.accepts (chain_below chain number) (row_at chain.configs number (marks_of maps))
    unfolding at
    follows maps is =
        subst (λ (c : ViewChain). Follows service.accepts (chain_below c number) (row_at c.configs number (marks_of maps))) (sym all)
        (subst (λ (config : List Member). Follows service.accepts (record { roster = service.roster; configs = take number service.configs })
        (record { block = next_block (take number service.configs) config; config = config; finals = marks_of maps })) (sym at.here)
        (subst (λ (below : List (List Member)). Follows service.accepts (record { roster = service.roster; configs = below }) (record { block = next_block below at.config; config = at.config; finals = marks_of maps }))
        (sym at.front) is))

    given_stays : (stored : Stored) (bytes : List ℕ) → got ≡ gots.Some stored → stored.body ≡ bytes → ((maps : List FinalMap) → ReadsAsFinals bytes maps
        → Follows service.accepts (chain_below chain number) (row_at chain.configs number (marks_of maps)) → ⊥) → ⊥
    unfolding at gives follows
    given_stays stored bytes is body never =
        let given : GivesFinals service.accepts service.roster at.below at.config (gots.Some stored) = subst (λ (g : Got). GivesFinals service.accepts service.roster at.below at.config g) is gives in
        never given.0 (subst (λ (b : List ℕ). ReadsAsFinals b given.0) body given.1) (follows given.0 given.2)

    others_stay : (bytes : List ℕ) → GaveOthers service.accepts chain number bytes (finals_event number got) → ⊥
    unfolding given_stays
    others_stay bytes gave =
        given_stays gave.given.0 bytes (let e = gave.given.1 in cc) gave.given.2
        (λ maps reads is.
        let same : maps ≡ gave.maps = laws.own_bytes maps gave.maps reads.0 gave.finals.0 (sym reads.1 ∙ gave.finals.1) in
        let next = row_at chain.configs number (marks_of gave.maps) in
        let ok : extend_outcome service.accepts (chain_below chain number) next ≡ Ok (extended (chain_below chain number) next.config) =
        laws.extends service.accepts (chain_below chain number) next (subst (λ (m : List FinalMap). Follows service.accepts (chain_below chain number) (row_at chain.configs number (marks_of m))) same is) in
        let err = gave.refused in
        absurd (cc))

    finals_stay : (cause : Cause) → IsFinalsRefused service.accepts chain number (finals_event number got) cause → ⊥
    unfolding gives given_stays others_stay at
    finals_stay StoreFault is =
        let failed : got ≡ gots.Failed = (let e = is in cc) in
        subst (λ (g : Got). IsHonest service.contents (Get (keys.Finals number)) (WasGot g) after) failed honest
    finals_stay (BadRow key None) is =
        let none : got ≡ gots.None = (let e = is.1 in cc) in
        subst (λ (g : Got). GivesFinals service.accepts service.roster at.below at.config g) none gives
    finals_stay (BadRow key (Some bytes)) (here, inl bad) = given_stays bad.0.0 bytes (let e = bad.0.1 in cc) bad.0.2 (λ maps reads is. bad.1 maps reads)
    finals_stay (BadRow key (Some bytes)) (here, inr others) = others_stay bytes others
    finals_stay cause is = absurd is

  -- one of the gets of finals that were refused wanted memory
  finals_lack : (first : ℕ) (cause : Cause) (events : List Event) → 1 ≤ first → OwnGets events → AreHonest service.contents events later.contents → WasFinalsRefused service.accepts from chain first cause events
      → (cause ≡ NoMemory) × IsFront service.roster service.configs chain
  unfolding front_of finals_stay
  finals_lack first cause events some own honest was =
      let number = first + length was.rows in
      let h : AreHonest service.contents (finals_event number was.got ∷ was.past) later.contents = subst (λ (l : List Event). AreHonest service.contents l later.contents) was.newest honest in
      let own_past : OwnGets was.past = (λ other had. subst (λ (l : List Event). OwnGets l) was.newest own other (inr had)) in
      let before : h.0 ≡ service.contents = quiet service.contents was.past h.0 own_past h.1 in
      let all = begun_knows first was.rows was.past h.0 was.begun h.1 in
      let known : number < length service.configs = subst (λ (c : ViewChain). number < length c.configs) all was.known in (
        by (or_memory (IsFinalsRefused service.accepts chain number (finals_event number was.got)) cause was.refused)
            (finals_stay number was.got later.contents known (omega (arith, some)) all (subst (λ (c : Contents). IsHonest c (Get (keys.Finals number)) (WasGot was.got) later.contents) before h.2) cause),
        front_of all,
      )
    where
      by : {P : Type 0} → (cause ≡ NoMemory) ⊎ P → (P → ⊥) → cause ≡ NoMemory
      by (inl is) never = is
      by (inr refused) never = absurd (never refused)

  ok_views : (number : ℕ) (rows : List ViewRow) (events : List Event) → OwnGets events → AreHonest service.contents events later.contents → AreFaithful service.signs service.bank events later.bank
      → AreViews service.accepts from chain number rows events → CalmViews chain (Ok rows) service later × IsFront service.roster service.configs chain
  unfolding front_of still_calm
  ok_views number rows events own honest faithful views =
      let all = begun_knows (first_got number) views.above events later.contents views.begun honest in
      ((all, (quiet service.contents events later.contents own honest, still_calm (unasked service.signs service.bank events later.bank own faithful))), front_of all)

  stopped_views : (first : ℕ) (cause : Cause) (events : List Event) → AreHonest service.contents events later.contents → WasStopped service.accepts from chain first cause events
      → CalmViews chain (Err cause) service later × IsFront service.roster service.configs chain
  unfolding front_of
  stopped_views first NoMemory events honest was = (tt, front_of (begun_knows first was.0 events later.contents was.1 honest))
  stopped_views first cause events honest was = absurd was

  calm_answer : (number : ℕ) (answer : Result (List ViewRow) Cause) (events : List Event) → OwnGets events → AreHonest service.contents events later.contents
      → AreFaithful service.signs service.bank events later.bank → ViewsSay service.accepts from chain number events answer → CalmViews chain answer service later × IsFront service.roster service.configs chain
  unfolding refresh_stays finals_lack
  calm_answer number (Ok rows) events own honest faithful says = ok_views number rows events own honest faithful says
  calm_answer number (Err cause) events own honest faithful (inl was) =
      let lacks = refresh_stays cause events honest was in
      (lacking chain service later cause lacks.0, lacks.1)
  calm_answer number (Err cause) events own honest faithful (inr (inl was)) =
      let lacks = finals_lack (first_got number) cause events (omega arith) own honest was in
      (lacking chain service later cause lacks.0, lacks.1)
  calm_answer number (Err cause) events own honest faithful (inr (inr was)) = stopped_views (first_got number) cause events honest was

-- what is answered to a call for views
pub calm_views : ViewLaws → (accepts : Accepts) (number : ℕ) (from chain : ViewChain) (events : List Event) (answer : Result (List ViewRow) Cause) (service : ServiceState) (later : Later)
    → OverCalm accepts from events service later → ViewsServed accepts number from chain events answer → CalmViews chain answer service later × IsFront service.roster service.configs chain
calm_views laws accepts number from chain events answer service later over served =
    calm_answer laws service later from chain over.calm over.one_more over.front number answer events served.own over.honest over.faithful
    (subst (λ (a : Accepts). ViewsSay a from chain number events answer) (sym over.checks) served.says)
