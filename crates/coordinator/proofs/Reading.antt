-- A whole read of a ledger's newest entry.
use Rattle.std.proofs.Common.{◌≡◌, ◌+◌, ℕ, Bool, true, List, [], ◌∷◌, Result, Ok, Err, refl, sym, subst}
use Rattle.port.specs.declared.refusal.Refusal.{Refusal}
use Rattle.port.specs.Cause.{Cause, cause_of}
use Rattle.port.specs.Link.{LinkView, Bank}
use Rattle.port.specs.Reply.{LatestReply}
use Rattle.port.specs.Service.{replied}
use Rattle.port.specs.Store.{StoreView}
use Rattle.port.specs.Contents.{Contents}
use Rattle.port.specs.Trace.{Event, Ran, AreHonest, AreFaithful}
use Rattle.view_ledger.specs.Views.{ViewChain}
use Rattle.view_ledger.specs.Receipts.{Accepts}
use Rattle.op_parts.specs.Refresh.{HasGrown}
use Rattle.op_latest.specs.LatestAsked.{LatestAsk, asking_of}
use Rattle.op_latest.specs.LatestOwn.{OwnCalls}
use Rattle.op_latest.specs.LatestSays.{LatestSays}
use Rattle.op_latest.specs.LatestSound.{LatestSound, Leads, AtStage}
use Rattle.op_latest.specs.LatestState.{Stage, State, Ended, is_live, outcome_of}
use Rattle.calm.specs.Calls.{CalmLatest}
use Rattle.calm.specs.Calm.{ServiceState, IsCalm}
use Rattle.calm.specs.StandingViews.{IsFront}
use Rattle.coordinator.specs.Calm.{Calmly}
use Rattle.coordinator.specs.Latest.{LatestServed, Comes, LatestRan}
use Rattle.coordinator.specs.Says.{SaysOfLatest}
use Rattle.coordinator.specs.State.{State as Held}
use Rattle.coordinator.proofs.Running.{ran_more}

module _ {S L : Type 0} (accepts : Accepts) (sv : S → StoreView) (lv : L → LinkView) (ask : LatestAsk) (from : ViewChain) where
  -- one call of a read
  abbrev Steps : S → L → State → S → L → State → Type 0
  Steps m k old s' l' new = (event : Event) × Ran sv lv m k (event ∷ []) s' l' × Leads accepts old event new

  pub begins : (s : S) (l : L) (state : State) → LatestSound accepts ask from state [] → is_live state ≡ true → Comes accepts sv lv ask from s l state s l
  begins s l state sound live = (([], (refl, refl), sound), live)

  pub goes_on : (s m s' : S) (l k l' : L) (old new : State) → Comes accepts sv lv ask from s l old m k → (is_live old ≡ true → Steps m k old s' l' new) → is_live new ≡ true → Comes accepts sv lv ask from s l new s' l'
  goes_on s m s' l k l' old new comes step live =
      let one = step comes.1 in
      ((one.0 ∷ comes.0.0, ran_more sv lv s m s' l k l' comes.0.0 (one.0 ∷ []) comes.0.1 one.1, one.2 ask from comes.0.0 comes.0.2), live)

  -- what callers are told of a read that made these calls
  pub record Tells (state : State) (chain : ViewChain) (answer : Result LatestReply Cause) : Type 0 where
    pub own : (past : List Event) → LatestSound accepts ask from state past → OwnCalls accepts (asking_of ask chain) past
    pub grown : (past : List Event) → LatestSound accepts ask from state past → HasGrown accepts from chain past
    pub says : (past : List Event) → LatestSound accepts ask from state past → LatestSays accepts ask chain past answer
    pub came : (past : List Event) → LatestSound accepts ask from state past → AtStage accepts ask from chain (Ended answer) past
    pub calm : (past : List Event) → LatestSound accepts ask from state past → Calmly accepts from chain past (λ service later. CalmLatest service ask.handle ask.nonce answer later)

  pub came_to : (state : State) (chain : ViewChain) (past : List Event) (answer : Result LatestReply Cause) → chain ≡ state.chain → LatestSound accepts ask from state past → state.stage ≡ Ended answer
      → AtStage accepts ask from chain (Ended answer) past
  came_to state chain past answer same sound ended =
      subst (λ (c : ViewChain). AtStage accepts ask from c (Ended answer) past) (sym same)
      (subst (λ (stage : Stage). AtStage accepts ask from state.chain stage past) ended sound.at)

  -- what calm services answer to it
  pub record CalmLaws : Type 0 where
    pub answer : (service : ServiceState) (left : ℕ) (ask : LatestAsk) (from : ViewChain) (state : State) (past : List Event) (answer : Result LatestReply Cause) (contents : Contents) (bank : Bank)
        → IsCalm service → service.left ≡ left + 1 → IsFront service.roster service.configs from → LatestSound service.accepts ask from state past → state.stage ≡ Ended answer
        → AreHonest service.contents past contents → AreFaithful service.signs service.bank past bank
        → CalmLatest service ask.handle ask.nonce answer (record { contents = contents; bank = bank; left = left })
    pub front : (service : ServiceState) (ask : LatestAsk) (from : ViewChain) (state : State) (past : List Event) (contents : Contents)
        → IsCalm service → IsFront service.roster service.configs from → LatestSound service.accepts ask from state past
        → AreHonest service.contents past contents → IsFront service.roster service.configs state.chain

  pub calmly : CalmLaws → (state : State) (chain : ViewChain) (past : List Event) (answer : Result LatestReply Cause) → chain ≡ state.chain → LatestSound accepts ask from state past → state.stage ≡ Ended answer
      → Calmly accepts from chain past (λ service later. CalmLatest service ask.handle ask.nonce answer later)
  calmly laws state chain past answer same sound ended = λ service later over.
      let own = subst (λ (a : Accepts). LatestSound a ask from state past) (sym over.checks) sound in (
        laws.answer service later.left ask from state past answer later.contents later.bank over.calm over.one_more over.front own ended over.honest over.faithful,
        subst (λ (c : ViewChain). IsFront service.roster service.configs c) (sym same) (laws.front service ask from state past later.contents over.calm over.front own over.honest),
      )

  pub ends : (s m s' : S) (l k l' : L) (old new : State) (chain : ViewChain) (answer : Result LatestReply Cause) → Comes accepts sv lv ask from s l old m k → (is_live old ≡ true → Steps m k old s' l' new) → Tells new chain answer
      → LatestRan accepts sv lv ask from s l chain s' l' answer
  ends s m s' l k l' old new chain answer comes step tells =
      let one = step comes.1 in
      let past = one.0 ∷ comes.0.0 in
      let sound = one.2 ask from comes.0.0 comes.0.2 in
      (past, ran_more sv lv s m s' l k l' comes.0.0 (one.0 ∷ []) comes.0.1 one.1, record { own = tells.own past sound; grown = tells.grown past sound; says = tells.says past sound; came = tells.came past sound; calm = tells.calm past sound })

module _ {S L C : Type 0} (accepts : C → Accepts) (sv : S → StoreView) (lv : L → LinkView) (ask : LatestAsk) where
  -- as the call of a coordinator
  pub reply_served : (old new : Held S L C) (chain : ViewChain) (said : Result LatestReply Refusal) → chain ≡ old.chain → new.checker ≡ old.checker
      → LatestRan (accepts old.checker) sv lv ask chain old.store old.link new.chain new.store new.link (outcome_of said) → SaysOfLatest accepts sv lv old new ask (replied said)
  reply_served old new chain (Ok reply) is same ran =
      record { events = ran.0; ran = ran.1; checker = same; did = subst (λ (c : ViewChain). LatestServed (accepts old.checker) ask c new.chain ran.0 (Ok reply)) is ran.2 }
  reply_served old new chain (Err refusal) is same ran =
      record { events = ran.0; ran = ran.1; checker = same; did = subst (λ (c : ViewChain). LatestServed (accepts old.checker) ask c new.chain ran.0 (Err (cause_of refusal))) is ran.2 }
