-- The whole setting up of view 0.
use Rattle.std.proofs.Common.{◌≡◌, ℕ, Bool, true, List, [], ◌∷◌, ◌++◌, Some, Result, Ok, Err, refl, sym, subst, ap}
use Rattle.port.specs.declared.refusal.Refusal.{Refusal}
use Rattle.port.specs.Cause.{Cause, IsShown, cause_of}
use Rattle.port.specs.Link.{Bank, LinkView}
use Rattle.port.specs.Store.{StoreView}
use Rattle.port.specs.Contents.{Contents}
use Rattle.port.specs.Trace.{Event, Ran, AreHonest, AreFaithful}
use Rattle.port.specs.View.{ViewRow}
use Rattle.view_ledger.specs.Views.{ViewChain}
use Rattle.view_ledger.specs.Receipts.{Accepts}
use Rattle.op_reconf.specs.OwnCalls.{OwnCalls}
use Rattle.op_reconf.specs.Says.{Says}
use Rattle.op_reconf.specs.Sound.{Sound, Leads, MakesOne, AtStage}
use Rattle.op_reconf.specs.State.{StageState, AtPut, AtMembers, AtMark, AtEnd, State, is_live, answer_at, answer_of}
use Rattle.calm.specs.Calls.{Later}
use Rattle.calm_first.specs.First.{BeforeFirst, CalmFirst}
use Rattle.coordinator.specs.First.{OfErr, Comes, FirstRan, FromNothing}
use Rattle.coordinator.proofs.Running.{ran_more}

-- the law of refusals
abbrev pub Showing : Type 0
Showing = (accepts : Accepts) (from : ViewChain) (state : State) (past : List Event) (cause : Cause) → Sound accepts from state past → state.stage ≡ AtEnd (Err cause) → IsShown past cause

stage_is : (stage : StageState) (answer : Result ViewRow Cause) → answer_at stage ≡ Some answer → stage ≡ AtEnd answer
stage_is AtPut answer e = absurd cc
stage_is (AtMembers set_up) answer e = absurd cc
stage_is (AtMark row) answer e = absurd cc
stage_is (AtEnd other) answer e = let same : other ≡ answer = cc in ap (λ (a : Result ViewRow Cause). AtEnd a) same

pub shows_cause : Showing → (accepts : Accepts) (from : ViewChain) (state : State) (past : List Event) (answer : Result ViewRow Refusal) → answer_at state.stage ≡ Some (answer_of answer)
    → Sound accepts from state past → OfErr (answer_of answer) (IsShown past)
shows_cause law accepts from state past (Ok row) is sound = tt
shows_cause law accepts from state past (Err refusal) is sound = law accepts from state past (cause_of refusal) sound (stage_is state.stage (Err (cause_of refusal)) is)

-- the state at the end
abbrev ended_at : ViewChain → Result ViewRow Cause → State
ended_at chain answer = record { chain = chain; stage = AtEnd answer }

pub came_to : (accepts : Accepts) (from chain : ViewChain) (state : State) (past : List Event) (answer : Result ViewRow Cause) → chain ≡ from → answer_at state.stage ≡ Some answer → Sound accepts from state past → Sound accepts from (ended_at chain answer) past
came_to accepts from chain state past answer same is sound = record { chain = same; config = sound.config; at = subst (λ (stage : StageState). AtStage from stage past) (stage_is state.stage answer is) sound.at }

-- the law of beginnings
abbrev pub BeginningLaw : Type 0
BeginningLaw = (first : BeforeFirst) (from : ViewChain) (state : State) (past : List Event) (answer : Result ViewRow Cause) (contents : Contents) (bank : Bank)
    → from.configs ≡ first.config ∷ [] → Sound first.accepts from state past → state.stage ≡ AtEnd answer
    → AreHonest first.contents past contents → AreFaithful first.signs first.bank past bank
    → CalmFirst first from.roster answer (record { contents = contents; bank = bank; left = first.left })

pub begins_calm : BeginningLaw → (accepts : Accepts) (from : ViewChain) (state : State) (past : List Event) (answer : Result ViewRow Cause) → answer_at state.stage ≡ Some answer → Sound accepts from state past
    → FromNothing accepts from past (λ first later. CalmFirst first from.roster answer later)
begins_calm law accepts from state past answer is sound = λ first later same alone left honest faithful.
    subst (λ (n : ℕ). CalmFirst first from.roster answer (record { contents = later.contents; bank = later.bank; left = n })) (sym left)
    (law first from state past answer later.contents later.bank alone (subst (λ (a : Accepts). Sound a from state past) (sym same) sound) (stage_is state.stage answer is) honest faithful)

module _ {S L : Type 0} (accepts : Accepts) (sv : S → StoreView) (lv : L → LinkView) (from : ViewChain) where
  -- the calls of a step
  abbrev Steps : S → L → State → S → L → State → Type 0
  Steps m k old s' l' new = (events : List Event) × Ran sv lv m k events s' l' × MakesOne old events new × Leads accepts old events new

  pub begins : (s : S) (l : L) (state : State) → Sound accepts from state [] → is_live state ≡ true → Comes accepts sv lv from s l state s l
  begins s l state sound live = (([], (refl, refl), sound), live)

  pub goes_on : (s m s' : S) (l k l' : L) (old new : State) → Comes accepts sv lv from s l old m k → (is_live old ≡ true → Steps m k old s' l' new) → is_live new ≡ true → Comes accepts sv lv from s l new s' l'
  goes_on s m s' l k l' old new comes step live =
      let more = step comes.1 in
      ((more.0 ++ comes.0.0, ran_more sv lv s m s' l k l' comes.0.0 more.0 comes.0.1 more.1, more.3 from comes.0.0 comes.0.2), live)

  pub ends : (s m s' : S) (l k l' : L) (old new : State) (chain : ViewChain) (answer : Result ViewRow Cause) → Comes accepts sv lv from s l old m k → (is_live old ≡ true → Steps m k old s' l' new)
      → ((past : List Event) → Sound accepts from new past → (chain ≡ from) × OwnCalls from past × Says from past answer)
      → ((past : List Event) → Sound accepts from new past → chain ≡ from → Sound accepts from (ended_at chain answer) past)
      → ((past : List Event) → Sound accepts from new past → OfErr answer (IsShown past))
      → ((past : List Event) → Sound accepts from new past → FromNothing accepts from past (λ first later. CalmFirst first from.roster answer later))
      → FirstRan accepts sv lv from s l chain s' l' answer
  ends s m s' l k l' old new chain answer comes step tells came shows calms =
      let more = step comes.1 in
      let past = more.0 ++ comes.0.0 in
      let sound = more.3 from comes.0.0 comes.0.2 in
      let told = tells past sound in
      (past, ran_more sv lv s m s' l k l' comes.0.0 more.0 comes.0.1 more.1, record { same = told.0; own = told.1; says = told.2; came = came past sound told.0; shown = shows past sound; calm = calms past sound })
