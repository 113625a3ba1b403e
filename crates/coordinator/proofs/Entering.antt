-- Whole operations on entries.
use Rattle.std.proofs.Common.{◌≡◌, Bool, true, false, List, [], ◌∷◌, Option, Some, None, Result, inr, refl, sym, ap, ◌∙◌, subst}
use Rattle.std.specs.Prelude.{IfSome}
use Rattle.std.specs.Option.{option_map}
use Rattle.port.specs.declared.refusal.Refusal.{Refusal}
use Rattle.port.specs.Cause.{Cause}
use Rattle.port.specs.Link.{LinkView}
use Rattle.port.specs.Reply.{Standing}
use Rattle.port.specs.Store.{StoreView}
use Rattle.port.specs.Trace.{Event, Ran}
use Rattle.view_ledger.specs.Views.{ViewChain}
use Rattle.view_ledger.specs.Receipts.{Accepts}
use Rattle.op_parts.specs.Refresh.{HasGrown}
use Rattle.op_entry.specs.Ask.{Ask}
use Rattle.op_entry.specs.Laws.{OwnCalls}
use Rattle.op_entry.specs.Says.{Says}
use Rattle.op_entry.specs.Sound.{Sound, Leads, IsAnswered, IsAt}
use Rattle.op_entry.specs.State.{Stage, Ended, State, is_live, answer, answer_of}
use Rattle.calm.specs.StandingViews.{IsFront}
use Rattle.calm_entry.specs.CalmRun.{CalmRun}
use Rattle.coordinator.specs.Calm.{OverCalm, Calmly, CalmEntry}
use Rattle.coordinator.proofs.Stages.{ended_with}
use Rattle.coordinator.specs.Entries.{EntryServed, Comes, EntryRan}
use Rattle.coordinator.proofs.Running.{ran_more}

module _ {S L : Type 0} (accepts : Accepts) (sv : S → StoreView) (lv : L → LinkView) (ask : Ask) (from : ViewChain) where
  -- one call of an operation
  abbrev Steps : S → L → State → S → L → State → Type 0
  Steps m k old s' l' new = (event : Event) × Ran sv lv m k (event ∷ []) s' l' × Leads accepts old event new

  pub begins : (s : S) (l : L) (state : State) → Sound accepts ask from state [] → is_live state ≡ true → Comes accepts sv lv ask from s l state s l
  begins s l state sound live = (([], (refl, refl), sound), live)

  pub goes_on : (s m s' : S) (l k l' : L) (old new : State) → Comes accepts sv lv ask from s l old m k → (is_live old ≡ true → Steps m k old s' l' new) → is_live new ≡ true → Comes accepts sv lv ask from s l new s' l'
  goes_on s m s' l k l' old new comes step live =
      let one = step comes.1 in
      ((one.0 ∷ comes.0.0, ran_more sv lv s m s' l k l' comes.0.0 (one.0 ∷ []) comes.0.1 one.1, one.2 ask from comes.0.0 comes.0.2), live)

  -- what callers are told of an operation that made these calls
  pub record Tells (state : State) (chain : ViewChain) (said : Option (Result Standing Refusal)) : Type 0 where
    pub same : chain ≡ state.chain
    pub answered : option_map answer_of said ≡ answer state
    pub own : (past : List Event) → Sound accepts ask from state past → OwnCalls accepts ask state.chain.configs past
    pub grown : (past : List Event) → Sound accepts ask from state past → HasGrown accepts from state.chain past
    pub says : (past : List Event) → Sound accepts ask from state past → IfSome (answer state) (Says accepts ask from state.chain past)

  -- what calm services answer to it
  pub record CalmLaws : Type 0 where
    pub answers : (run : CalmRun) (result : Result Standing Cause) → run.ask ≡ ask → run.state.stage ≡ Ended result → CalmEntry ask result run.service run.later
    pub front : (run : CalmRun) → IsFront run.service.roster run.service.configs run.state.chain

  calmly : CalmLaws → (state : State) (past : List Event) (result : Result Standing Cause) → Sound accepts ask from state past → state.stage ≡ Ended result
      → Calmly accepts from state.chain past (CalmEntry ask result)
  calmly laws state past result sound ended = λ service later over.
      let run : CalmRun = record {
        service = service;
        ask = ask;
        from = from;
        state = state;
        past = past;
        later = later;
        calm = over.calm;
        one_more = over.one_more;
        front = over.front;
        sound = subst (λ (a : Accepts). Sound a ask from state past) (sym over.checks) sound;
        honest = over.honest;
        faithful = over.faithful;
      } in
      (laws.answers run result refl ended, laws.front run)

  serves : (state : State) (chain : ViewChain) (said : Result Standing Refusal) (past : List Event) → CalmLaws → Tells state chain (Some said) → Sound accepts ask from state past → EntryServed accepts ask from chain past (answer_of said)
  serves state chain said past laws tells sound =
      let ended = ended_with state.stage (answer_of said) (sym tells.answered) in
      let came : IsAnswered accepts ask from state.chain (answer_of said) past = subst (λ (stage : Stage). IsAt accepts ask from state.chain stage past) ended sound in
      let says = subst (λ (o : Option (Result Standing Cause)). IfSome o (Says accepts ask from state.chain past)) (sym tells.answered) (tells.says past sound) in
      subst (λ (c : ViewChain). EntryServed accepts ask from c past (answer_of said)) (sym tells.same)
      (record { own = tells.own past sound; grown = tells.grown past sound; says = inr says; came = inr came; calm = calmly laws state past (answer_of said) sound ended })

  pub ends : (s m s' : S) (l k l' : L) (old new : State) (chain : ViewChain) (said : Result Standing Refusal) → Comes accepts sv lv ask from s l old m k → (is_live old ≡ true → Steps m k old s' l' new) → CalmLaws → Tells new chain (Some said)
      → EntryRan accepts sv lv ask from s l chain s' l' (answer_of said)
  ends s m s' l k l' old new chain said comes step laws tells =
      let one = step comes.1 in
      let sound = one.2 ask from comes.0.0 comes.0.2 in
      (one.0 ∷ comes.0.0, ran_more sv lv s m s' l k l' comes.0.0 (one.0 ∷ []) comes.0.1 one.1, serves new chain said (one.0 ∷ comes.0.0) laws tells sound)
