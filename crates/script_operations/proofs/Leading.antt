-- Calls that lead an operation on.
use Rattle.std.proofs.Common.{◌≡◌, ◌<◌, ◌+◌, ℕ, Bool, true, false, List, [], ◌∷◌, ◌++◌, refl, sym, ap, ◌∙◌, subst, arith}
use Rattle.port.specs.Link.{LinkView}
use Rattle.port.specs.Store.{StoreView}
use Rattle.port.specs.Trace.{Event, Ran}
use Rattle.view_ledger.specs.Receipts.{Accepts}
use Rattle.view_ledger.specs.Views.{ViewChain}
use Rattle.coordinator.specs.State.{State}
use Rattle.coordinator.specs.Stepping.{Calls}
use Rattle.script_operations.specs.Ending.{CameTo}
use Rattle.script_operations.specs.Stepping.{Goes, GoesFor, LeadsBy}

ran_more : {S L : Type 0} (sv : S → StoreView) (lv : L → LinkView) (s m s' : S) (l k l' : L) (past events : List Event)
    → Ran sv lv s l past m k → Ran sv lv m k events s' l' → Ran sv lv s l (events ++ past) s' l'
ran_more sv lv s m s' l k l' past [] ran more = subst (λ (x : _). Ran sv lv s l past x l') (sym more.0) (subst (λ (y : _). Ran sv lv s l past m y) (sym more.1) ran)
ran_more sv lv s m s' l k l' past (event ∷ events) ran more = (more.0, more.1, ran_more sv lv s m more.0 l k more.1 past events ran more.2, more.3)

module _ {S L C : Type 0} (sv : S → StoreView) (lv : L → LinkView) where
  calls_more : (before middle after : State S L C) (past events : List Event) → Calls sv lv before past middle → Calls sv lv middle events after → Calls sv lv before (events ++ past) after
  calls_more before middle after past events made more = record {
    ran = ran_more sv lv before.store middle.store after.store before.link middle.link after.link past events made.ran more.ran;
    chain = more.chain ∙ made.chain;
    checker = more.checker ∙ made.checker;
    refused = more.refused ∙ made.refused;
  }

  module _ {A M : Type 0} (accepts : C → Accepts) (sound : Accepts → A → ViewChain → M → List Event → Type 0) where
    pub goes_nowhere : (state : State S L C) (m : M) → Goes sv lv state state (sound (accepts state.checker)) m m
    goes_nowhere state m = record { events = []; calls = record { ran = (refl, refl); chain = refl; checker = refl; refused = refl }; leads = λ ask from past was. was }

    module _ (is_live : M → Bool) (before middle after : State S L C) (old m m' : M) where
      -- one call, which leads on
      abbrev Calling : Type 0
      Calling = (event : Event) × Calls sv lv middle (event ∷ []) after
          × ((ask : A) (from : ViewChain) (past : List Event) → sound (accepts middle.checker) ask from m past → sound (accepts middle.checker) ask from m' (event ∷ past))

      module _ (call : is_live m ≡ true → Calling) (ended : is_live m ≡ false → (after ≡ middle) × (m' ≡ m)) where
        more_calls : (goes : Goes sv lv before middle (sound (accepts before.checker)) old m) (one : Calling) → Calls sv lv before (one.0 ∷ goes.events) after
        more_calls goes one = calls_more before middle after goes.events (one.0 ∷ []) goes.calls one.1

        more_leads : (goes : Goes sv lv before middle (sound (accepts before.checker)) old m) (one : Calling) → LeadsBy (sound (accepts before.checker)) old (one.0 ∷ goes.events) m'
        more_leads goes one = λ ask from past was.
            subst (λ (a : Accepts). sound a ask from m (goes.events ++ past) → sound a ask from m' (one.0 ∷ (goes.events ++ past))) (ap accepts goes.calls.checker)
            (one.2 ask from (goes.events ++ past)) (goes.leads ask from past was)

        same_calls : (goes : Goes sv lv before middle (sound (accepts before.checker)) old m) → after ≡ middle → Calls sv lv before goes.events after
        same_calls goes same = subst (λ (state : State S L C). Calls sv lv before goes.events state) (sym same) goes.calls

        same_leads : (goes : Goes sv lv before middle (sound (accepts before.checker)) old m) → m' ≡ m → LeadsBy (sound (accepts before.checker)) old goes.events m'
        same_leads goes same = subst (λ (x : M). LeadsBy (sound (accepts before.checker)) old goes.events x) (sym same) goes.leads

        goes_by : (live : Bool) → is_live m ≡ live → Goes sv lv before middle (sound (accepts before.checker)) old m → Goes sv lv before after (sound (accepts before.checker)) old m'
        goes_by true live goes = let one = call live in record { events = one.0 ∷ goes.events; calls = more_calls goes one; leads = more_leads goes one }
        goes_by false dead goes = let same = ended dead in record { events = goes.events; calls = same_calls goes same.0; leads = same_leads goes same.1 }

        pub goes_on : Goes sv lv before middle (sound (accepts before.checker)) old m → Goes sv lv before after (sound (accepts before.checker)) old m'
        goes_on goes = goes_by (is_live m) refl goes

        for_by : (live : Bool) (n : ℕ) → is_live m ≡ live → GoesFor sv lv before middle (sound (accepts before.checker)) is_live old m n
            → GoesFor sv lv before after (sound (accepts before.checker)) is_live old m' (n + 1)
        for_by true n live goes =
            let one = call live in
            record {
              goes = record { events = one.0 ∷ goes.goes.events; calls = more_calls goes.goes one; leads = more_leads goes.goes one };
              few = omega (arith, goes.few);
              all = λ now. omega (arith, goes.all live);
            }
        for_by false n dead goes =
            let same = ended dead in
            record {
              goes = record { events = goes.goes.events; calls = same_calls goes.goes same.0; leads = same_leads goes.goes same.1 };
              few = omega (arith, goes.few);
              all = λ now. absurd (cc (sym now ∙ ap is_live same.1 ∙ dead));
            }

        pub goes_for : (n : ℕ) → GoesFor sv lv before middle (sound (accepts before.checker)) is_live old m n → GoesFor sv lv before after (sound (accepts before.checker)) is_live old m' (n + 1)
        goes_for n goes = for_by (is_live m) n refl goes

        pub goes_to_end : (i n : ℕ) → GoesFor sv lv before middle (sound (accepts before.checker)) is_live old m i → i < n → is_live m' ≡ false
            → GoesFor sv lv before after (sound (accepts before.checker)) is_live old m' n
        goes_to_end i n goes below dead =
            let more = goes_for i goes in
            record { goes = more.goes; few = omega (arith, more.few, below); all = λ now. absurd (cc (sym now ∙ dead)) }

    pub goes_for_nothing : (is_live : M → Bool) (state : State S L C) (m : M) → GoesFor sv lv state state (sound (accepts state.checker)) is_live m m 0
    goes_for_nothing is_live state m = record {
      goes = record { events = []; calls = record { ran = (refl, refl); chain = refl; checker = refl; refused = refl }; leads = λ ask from past was. was };
      few = omega arith;
      all = λ now. refl;
    }

    -- calls that led to a state at which this follows from all calls before it
    pub came : (before after : State S L C) (old new : M) (P : A → ViewChain → List Event → Type 0) → Goes sv lv before after (sound (accepts before.checker)) old new
        → ((ask : A) (from : ViewChain) (past : List Event) → sound (accepts before.checker) ask from new past → P ask from past)
        → CameTo sv lv before after (λ events. (ask : A) (from : ViewChain) (past : List Event) → sound (accepts before.checker) ask from old past → P ask from (events ++ past))
    came before after old new P goes last = record { events = goes.events; calls = goes.calls; ended = λ ask from past was. last ask from (goes.events ++ past) (goes.leads ask from past was) }
