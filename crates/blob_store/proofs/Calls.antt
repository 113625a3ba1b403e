-- One call of a store in memory.
use Rattle.std.proofs.Common.{◌≡◌, ◌⊎◌, inl, inr, ⊎_elim, ℕ, zero, suc, ◌<◌, ◌≤◌, arith, Bool, true, false, List, [], ◌∷◌, ◌++◌, Option, refl, sym, ap, subst}
use Rattle.std.specs.Option.{unwrap_or}
use Rattle.std.proofs.lemmas.Bool.{cases_Bool}
use Rattle.std.specs.List.{Contains}
use Rattle.std.proofs.lemmas.List.Elements.{Contains-append_cases, Contains-append_left, Contains-append_right}
use Rattle.port.specs.declared.key.Key.{Key}
use Rattle.port.specs.Count.{next}
use Rattle.port.specs.Contents.{Contents}
use Rattle.port.specs.Store.{StoreCall, StoreAnswer, StoreView, StoreStep, IsHonest, Truth, Follows, is_failed, is_no_memory}
use Rattle.blob_store.specs.Line.{Line, IsNoted, WasLogged}
use Rattle.blob_store.specs.Rows.{contents_of}
use Rattle.blob_store.specs.Memory.{memory_view, truth_of}
use Rattle.blob_store.specs.Lies.{source_of, forks_of}
use Rattle.blob_store.specs.LyingStore.{lying_view}
use Rattle.blob_store.specs.declared.memory.Memory.{Memory}
use Rattle.blob_store.specs.declared.lies.Lies.{Lies}
use Rattle.blob_store.specs.declared.lying_store.LyingStore.{LyingStore}

module _ (source : Key → Option Key) (forks : Key → Bool) (old new : Memory) (call : StoreCall) (answer : StoreAnswer) where
  -- what a call does beside its line in the list
  pub record Does : Type 0 where
    pub calls : new.calls ≡ next old.calls
    pub later : old.faults ≤ new.faults
    pub failed : is_failed answer ≡ true → old.faults < new.faults
    pub honest : new.faults ≡ old.faults → IsHonest (contents_of old.rows) call answer (contents_of new.rows)
    pub follows : Follows (truth_of source forks old) call answer (truth_of source forks new)

  step : (made : WasLogged new.log old.calls call answer) → ((n : ℕ) (c : StoreCall) (a : StoreAnswer) → WasLogged old.log n c a → WasLogged new.log n c a) → Does → StoreStep (memory_view source forks) old new call answer
  step made keeps does = record {
    later = does.later;
    failed = does.failed;
    counted = does.calls;
    made = made;
    keeps = keeps;
    honest = λ contents tells same. (contents_of new.rows, refl, subst (λ (x : Contents). IsHonest x call answer (contents_of new.rows)) (ap (λ (o : Option Contents). unwrap_or o (contents_of old.rows)) tells) (does.honest same));
    follows = λ truth tells. (truth_of source forks new, refl, subst (λ (x : Truth). Follows x call answer (truth_of source forks new)) (ap (λ (o : Option Truth). unwrap_or o (truth_of source forks old)) tells) does.follows);
  }

  -- the call was added to the list
  pub logged : new.log ≡ old.log ++ record { number = old.calls; call = call; answer = answer } ∷ [] → Does → StoreStep (memory_view source forks) old new call answer
  logged is does =
      let line : Line = record { number = old.calls; call = call; answer = answer } in
      step
      (inr (subst (λ (l : List Line). Contains l line) (sym is) (Contains-append_right old.log (line ∷ []) line (0, omega arith, refl))))
      (λ n c a was. subst (λ (l : List Line). WasLogged l n c a) (sym is) (⊎_elim (λ e. inl e) (λ h. inr (Contains-append_left old.log (line ∷ []) _ h)) was))
      does

  -- the call found no memory
  pub unlogged : is_no_memory answer ≡ true → new.log ≡ old.log → Does → StoreStep (memory_view source forks) old new call answer
  unlogged none is does = step (inl none) (λ n c a was. subst (λ (l : List Line). WasLogged l n c a) (sym is) was) does

-- a call of what a value holds is a call of the value
pub carried : {S T : Type 0} (view : S → StoreView) (part : T → S) (old new : T) (call : StoreCall) (answer : StoreAnswer) → StoreStep view (part old) (part new) call answer → StoreStep (λ t. view (part t)) old new call answer
carried view part old new call answer step = record {
  later = step.later;
  failed = step.failed;
  counted = step.counted;
  made = step.made;
  keeps = step.keeps;
  honest = step.honest;
  follows = step.follows;
}

-- a call of a store that lies, where its lies stay
pub lied : (old new : LyingStore) (call : StoreCall) (answer : StoreAnswer) → new.lies ≡ old.lies
    → StoreStep (memory_view (source_of old.lies) (forks_of old.lies)) old.memory new.memory call answer → StoreStep lying_view old new call answer
lied old new call answer same step =
    subst (λ (lies : Lies). StoreStep lying_view old (record { memory = new.memory; lies = lies }) call answer) (sym same) (record {
      later = step.later;
      failed = step.failed;
      counted = step.counted;
      made = step.made;
      keeps = step.keeps;
      honest = step.honest;
      follows = step.follows;
    })

alone : (line other : Line) → Contains (line ∷ []) other → other ≡ line
alone line other (zero, lt, e) = sym e
alone line other (suc i, lt, e) = absurd (omega (arith, lt))

-- what stands where a call was noted stood before, or is this call
pub noted_alone : (old new : List Line) (line : Line) → IsNoted old new line
    → (n : ℕ) (c : StoreCall) (a : StoreAnswer) → is_no_memory a ≡ false → WasLogged new n c a
    → WasLogged old n c a ⊎ ((n ≡ line.number) × (c ≡ line.call) × (a ≡ line.answer))
noted_alone old new line noted n c a some was =
    elim (cases_Bool (is_no_memory line.answer)) [
      | inl none ↦ let same : new ≡ old = rw none at noted in inl (subst (λ (l : List Line). WasLogged l n c a) same was)
      | inr kept ↦ let more : new ≡ old ++ line ∷ [] = rw kept at noted in by_place (subst (λ (l : List Line). WasLogged l n c a) more was)
    ]
  where
    by_place : WasLogged (old ++ line ∷ []) n c a → WasLogged old n c a ⊎ ((n ≡ line.number) × (c ≡ line.call) × (a ≡ line.answer))
    by_place (inl none) = absurd cc
    by_place (inr h) = ⊎_elim (λ before. inl (inr before)) (λ last. let is : record { number = n; call = c; answer = a } ≡ line = alone line _ last in inr (ap (λ (l : Line). l.number) is, ap (λ (l : Line). l.call) is, ap (λ (l : Line). l.answer) is)) (Contains-append_cases old (line ∷ []) _ h)
