-- Laws of lists of calls.
use Rattle.std.proofs.Common.{◌≡◌, ◌⊎◌, inl, inr, ⊎_elim, ℕ, ◌+◌, ◌<◌, ◌≤◌, Bool, true, false, List, [], ◌∷◌, Some, refl, sym, ◌∙◌, ap, subst, arith}
use Rattle.port.specs.Count.{next}
use Rattle.port.specs.Call.{Call}
use Rattle.port.specs.Contents.{Contents}
use Rattle.port.specs.Heard.{Heard, Lost}
use Rattle.port.specs.Store.{StoreCall, StoreAnswer, StoreView, Truth, is_failed, failures}
use Rattle.port.specs.Link.{LinkView, Bank, Served, IsFaithful, losses}
use Rattle.port.specs.Trace.{Event, AtStore, AtLink, Ran, Had, StoreFact, LinkFact, AreHonest, AllFollow, AreFaithful, AllServe, failed_in, lost_in}

abbrev StoreFactAt : {S : Type 0} → (S → StoreView) → S → S → Event → Type 0
StoreFactAt sv s s' (AtStore c a) = StoreFact sv s s' c a
StoreFactAt sv s s' (AtLink id c h) = Unit {0}

abbrev LinkFactAt : {L : Type 0} → (L → LinkView) → L → L → Event → Type 0
LinkFactAt lv l l' (AtStore c a) = Unit {0}
LinkFactAt lv l l' (AtLink id c h) = LinkFact lv l l' id c h

abbrev FailedAt : Event → Type 0
FailedAt (AtStore c a) = is_failed a ≡ true
FailedAt (AtLink id c h) = ⊥

abbrev LostAt : ℕ → Event → Type 0
LostAt i (AtStore c a) = ⊥
LostAt i (AtLink id c h) = (id ≡ i) × (h ≡ Lost)

module _ {S L : Type 0} (sv : S → StoreView) (lv : L → LinkView) where
  store_calls_rise : (s s' : S) (l l' : L) (events : List Event) → Ran sv lv s l events s' l' → (sv s).calls ≤ (sv s').calls
  store_calls_rise s s' l l' [] r = subst (λ (x : S). (sv s).calls ≤ (sv x).calls) (sym r.0) (omega arith)
  store_calls_rise s s' l l' (AtStore call answer ∷ past) r =
      let lo : (sv s).calls ≤ (sv r.0).calls = store_calls_rise s r.0 l r.1 past r.2 in
      let n : (sv s').calls ≡ next (sv r.0).calls = r.3.0.counted in
      omega (arith, lo, n)
  store_calls_rise s s' l l' (AtLink id call heard ∷ past) r =
      subst (λ (x : S). (sv s).calls ≤ (sv x).calls) (sym r.3.1) (store_calls_rise s r.0 l r.1 past r.2)

  link_calls_rise : (s s' : S) (l l' : L) (events : List Event) → Ran sv lv s l events s' l' → (lv l).calls ≤ (lv l').calls
  link_calls_rise s s' l l' [] r = subst (λ (x : L). (lv l).calls ≤ (lv x).calls) (sym r.1) (omega arith)
  link_calls_rise s s' l l' (AtLink id call heard ∷ past) r =
      let lo : (lv l).calls ≤ (lv r.1).calls = link_calls_rise s r.0 l r.1 past r.2 in
      let n : (lv l').calls ≡ next (lv r.1).calls = r.3.0.counted in
      omega (arith, lo, n)
  link_calls_rise s s' l l' (AtStore call answer ∷ past) r =
      subst (λ (x : L). (lv l).calls ≤ (lv x).calls) (sym r.3.1) (link_calls_rise s r.0 l r.1 past r.2)

  pub store_fact : (s s' : S) (l l' : L) (events : List Event) → Ran sv lv s l events s' l' → (c : StoreCall) (a : StoreAnswer) → Had events (AtStore c a) → StoreFact sv s s' c a
  store_fact s s' l l' [] r c a had = absurd had
  store_fact s s' l l' (AtStore call answer ∷ past) r c a (inl is) =
      subst (λ (x : Event). StoreFactAt sv s s' x) is ((sv r.0).calls, store_calls_rise s r.0 l r.1 past r.2, r.3.0.made)
  store_fact s s' l l' (AtStore call answer ∷ past) r c a (inr had) =
      let h = store_fact s r.0 l r.1 past r.2 c a had in (h.0, h.1, r.3.0.keeps h.0 c a h.2)
  store_fact s s' l l' (AtLink id call heard ∷ past) r c a (inl is) = cc is
  store_fact s s' l l' (AtLink id call heard ∷ past) r c a (inr had) =
      subst (λ (x : S). StoreFact sv s x c a) (sym r.3.1) (store_fact s r.0 l r.1 past r.2 c a had)

  pub link_fact : (s s' : S) (l l' : L) (events : List Event) → Ran sv lv s l events s' l' → (i : ℕ) (c : Call) (h : Heard) → Had events (AtLink i c h) → LinkFact lv l l' i c h
  link_fact s s' l l' [] r i c h had = absurd had
  link_fact s s' l l' (AtLink id call heard ∷ past) r i c h (inl is) =
      subst (λ (x : Event). LinkFactAt lv l l' x) is ((lv r.1).calls, link_calls_rise s r.0 l r.1 past r.2, r.3.0.made)
  link_fact s s' l l' (AtLink id call heard ∷ past) r i c h (inr had) =
      let f = link_fact s r.0 l r.1 past r.2 i c h had in (f.0, f.1, r.3.0.keeps f.0 i c h f.2)
  link_fact s s' l l' (AtStore call answer ∷ past) r i c h (inl is) = cc is
  link_fact s s' l l' (AtStore call answer ∷ past) r i c h (inr had) =
      subst (λ (x : L). LinkFact lv l x i c h) (sym r.3.1) (link_fact s r.0 l r.1 past r.2 i c h had)

  pub store_faults : (s s' : S) (l l' : L) (events : List Event) → Ran sv lv s l events s' l' → (sv s).faults ≤ (sv s').faults
  store_faults s s' l l' [] r = subst (λ (x : S). (sv s).faults ≤ (sv x).faults) (sym r.0) (omega arith)
  store_faults s s' l l' (AtStore call answer ∷ past) r =
      let h : (sv s).faults ≤ (sv r.0).faults = store_faults s r.0 l r.1 past r.2 in
      let k : (sv r.0).faults ≤ (sv s').faults = r.3.0.later in
      omega (arith, h, k)
  store_faults s s' l l' (AtLink id call heard ∷ past) r = subst (λ (x : S). (sv s).faults ≤ (sv x).faults) (sym r.3.1) (store_faults s r.0 l r.1 past r.2)

  pub failed_rose : (s s' : S) (l l' : L) (events : List Event) → Ran sv lv s l events s' l' → (c : StoreCall) (a : StoreAnswer) → Had events (AtStore c a) → is_failed a ≡ true → (sv s).faults < (sv s').faults
  failed_rose s s' l l' [] r c a had failed = absurd had
  failed_rose s s' l l' (AtStore call answer ∷ past) r c a (inl is) failed =
      let lo : (sv s).faults ≤ (sv r.0).faults = store_faults s r.0 l r.1 past r.2 in
      let hi : (sv r.0).faults < (sv s').faults = r.3.0.failed (subst FailedAt (sym is) failed) in
      omega (arith, lo, hi)
  failed_rose s s' l l' (AtStore call answer ∷ past) r c a (inr had) failed =
      let lo : (sv s).faults < (sv r.0).faults = failed_rose s r.0 l r.1 past r.2 c a had failed in
      let hi : (sv r.0).faults ≤ (sv s').faults = r.3.0.later in
      omega (arith, lo, hi)
  failed_rose s s' l l' (AtLink id call heard ∷ past) r c a (inl is) failed = cc is
  failed_rose s s' l l' (AtLink id call heard ∷ past) r c a (inr had) failed =
      subst (λ (x : S). (sv s).faults < (sv x).faults) (sym r.3.1) (failed_rose s r.0 l r.1 past r.2 c a had failed)

  pub link_faults : (s s' : S) (l l' : L) (events : List Event) → Ran sv lv s l events s' l' → (i : ℕ) → (lv l).faults i ≤ (lv l').faults i
  link_faults s s' l l' [] r i = subst (λ (x : L). (lv l).faults i ≤ (lv x).faults i) (sym r.1) (omega arith)
  link_faults s s' l l' (AtLink id call heard ∷ past) r i =
      let h : (lv l).faults i ≤ (lv r.1).faults i = link_faults s r.0 l r.1 past r.2 i in
      let k : (lv r.1).faults i ≤ (lv l').faults i = r.3.0.later i in
      omega (arith, h, k)
  link_faults s s' l l' (AtStore call answer ∷ past) r i = subst (λ (x : L). (lv l).faults i ≤ (lv x).faults i) (sym r.3.1) (link_faults s r.0 l r.1 past r.2 i)

  pub same_ids : (s s' : S) (l l' : L) (events : List Event) → Ran sv lv s l events s' l' → (i : ℕ) → (lv l').has i ≡ (lv l).has i
  same_ids s s' l l' [] r i = ap (λ (x : L). (lv x).has i) r.1
  same_ids s s' l l' (AtLink id call heard ∷ past) r i = r.3.0.same_ids i ∙ same_ids s r.0 l r.1 past r.2 i
  same_ids s s' l l' (AtStore call answer ∷ past) r i = ap (λ (x : L). (lv x).has i) r.3.1 ∙ same_ids s r.0 l r.1 past r.2 i

  pub same_signs : (s s' : S) (l l' : L) (events : List Event) → Ran sv lv s l events s' l' → (lv l').signs ≡ (lv l).signs
  same_signs s s' l l' [] r = ap (λ (x : L). (lv x).signs) r.1
  same_signs s s' l l' (AtLink id call heard ∷ past) r = r.3.0.same_signs ∙ same_signs s r.0 l r.1 past r.2
  same_signs s s' l l' (AtStore call answer ∷ past) r = ap (λ (x : L). (lv x).signs) r.3.1 ∙ same_signs s r.0 l r.1 past r.2

  pub lost_rose : (s s' : S) (l l' : L) (events : List Event) → Ran sv lv s l events s' l' → (i : ℕ) (c : Call) → Had events (AtLink i c Lost) → ((lv l).faults i < (lv l').faults i) ⊎ ((lv l).has i ≡ false)
  lost_rose s s' l l' [] r i c had = absurd had
  lost_rose s s' l l' (AtLink id call heard ∷ past) r i c (inl is) =
      let at = subst (LostAt i) (sym is) (refl, refl) in
      let lo : (lv l).faults i ≤ (lv r.1).faults i = link_faults s r.0 l r.1 past r.2 i in
      let rose = subst (λ (n : ℕ). ((lv r.1).faults n < (lv l').faults n) ⊎ ((lv r.1).has n ≡ false)) at.0 (r.3.0.lost at.1) in
      ⊎_elim (λ (hi : (lv r.1).faults i < (lv l').faults i). inl (omega (arith, lo, hi))) (λ none. inr (sym (same_ids s r.0 l r.1 past r.2 i) ∙ none)) rose
  lost_rose s s' l l' (AtLink id call heard ∷ past) r i c (inr had) =
      let hi : (lv r.1).faults i ≤ (lv l').faults i = r.3.0.later i in
      ⊎_elim (λ (lo : (lv l).faults i < (lv r.1).faults i). inl (omega (arith, lo, hi))) (λ none. inr none) (lost_rose s r.0 l r.1 past r.2 i c had)
  lost_rose s s' l l' (AtStore call answer ∷ past) r i c (inl is) = cc is
  lost_rose s s' l l' (AtStore call answer ∷ past) r i c (inr had) =
      subst (λ (x : L). ((lv l).faults i < (lv x).faults i) ⊎ ((lv l).has i ≡ false)) (sym r.3.1) (lost_rose s r.0 l r.1 past r.2 i c had)

  abbrev Honest : Contents → List Event → S → Type 0
  Honest contents events s' = (after : Contents) × ((sv s').told ≡ Some after) × AreHonest contents events after

  pub honest_run : (s s' : S) (l l' : L) (events : List Event) → Ran sv lv s l events s' l' → (contents : Contents) → (sv s).told ≡ Some contents → (sv s').faults ≡ (sv s).faults → Honest contents events s'
  honest_run s s' l l' [] r contents tells same = (contents, subst (λ (x : S). (sv x).told ≡ Some contents) (sym r.0) tells, refl)
  honest_run s s' l l' (AtStore call answer ∷ past) r contents tells same =
      let lo : (sv s).faults ≤ (sv r.0).faults = store_faults s r.0 l r.1 past r.2 in
      let hi : (sv r.0).faults ≤ (sv s').faults = r.3.0.later in
      let h = honest_run s r.0 l r.1 past r.2 contents tells (omega (arith, lo, hi, same)) in
      let n = r.3.0.honest h.0 h.1 (omega (arith, lo, hi, same)) in
      (n.0, n.1, (h.0, h.2, n.2))
  honest_run s s' l l' (AtLink id call heard ∷ past) r contents tells same =
      let h = honest_run s r.0 l r.1 past r.2 contents tells (sym (ap (λ (x : S). (sv x).faults) r.3.1) ∙ same) in
      (h.0, ap (λ (x : S). (sv x).told) r.3.1 ∙ h.1, h.2)

  abbrev Followed : Truth → List Event → S → Type 0
  Followed truth events s' = (after : Truth) × ((sv s').truth ≡ Some after) × AllFollow truth events after × (truth.due ≡ after.due + failed_in events)

  pub follow_run : (s s' : S) (l l' : L) (events : List Event) → Ran sv lv s l events s' l' → (truth : Truth) → (sv s).truth ≡ Some truth → Followed truth events s'
  follow_run s s' l l' [] r truth tells = (truth, subst (λ (x : S). (sv x).truth ≡ Some truth) (sym r.0) tells, refl, omega arith)
  follow_run s s' l l' (AtStore call answer ∷ past) r truth tells =
      let h = follow_run s r.0 l r.1 past r.2 truth tells in
      let n = r.3.0.follows h.0 h.1 in
      let before : truth.due ≡ h.0.due + failed_in past = h.3 in
      let now : h.0.due ≡ n.0.due + failures answer = n.2.due in
      (n.0, n.1, (h.0, h.2, n.2), omega (arith, before, now))
  follow_run s s' l l' (AtLink id call heard ∷ past) r truth tells =
      let h = follow_run s r.0 l r.1 past r.2 truth tells in
      (h.0, ap (λ (x : S). (sv x).truth) r.3.1 ∙ h.1, h.2, h.3)

  abbrev Faithful : (List ℕ → List ℕ → List ℕ → Bool) → Bank → List Event → L → Type 0
  Faithful signs bank events l' = (after : Bank) × ((lv l').told ≡ Some after) × AreFaithful signs bank events after

  pub faithful_run : (s s' : S) (l l' : L) (events : List Event) → Ran sv lv s l events s' l' → (bank : Bank) → (lv l).told ≡ Some bank → Faithful (lv l).signs bank events l'
  faithful_run s s' l l' [] r bank tells = (bank, subst (λ (x : L). (lv x).told ≡ Some bank) (sym r.1) tells, refl)
  faithful_run s s' l l' (AtLink id call heard ∷ past) r bank tells =
      let h = faithful_run s r.0 l r.1 past r.2 bank tells in
      let n = r.3.0.faithful h.0 h.1 in
      (n.0, n.1, (h.0, h.2, subst (λ (signs : List ℕ → List ℕ → List ℕ → Bool). IsFaithful signs h.0 id call heard n.0) (same_signs s r.0 l r.1 past r.2) n.2))
  faithful_run s s' l l' (AtStore call answer ∷ past) r bank tells =
      let h = faithful_run s r.0 l r.1 past r.2 bank tells in
      (h.0, ap (λ (x : L). (lv x).told) r.3.1 ∙ h.1, h.2)

  abbrev AreServed : List Served → List Event → L → Type 0
  AreServed served events l' = (after : List Served) × ((lv l').served ≡ Some after) × AllServe served events after

  pub serve_run : (s s' : S) (l l' : L) (events : List Event) → Ran sv lv s l events s' l' → (served : List Served) → (lv l).served ≡ Some served → AreServed served events l'
  serve_run s s' l l' [] r served tells = (served, subst (λ (x : L). (lv x).served ≡ Some served) (sym r.1) tells, refl)
  serve_run s s' l l' (AtLink id call heard ∷ past) r served tells =
      let h = serve_run s r.0 l r.1 past r.2 served tells in
      let n = r.3.0.serves h.0 h.1 in
      (n.0, n.1, (h.0, h.2, n.2))
  serve_run s s' l l' (AtStore call answer ∷ past) r served tells =
      let h = serve_run s r.0 l r.1 past r.2 served tells in
      (h.0, ap (λ (x : L). (lv x).served) r.3.1 ∙ h.1, h.2)

  abbrev AreDue : (ℕ → Bool) → (ℕ → ℕ) → List Event → L → Type 0
  AreDue has before events l' = (after : ℕ → ℕ) × ((lv l').due ≡ Some after) × ((id : ℕ) → has id ≡ true → before id ≡ after id + lost_in id events)

  pub due_run : (s s' : S) (l l' : L) (events : List Event) → Ran sv lv s l events s' l' → (before : ℕ → ℕ) → (lv l).due ≡ Some before → AreDue (lv l).has before events l'
  due_run s s' l l' [] r before tells = (before, subst (λ (x : L). (lv x).due ≡ Some before) (sym r.1) tells, λ id has. omega arith)
  due_run s s' l l' (AtLink id call heard ∷ past) r before tells =
      let h = due_run s r.0 l r.1 past r.2 before tells in
      let n = r.3.0.due h.0 h.1 in (
        n.0,
        n.1,
        λ other has.
            let then : before other ≡ h.0 other + lost_in other past = h.2 other has in
            let now : h.0 other ≡ n.0 other + losses id heard other = n.2 other (same_ids s r.0 l r.1 past r.2 other ∙ has) in
            omega (arith, then, now),
      )
  due_run s s' l l' (AtStore call answer ∷ past) r before tells =
      let h = due_run s r.0 l r.1 past r.2 before tells in
      (h.0, ap (λ (x : L). (lv x).due) r.3.1 ∙ h.1, h.2)
