-- A store that departs from nothing answers as an honest one does.
use Rattle.std.proofs.Common.{◌≡◌, ⊎_elim, ℕ, ◌+◌, false, None, List, [], ◌∷◌, Some, sym, ◌∙◌, ap, subst, arith, Bool, Option}
use Rattle.port.specs.declared.key.Key.{Key}
use Rattle.port.specs.declared.store_answers.Put.TheVariants as puts
use Rattle.port.specs.declared.store_answers.Got.TheVariants as gots
use Rattle.port.specs.declared.store_answers.Attached.TheVariants as attaches
use Rattle.port.specs.Contents.{Contents}
use Rattle.port.specs.Store.{StoreCall, PutNew, Get, Attach, StoreAnswer, WasPut, WasGot, WasAttached, Truth, Answers, IsHonest, at, failures}
use Rattle.port.specs.Trace.{Event, AtStore, AtLink, AreHonest, AllFollow}
use Rattle.blob_store.specs.TrueStores.{NeitherLiesNorFails}

-- what it answers is what an honest store answers
true_answer : (truth : Truth) (call : StoreCall) (answer : StoreAnswer) (after : Contents) → NeitherLiesNorFails truth → failures answer ≡ 0
    → Answers truth call answer after → IsHonest truth.contents call answer after
true_answer truth (PutNew key body) (WasPut puts.Done) after neither none did =
    let forks : truth.forks key ≡ false = ap (λ forks. forks key) neither.forks in
    (⊎_elim (λ free. free) (λ replaces. cc (sym replaces ∙ forks)) did.0, did.1)
true_answer truth (PutNew key body) (WasPut puts.Taken) after neither none did = (did.0, did.2)
true_answer truth (PutNew key body) (WasPut puts.Failed) after neither none did = cc none
true_answer truth (PutNew key body) (WasPut puts.NoMemory) after neither none did = did
true_answer truth (PutNew key body) (WasGot got) after neither none did = absurd did
true_answer truth (PutNew key body) (WasAttached attached) after neither none did = absurd did
true_answer truth (Get key) (WasGot (gots.Some stored)) after neither none did =
    (subst (λ source. at truth.contents (source key) ≡ Some stored) neither.source did.0, did.1)
true_answer truth (Get key) (WasGot gots.None) after neither none did =
    (subst (λ source. at truth.contents (source key) ≡ None) neither.source did.0, did.1)
true_answer truth (Get key) (WasGot gots.Failed) after neither none did = cc none
true_answer truth (Get key) (WasGot gots.NoMemory) after neither none did = did
true_answer truth (Get key) (WasPut put) after neither none did = absurd did
true_answer truth (Get key) (WasAttached attached) after neither none did = absurd did
true_answer truth (Attach key bytes) (WasAttached attaches.Done) after neither none did = did
true_answer truth (Attach key bytes) (WasAttached attaches.Absent) after neither none did = did
true_answer truth (Attach key bytes) (WasAttached attaches.Failed) after neither none did = cc none
true_answer truth (Attach key bytes) (WasAttached attaches.NoMemory) after neither none did = did
true_answer truth (Attach key bytes) (WasPut put) after neither none did = absurd did
true_answer truth (Attach key bytes) (WasGot got) after neither none did = absurd did

-- it answered so, and departs from nothing then
pub record WereHonest (truth : Truth) (events : List Event) (after : Truth) : Type 0 where
  pub honest : AreHonest truth.contents events after.contents
  pub neither : NeitherLiesNorFails after

pub were_honest : (truth : Truth) (events : List Event) (after : Truth) → NeitherLiesNorFails truth → AllFollow truth events after → WereHonest truth events after
were_honest truth [] after neither follow = record { honest = ap (λ (t : Truth). t.contents) follow; neither = subst NeitherLiesNorFails (sym follow) neither }
were_honest truth (AtStore call answer ∷ past) after neither follow =
    let was = were_honest truth past follow.0 neither follow.1 in
    let step = follow.2 in
    let due : follow.0.due ≡ 0 = was.neither.due in
    let sum : follow.0.due ≡ after.due + failures answer = step.due in
    record {
      honest = (follow.0.contents, was.honest, true_answer follow.0 call answer after.contents was.neither (omega (arith, due, sum)) step.contents);
      neither = record { source = step.same_source ∙ was.neither.source; forks = step.same_forks ∙ was.neither.forks; due = omega (arith, due, sum) };
    }
were_honest truth (AtLink id call heard ∷ past) after neither follow =
    let was = were_honest truth past after neither follow in
    record { honest = was.honest; neither = was.neither }

-- two that depart from nothing differ in their contents alone
abbrev made : Contents → (Key → Option Key) → (Key → Bool) → ℕ → Truth
made contents source forks due = record { contents = contents; source = source; forks = forks; due = due }

pub same_truth : (truth after : Truth) → NeitherLiesNorFails truth → NeitherLiesNorFails after → after ≡ record truth { contents = after.contents }
same_truth truth after neither then =
    ap (λ (source : Key → Option Key). made after.contents source after.forks after.due) (then.source ∙ sym neither.source)
    ∙ ap (λ (forks : Key → Bool). made after.contents truth.source forks after.due) (then.forks ∙ sym neither.forks)
    ∙ ap (λ (due : ℕ). made after.contents truth.source truth.forks due) (then.due ∙ sym neither.due)
