-- The setting up of view 0 by a coordinator.
use Rattle.std.proofs.Common.{◌≡◌, ◌≤◌, ℕ, List, [], ◌∷◌, length, Some, Result, Ok, Err, refl, sym, ap, ◌∙◌, subst, arith}
use Rattle.std.proofs.lemmas.List.{append-nil}
use Rattle.statement.specs.declared.member.Member.{Member}
use Rattle.port.specs.Cause.{Cause, NoMemory}
use Rattle.port.specs.Contents.{Contents}
use Rattle.port.specs.Link.{LinkView, Bank}
use Rattle.port.specs.Store.{StoreView}
use Rattle.port.specs.Trace.{Event, Ran, AreHonest, AreFaithful}
use Rattle.port.specs.View.{ViewRow}
use Rattle.view_ledger.specs.Receipts.{Accepts}
use Rattle.view_ledger.specs.Views.{ViewChain}
use Rattle.calm.specs.Calls.{Later}
use Rattle.calm.specs.Calm.{IsCalm}
use Rattle.calm_first.specs.First.{BeforeFirst, CalmFirst}
use Rattle.coordinator.specs.CalmStates.{IsBeforeFirst, WasHonest, BeginsCalm, begun}
use Rattle.coordinator.specs.First.{FirstServed, SaysOfFirst}
use Rattle.coordinator.specs.State.{State}
use Rattle.coordinator.proofs.CalmServing.{RunLaws, signs_stay}

module _ {S L C : Type 0} (accepts : C → Accepts) (sv : S → StoreView) (lv : L → LinkView) (runs : RunLaws sv lv) (old new : State S L C) (first : BeforeFirst)
    (before : IsBeforeFirst accepts sv lv old first) (honest : WasHonest sv lv old new first.contents) (events : List Event)
    (ran : Ran sv lv old.store old.link events new.store new.link) (same : new.checker ≡ old.checker) where
  store_then : (after : Contents) × ((sv new.store).told ≡ Some after) × AreHonest first.contents events after
  store_then = honest events ran

  link_then : (after : Bank) × ((lv new.link).told ≡ Some after) × AreFaithful (lv old.link).signs first.bank events after
  link_then = runs.faithful old.store new.store old.link new.link events ran first.bank before.bank

  abbrev now : Later
  now = record { contents = store_then.0; bank = link_then.0; left = first.left }

  began : (answer : Result ViewRow Cause) → new.chain ≡ old.chain → CalmFirst first old.chain.roster answer now → BeginsCalm accepts sv lv new first answer
  began (Ok row) chain is = (
    is.0,
    (
      now,
      refl,
      record {
        tells = record {
          contents = store_then.1;
          bank = link_then.1;
          signs = signs_stay sv lv old.store new.store old.link new.link events ran ∙ before.signs;
          checks = ap accepts same ∙ before.checks;
          front = record { genuine = refl; some = subst (λ (c : ViewChain). 1 ≤ length c.configs) (sym chain) (subst (λ (l : List (List Member)). 1 ≤ length l) (sym before.alone) (omega arith)); rest = []; split = sym (append-nil new.chain.configs ∙ ap (λ (c : ViewChain). c.configs) chain ∙ before.alone) };
        };
        calm = subst (λ (c : ViewChain). IsCalm (begun first c.roster now)) (sym chain) is.1;
      },
    ),
  )
  began (Err NoMemory) chain is = tt
  began (Err cause) chain is = absurd is

  pub begins : (answer : Result ViewRow Cause) → FirstServed (accepts old.checker) old.chain new.chain events answer → BeginsCalm accepts sv lv new first answer
  unfolding began
  begins answer served =
      began answer served.same
      (served.calm first now (sym before.checks) before.alone refl store_then.2 (subst (λ signs. AreFaithful signs first.bank events link_then.0) before.signs link_then.2))

pub begins_calm : {S L C : Type 0} (accepts : C → Accepts) (sv : S → StoreView) (lv : L → LinkView) → RunLaws sv lv → (old new : State S L C) (answer : Result ViewRow Cause) (first : BeforeFirst)
    → SaysOfFirst accepts sv lv old new answer → IsBeforeFirst accepts sv lv old first → WasHonest sv lv old new first.contents → BeginsCalm accepts sv lv new first answer
begins_calm accepts sv lv runs old new answer first says before honest =
    begins accepts sv lv runs old new first before honest says.served.events says.served.ran says.served.checker answer says.served.did
