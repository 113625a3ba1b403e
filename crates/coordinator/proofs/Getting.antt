-- The finals of a chain's views, one get after the other.
use Rattle.std.proofs.Common.{◌≡◌, inl, inr, ℕ, suc, ◌+◌, ◌-◌, ◌<◌, ◌≤◌, max, List, [], ◌∷◌, ◌++◌, length, Result, Ok, Err, refl, sym, ap, ◌∙◌, subst, arith}
use Rattle.std.proofs.lemmas.List.{append_assoc, append-nil, length-append}
use Rattle.port.specs.declared.key.Key.TheVariants as keys
use Rattle.port.specs.declared.store_answers.Got.{Got}
use Rattle.port.specs.Cause.{Cause, NoMemory}
use Rattle.port.specs.Store.{StoreView, StoreStep, Get, WasGot}
use Rattle.port.specs.Trace.{Event}
use Rattle.port.specs.View.{ViewRow}
use Rattle.view_ledger.specs.Views.{ViewChain}
use Rattle.view_ledger.specs.Receipts.{Accepts}
use Rattle.op_entry.specs.Refusal.{OrMemory}
use Rattle.coordinator.specs.ViewsGot.{Asked, finals_event, GaveView, IsFinalsRefused, ComesTo, AreGot}
use Rattle.coordinator.specs.ViewsRun.{GotTo, WasRefused, WasCut, HasGot, IsGetting}

module _ {S : Type 0} (accepts : Accepts) (sv : S → StoreView) (chain : ViewChain) (first : ℕ) (below : List ViewRow) (s : S) where
  pub begins : IsGetting accepts sv chain first first below below s s
  begins = record {
    above = [];
    is = sym (append-nil below);
    got = record { calls = []; asked = refl; got = refl; many = refl };
    next = omega arith;
    within = omega arith;
  }

  pub goes_on : (number : ℕ) (rows : List ViewRow) (row : ViewRow) (got : Got) (m s' : S) → IsGetting accepts sv chain first number below rows s m → number < length chain.configs
      → StoreStep sv m s' (Get (keys.Finals number)) (WasGot got) → GaveView accepts chain number row (finals_event number got)
      → IsGetting accepts sv chain first (number + 1) below (rows ++ row ∷ []) s s'
  goes_on number rows row got m s' is known step gave =
      let many : length is.got.calls ≡ length is.above = sym is.got.many in
      let place : number ≡ first + length is.got.calls = omega (arith, is.next, many) in
      let longer : length (is.above ++ row ∷ []) ≡ length is.above + 1 = length-append is.above (row ∷ []) in
      record {
        above = is.above ++ row ∷ [];
        is = ap (λ (l : List ViewRow). l ++ row ∷ []) is.is ∙ append_assoc below is.above (row ∷ []);
        got = record {
          calls = finals_event number got ∷ is.got.calls;
          asked = (m, is.got.asked, step);
          got = (row, is.above, refl, subst (λ (n : ℕ). GaveView accepts chain n row (finals_event number got)) place gave, is.got.got);
          many = omega (arith, longer, many);
        };
        next = omega (arith, longer, is.next);
        within = omega (arith, known);
      }

  pub refused : (number : ℕ) (rows : List ViewRow) (got : Got) (cause : Cause) (m s' : S) → IsGetting accepts sv chain first number below rows s m → number < length chain.configs
      → StoreStep sv m s' (Get (keys.Finals number)) (WasGot got) → OrMemory (IsFinalsRefused accepts chain number (finals_event number got)) cause
      → HasGot accepts sv chain first below s s' (Err cause)
  refused number rows got cause m s' is known step why =
      inl (record {
        got = got;
        past = is.got.calls;
        rows = is.above;
        asked = subst (λ (n : ℕ). Asked sv s (finals_event n got ∷ is.got.calls) s') is.next (m, is.got.asked, step);
        are = is.got.got;
        known = subst (λ (n : ℕ). n < length chain.configs) is.next known;
        refused = subst (λ (n : ℕ). OrMemory (IsFinalsRefused accepts chain n (finals_event n got)) cause) is.next why;
      })

  pub cut : (number : ℕ) (rows : List ViewRow) (s' : S) → IsGetting accepts sv chain first number below rows s s' → HasGot accepts sv chain first below s s' (Err NoMemory)
  cut number rows s' is = inr (is.above, is.got)

  pub ends : (number : ℕ) (rows : List ViewRow) (s' : S) → IsGetting accepts sv chain first number below rows s s' → length chain.configs ≤ number → HasGot accepts sv chain first below s s' (Ok rows)
  ends number rows s' is reached = (is.above, is.is, is.got, omega (arith, reached, is.next, is.within))
