-- Lists of places that grow by a line, and the calls that they are of.
use Rattle.std.proofs.Common.{◌≡◌, ℕ, zero, suc, ◌+◌, true, cond, List, [], ◌∷◌, ◌++◌, map, Option, Some, None, refl, sym, ap, ◌∙◌, arith, append_assoc}
use Rattle.std.specs.Prelude.{reverse, option_to_list, option_and_then, slice_get, take, IsSome}
use Rattle.std.specs.List.{cons_option, AllByRecursion}
use Rattle.std.proofs.lemmas.List.{map-append, reverse-append}
use Rattle.std.proofs.lemmas.List.Elements.{filter_map-append}
use Rattle.port.specs.Call.{Call}
use Rattle.port.specs.Answer.{Answer, Done, Signed, Finaled, Shown, Refused, Behind, Stands, OtherTail, NotGenesis, Full, Tall, NotMember, BadView, BadProof, WrongPhase, HasEnded, OtherNext, Spent, LogFull}
use Rattle.port.specs.Link.{Served, served_after}
use Rattle.endorser_cell.specs.BankLine.{BankLine, serving, served_by}
use Rattle.roster_bank.specs.Places.{place_in, was_served, place_served, places_served, IsOfMember}

pub pushed : (ids : List ℕ) (log : List BankLine) (line : BankLine) → places_served ids (log ++ line ∷ []) ≡ places_served ids log ++ option_to_list (place_served ids line)
pushed ids log line = filter_map-append (place_served ids) log (line ∷ []) ∙ ap (λ (l : List ℕ). places_served ids log ++ l) (alone (place_served ids line)) where
  alone : (found : Option ℕ) → cons_option found [] ≡ option_to_list found
  alone None = refl
  alone (Some place) = refl

cons_append : (found : Option ℕ) (places more : List ℕ) → cons_option found (places ++ more) ≡ cons_option found places ++ more
cons_append None places more = refl
cons_append (Some place) places more = refl

-- the lines up to one more
pub taken : (ids : List ℕ) (log : List BankLine) (n : ℕ)
    → places_served ids (take (n + 1) log) ≡ places_served ids (take n log) ++ option_to_list (option_and_then (place_served ids) (slice_get log n))
taken ids log n = let e : n + 1 ≡ suc n = omega arith in ap (λ (k : ℕ). places_served ids (take k log)) e ∙ upto ids log n where
  upto : (ids : List ℕ) (log : List BankLine) (n : ℕ)
      → places_served ids (take (suc n) log) ≡ places_served ids (take n log) ++ option_to_list (option_and_then (place_served ids) (slice_get log n))
  upto ids [] zero = refl
  upto ids [] (suc n) = refl
  upto ids (line ∷ log) zero = pushed ids [] line
  upto ids (line ∷ log) (suc n) =
      ap (λ (l : List ℕ). cons_option (place_served ids line) l) (upto ids log n)
      ∙ cons_append (place_served ids line) (places_served ids (take n log)) (option_to_list (option_and_then (place_served ids) (slice_get log n)))

-- the places of calls
abbrev pub places_of : List ℕ → List Served → List (Option ℕ)
places_of ids past = map (λ (one : Served). place_in ids one.id) past

abbrev pub certain : List ℕ → List (Option ℕ)
certain places = map (λ (place : ℕ). Some place) places

-- one call more, whose endorser has a place
one_more : (found : Option ℕ) (before : List (Option ℕ)) → IsSome found → found ∷ before ≡ certain (option_to_list found) ++ before
one_more None before known = absurd cc
one_more (Some place) before known = refl

after_one : (ids : List ℕ) (past : List Served) (id : ℕ) (call : Call) (answer : Answer) → (was_served (Some answer) ≡ true → IsSome (place_in ids id))
    → places_of ids (served_after past id call answer) ≡ certain (option_to_list (cond (was_served (Some answer)) (place_in ids id) None)) ++ places_of ids past
after_one ids past id call Done known = one_more (place_in ids id) (places_of ids past) (known refl)
after_one ids past id call (Signed statement sig) known = one_more (place_in ids id) (places_of ids past) (known refl)
after_one ids past id call (Finaled statement sig map) known = one_more (place_in ids id) (places_of ids past) (known refl)
after_one ids past id call (Shown phase number tail count) known = one_more (place_in ids id) (places_of ids past) (known refl)
after_one ids past id call (Refused (Behind count)) known = one_more (place_in ids id) (places_of ids past) (known refl)
after_one ids past id call (Refused (Stands count tail)) known = one_more (place_in ids id) (places_of ids past) (known refl)
after_one ids past id call (Refused (OtherTail tail)) known = one_more (place_in ids id) (places_of ids past) (known refl)
after_one ids past id call (Refused NotGenesis) known = one_more (place_in ids id) (places_of ids past) (known refl)
after_one ids past id call (Refused Full) known = one_more (place_in ids id) (places_of ids past) (known refl)
after_one ids past id call (Refused Tall) known = one_more (place_in ids id) (places_of ids past) (known refl)
after_one ids past id call (Refused NotMember) known = one_more (place_in ids id) (places_of ids past) (known refl)
after_one ids past id call (Refused BadView) known = one_more (place_in ids id) (places_of ids past) (known refl)
after_one ids past id call (Refused (BadProof cause)) known = one_more (place_in ids id) (places_of ids past) (known refl)
after_one ids past id call (Refused (WrongPhase phase)) known = one_more (place_in ids id) (places_of ids past) (known refl)
after_one ids past id call (Refused (HasEnded statement sig)) known = one_more (place_in ids id) (places_of ids past) (known refl)
after_one ids past id call (Refused (OtherNext next)) known = one_more (place_in ids id) (places_of ids past) (known refl)
after_one ids past id call (Refused Spent) known = one_more (place_in ids id) (places_of ids past) (known refl)
after_one ids past id call (Refused LogFull) known = refl

of_line : (ids : List ℕ) (past : List Served) (line : BankLine) (answer : Option Answer) → (was_served answer ≡ true → IsSome (place_in ids line.id))
    → places_of ids (serving line answer past) ≡ certain (option_to_list (cond (was_served answer) (place_in ids line.id) None)) ++ places_of ids past
of_line ids past line None known = refl
of_line ids past line (Some answer) known = after_one ids past line.id line.call answer known

turned : (found : Option ℕ) (places : List ℕ) → reverse (cons_option found places) ≡ reverse places ++ option_to_list found
turned None places = sym (append_nil (reverse places)) where
  append_nil : (l : List ℕ) → l ++ [] ≡ l
  append_nil [] = refl
  append_nil (x ∷ l) = ap (λ (t : List ℕ). x ∷ t) (append_nil l)
turned (Some place) places = reverse-append (place ∷ []) places

pub of_served : (ids : List ℕ) (past : List Served) (log : List BankLine) → AllByRecursion (IsOfMember ids) log
    → places_of ids (served_by past log) ≡ certain (reverse (places_served ids log)) ++ places_of ids past
of_served ids past [] known = refl
of_served ids past (line ∷ log) known =
    let found : Option ℕ = place_served ids line in
    let rest : List ℕ = reverse (places_served ids log) in
    of_served ids (serving line line.answer past) log known.1
    ∙ ap (λ (l : List (Option ℕ)). certain rest ++ l) (of_line ids past line line.answer known.0)
    ∙ sym (append_assoc (certain rest) (certain (option_to_list found)) (places_of ids past))
    ∙ ap (λ (l : List (Option ℕ)). l ++ places_of ids past) (sym (map-append (λ (place : ℕ). Some place) rest (option_to_list found)))
    ∙ ap (λ (l : List ℕ). certain l ++ places_of ids past) (sym (turned found (places_served ids log)))

pub of_all_served : (ids : List ℕ) (log : List BankLine) → AllByRecursion (IsOfMember ids) log → places_of ids (served_by [] log) ≡ certain (reverse (places_served ids log))
of_all_served ids log known = of_served ids [] log known ∙ append_nil (certain (reverse (places_served ids log))) where
  append_nil : (l : List (Option ℕ)) → l ++ [] ≡ l
  append_nil [] = refl
  append_nil (x ∷ l) = ap (λ (t : List (Option ℕ)). x ∷ t) (append_nil l)
