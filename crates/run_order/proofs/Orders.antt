-- The order of events, call by call and turn by turn.
use Rattle.std.proofs.Common.{◌≡◌, ℕ, zero, suc, ◌+◌, ◌-◌, ◌<◌, ◌≤◌, List, [], ◌∷◌, ◌++◌, map, take, drop, length, Option, Some, refl, sym, ap, ◌∙◌, inl, inr, arith, append_assoc, append-nil}
use Rattle.std.specs.Prelude.{min, max, filter_map, reverse, slice_index_or}
use Rattle.std.specs.List.{AllByRecursion, cons_option}
use Rattle.std.proofs.lemmas.Bool.Decides.{leb_tells}
use Rattle.std.proofs.lemmas.List.{length-drop, map-append, reverse-append, reverse-reverse}
use Rattle.client_acts.specs.declared.turn.Turn.{Turn}
use Rattle.endorser_cell.specs.BankLine.{BankLine, served_by}
use Rattle.port.specs.Link.{Served}
use Rattle.roster_bank.specs.Places.{IsOfMember, place_in, places_served}
use Rattle.run_record.specs.declared.actor.Actor.{Actor}
use Rattle.run_record.specs.declared.actor.Actor.TheVariants.{Endorser, Client}
use Rattle.run_order.specs.Order.{calls, lines, order_from, order_of}

abbrev pub events : List ℕ → List Actor
events places = map Endorser places

calls_at : (places : List ℕ) (line k d : ℕ) → line < length places → events (take (suc k) (drop line places)) ≡ Endorser (slice_index_or places line d) ∷ events (take k (drop (suc line) places))
calls_at [] line k d below = absurd (omega (arith, below))
calls_at (x ∷ places) zero k d below = refl
calls_at (x ∷ places) (suc line) k d below = calls_at places line k d (omega (arith, below))

-- one call more
pub calls_step : (places : List ℕ) (line end d : ℕ) (order more : List Actor) → line < end → line < length places → more ≡ order ++ Endorser (slice_index_or places line d) ∷ []
    → more ++ events (take (end - (line + 1)) (drop (line + 1) places)) ≡ order ++ events (take (end - line) (drop line places))
calls_step places line end d order more before below is =
    let k = end - (line + 1) in
    let one : suc k ≡ end - line = omega (arith, before) in
    let next : suc line ≡ line + 1 = omega arith in
    let here : Actor = Endorser (slice_index_or places line d) in
    ap (λ (all : List Actor). all ++ events (take k (drop (line + 1) places))) is
    ∙ append_assoc order (here ∷ []) (events (take k (drop (line + 1) places)))
    ∙ ap (λ (n : ℕ). order ++ here ∷ events (take k (drop n places))) (sym next)
    ∙ ap (λ (rest : List Actor). order ++ rest) (sym (calls_at places line k d below))
    ∙ ap (λ (n : ℕ). order ++ events (take n (drop line places))) one

take_none : {A : Type 0} (n : ℕ) (xs : List A) → n ≡ 0 → take n xs ≡ []
take_none n xs e = ap (λ (n : ℕ). take n xs) e

-- all calls are done
calls_done : (places : List ℕ) (line end : ℕ) (order : List Actor) → end ≤ line → order ++ events (take (end - line) (drop line places)) ≡ order
calls_done places line end order past =
    let none : end - line ≡ 0 = omega (arith, past) in
    ap (λ (some : List ℕ). order ++ events some) (take_none (end - line) (drop line places) none) ∙ append-nil order

pub all_taken : {A : Type 0} (n : ℕ) (xs : List A) → length xs ≤ n → take n xs ≡ xs
all_taken zero [] few = refl
all_taken zero (x ∷ xs) few = absurd (omega (arith, few))
all_taken (suc n) [] few = refl
all_taken (suc n) (x ∷ xs) few = ap (λ (rest : List _). x ∷ rest) (all_taken n xs (omega (arith, few)))

-- what stands beyond the list is nothing
cut : {A : Type 0} (from upto : ℕ) (xs : List A) → take (min upto (length xs) - from) (drop from xs) ≡ take (upto - from) (drop from xs)
cut from upto xs =
    elim (leb_tells upto (length xs)) [
      | inl few ↦ let is : min upto (length xs) ≡ upto = omega (arith, few.1) in ap (λ (n : ℕ). take (n - from) (drop from xs)) is
      | inr many ↦
          let left = length-drop from xs in
          let one : length (drop from xs) ≤ min upto (length xs) - from = omega (arith, many.1, left) in
          let other : length (drop from xs) ≤ upto - from = omega (arith, many.1, left) in
          all_taken (min upto (length xs) - from) (drop from xs) one ∙ sym (all_taken (upto - from) (drop from xs) other)
    ]

-- all calls up to this one, as far as there are any
pub calls_end : (places : List ℕ) (from upto line end : ℕ) (before order : List Actor) → end ≡ min upto (length places) → end ≤ line
    → order ++ events (take (end - line) (drop line places)) ≡ before ++ events (take (end - from) (drop from places))
    → order ≡ before ++ events (take (upto - from) (drop from places))
calls_end places from upto line end before order is past done =
    sym (calls_done places line end order past) ∙ done
    ∙ ap (λ (n : ℕ). before ++ events (take (n - from) (drop from places))) is
    ∙ ap (λ (some : List ℕ). before ++ events some) (cut from upto places)

-- those from this one on, up to the last
pub calls_left : (places : List ℕ) (next n : ℕ) → n ≡ length places → events (take (n - next) (drop next places)) ≡ events (drop next places)
calls_left places next n all =
    let left = length-drop next places in
    ap events (all_taken (n - next) (drop next places) (omega (arith, all, left)))

-- one event of a client more
pub lines_step : (client done count : ℕ) (order more : List Actor) → done < count → more ≡ order ++ Client client ∷ []
    → more ++ lines client (count - (done + 1)) ≡ order ++ lines client (count - done)
lines_step client done count order more below is =
    let k = count - (done + 1) in
    let one : suc k ≡ count - done = omega (arith, below) in
    ap (λ (all : List Actor). all ++ lines client k) is
    ∙ append_assoc order (Client client ∷ []) (lines client k)
    ∙ ap (λ (n : ℕ). order ++ lines client n) one

-- ---- the same by the calls that were served

abbrev place_of : List ℕ → Served → Option ℕ
place_of ids one = place_in ids one.id

certain : (places : List ℕ) → filter_map (λ (found : Option ℕ). found) (map (λ (place : ℕ). Some place) places) ≡ places
certain [] = refl
certain (place ∷ places) = ap (λ (rest : List ℕ). place ∷ rest) (certain places)

found : (ids : List ℕ) (served : List Served) → filter_map (place_of ids) served ≡ filter_map (λ (found : Option ℕ). found) (map (place_of ids) served)
found ids [] = refl
found ids (one ∷ served) = ap (cons_option (place_of ids one)) (found ids served)

take_map : {A B : Type 0} (f : A → B) (n : ℕ) (xs : List A) → take n (map f xs) ≡ map f (take n xs)
take_map f zero [] = refl
take_map f zero (x ∷ xs) = refl
take_map f (suc n) [] = refl
take_map f (suc n) (x ∷ xs) = ap (λ (rest : List _). f x ∷ rest) (take_map f n xs)

drop_map : {A B : Type 0} (f : A → B) (n : ℕ) (xs : List A) → drop n (map f xs) ≡ map f (drop n xs)
drop_map f zero [] = refl
drop_map f zero (x ∷ xs) = refl
drop_map f (suc n) [] = refl
drop_map f (suc n) (x ∷ xs) = drop_map f n xs

module _ (ids : List ℕ) (served : List Served) (places : List ℕ) (placed : map (place_of ids) served ≡ map (λ (place : ℕ). Some place) places) where
  same_calls : (some : List Served) (here : List ℕ) → map (place_of ids) some ≡ map (λ (place : ℕ). Some place) here → events here ≡ calls ids some
  same_calls some here same = ap events (sym (certain here) ∙ ap (filter_map (λ (found : Option ℕ). found)) (sym same) ∙ sym (found ids some))

  dropped : (next : ℕ) → map (place_of ids) (drop next served) ≡ map (λ (place : ℕ). Some place) (drop next places)
  dropped next = sym (drop_map (place_of ids) next served) ∙ ap (drop next) placed ∙ drop_map (λ (place : ℕ). Some place) next places

  taken : (n next : ℕ) → map (place_of ids) (take n (drop next served)) ≡ map (λ (place : ℕ). Some place) (take n (drop next places))
  taken n next = sym (take_map (place_of ids) n (drop next served)) ∙ ap (take n) (dropped next) ∙ take_map (λ (place : ℕ). Some place) n (drop next places)

  pub by_calls : (next : ℕ) (turns : List Turn) → order_from events places next turns ≡ order_from (calls ids) served next turns
  by_calls next [] = same_calls (drop next served) (drop next places) (dropped next)
  by_calls next (turn ∷ turns) =
      let n = turn.calls - next in
      let later = max next turn.calls in
      ap (λ (here : List Actor). here ++ (lines turn.client turn.lines ++ order_from events places later turns)) (same_calls (take n (drop next served)) (take n (drop next places)) (taken n next))
      ∙ ap (λ (rest : List Actor). calls ids (take n (drop next served)) ++ (lines turn.client turn.lines ++ rest)) (by_calls later turns)

map_reverse : {A B : Type 0} (f : A → B) (xs : List A) → map f (reverse xs) ≡ reverse (map f xs)
map_reverse f [] = refl
map_reverse f (x ∷ xs) = ap (map f) (reverse-append (x ∷ []) xs) ∙ map-append f (reverse xs) (x ∷ []) ∙ ap (λ (rest : List _). rest ++ f x ∷ []) (map_reverse f xs) ∙ sym (reverse-append (f x ∷ []) (map f xs))

-- where members alone served
pub of_served : (ids : List ℕ) (log : List BankLine) (turns : List Turn)
    → ((ids : List ℕ) (log : List BankLine) → AllByRecursion (IsOfMember ids) log → map (λ (one : Served). place_in ids one.id) (served_by [] log) ≡ map (λ (place : ℕ). Some place) (reverse (places_served ids log)))
    → AllByRecursion (IsOfMember ids) log → order_from events (places_served ids log) 0 turns ≡ order_of ids (served_by [] log) turns
of_served ids log turns law known =
    let places = places_served ids log in
    let some = λ (place : ℕ). Some place in
    by_calls ids (reverse (served_by [] log)) places (
    map_reverse (place_of ids) (served_by [] log) ∙ ap reverse (law ids log known)
    ∙ sym (map_reverse some (reverse places)) ∙ ap (map some) (reverse-reverse places)
    ) 0 turns
