-- The order of a run's events, where calls and turns come to it.
use Rattle.std.proofs.Common.{◌≡◌, ℕ, zero, suc, ◌+◌, ◌-◌, ◌≤◌, Bool, true, false, eqb, cond, List, [], ◌∷◌, ◌++◌, take, drop, length, Option, Some, None, refl, sym, ap, ◌∙◌, arith, append_assoc, append-nil, length-append}
use Rattle.std.specs.Prelude.{max}
use Rattle.std.specs.List.{AllByRecursion}
use Rattle.std.proofs.lemmas.List.{length-drop}
use Rattle.std.proofs.lemmas.List.Sums.{sum_by-append, sum_by-cons}
use Rattle.client_acts.specs.declared.turn.Turn.{Turn}
use Rattle.client_acts.specs.Turns.{lines_by, turn_of}
use Rattle.run_record.specs.declared.actor.Actor.{Actor}
use Rattle.run_record.specs.declared.actor.Actor.TheVariants.{Client}
use Rattle.run_record.specs.Events.{count_client, is_client}
use Rattle.run_order.specs.Order.{lines, order_from}
use Rattle.script_runs.specs.Stamps.{AreLinesOf}

-- ---- parts of lists

drop_all : {A : Type 0} (xs ys : List A) → drop (length xs) (xs ++ ys) ≡ ys
drop_all [] ys = refl
drop_all (x ∷ xs) ys = drop_all xs ys

drop_own : {A : Type 0} (xs : List A) → drop (length xs) xs ≡ []
drop_own [] = refl
drop_own (x ∷ xs) = drop_own xs

drop_within : {A : Type 0} (n : ℕ) (xs ys : List A) → n ≤ length xs → drop n (xs ++ ys) ≡ drop n xs ++ ys
drop_within zero [] ys few = refl
drop_within zero (x ∷ xs) ys few = refl
drop_within (suc n) [] ys few = absurd (omega (arith, few))
drop_within (suc n) (x ∷ xs) ys few = drop_within n xs ys (omega (arith, few))

take_within : {A : Type 0} (n : ℕ) (xs ys : List A) → n ≤ length xs → take n (xs ++ ys) ≡ take n xs
take_within zero [] [] few = refl
take_within zero [] (y ∷ ys) few = refl
take_within zero (x ∷ xs) ys few = refl
take_within (suc n) [] ys few = absurd (omega (arith, few))
take_within {A} (suc n) (x ∷ xs) ys few = ap (λ (rest : List A). x ∷ rest) (take_within n xs ys (omega (arith, few)))

take_past : {A : Type 0} (xs ys : List A) (n : ℕ) → take (length xs + n) (xs ++ ys) ≡ xs ++ take n ys
take_past [] ys n = let e : 0 + n ≡ n = omega arith in ap (λ (k : ℕ). take k ys) e
take_past {A} (x ∷ xs) ys n =
    let e : length (x ∷ xs) + n ≡ suc (length xs + n) = omega arith in
    ap (λ (k : ℕ). take k (x ∷ xs ++ ys)) e ∙ ap (λ (rest : List A). x ∷ rest) (take_past xs ys n)

take_all : {A : Type 0} (n : ℕ) (xs : List A) → n ≡ length xs → take n xs ≡ xs
take_all zero [] all = refl
take_all zero (x ∷ xs) all = absurd (omega (arith, all))
take_all (suc n) [] all = refl
take_all {A} (suc n) (x ∷ xs) all = ap (λ (rest : List A). x ∷ rest) (take_all n xs (omega (arith, all)))

take_none : {A : Type 0} (n : ℕ) (xs : List A) → n ≡ 0 → take n xs ≡ []
take_none {A} n xs e = ap (λ (k : ℕ). take k xs) e ∙ nothing xs where
  nothing : (xs : List A) → take 0 xs ≡ []
  nothing [] = refl
  nothing (x ∷ xs) = refl

-- ---- turns

abbrev pub AllUpto : ℕ → List Turn → Type 0
AllUpto n turns = AllByRecursion (λ (turn : Turn). turn.calls ≤ n) turns

abbrev AllFrom : ℕ → List Turn → Type 0
AllFrom n turns = AllByRecursion (λ (turn : Turn). n ≤ turn.calls) turns

abbrev pub AllAt : ℕ → List Turn → Type 0
AllAt n turns = AllByRecursion (λ (turn : Turn). turn.calls ≡ n) turns

-- the events of turns alone
abbrev pub wrote : List Turn → List Actor
wrote [] = []
wrote (turn ∷ turns) = lines turn.client turn.lines ++ wrote turns

-- a draw, where there is one
abbrev pub turns_of : Option ℕ → ℕ → List Turn
turns_of None calls = []
turns_of (Some place) calls = turn_of place calls 1 ∷ []

abbrev pub draw_of : Option ℕ → List Actor
draw_of None = []
draw_of (Some place) = Client place ∷ []

pub upto_more : (n m : ℕ) (turns : List Turn) → n ≤ m → AllUpto n turns → AllUpto m turns
upto_more n m [] less all = tt
upto_more n m (turn ∷ turns) less all = (omega (arith, less, all.0), upto_more n m turns less all.1)

pub upto_both : (n : ℕ) (one other : List Turn) → AllUpto n one → AllUpto n other → AllUpto n (one ++ other)
upto_both n [] other all more = more
upto_both n (turn ∷ one) other all more = (all.0, upto_both n one other all.1 more)

pub at_upto : (n : ℕ) (turns : List Turn) → AllAt n turns → AllUpto n turns
at_upto n [] all = tt
at_upto n (turn ∷ turns) all = (omega (arith, all.0), at_upto n turns all.1)

at_from : (n m : ℕ) (turns : List Turn) → n ≤ m → AllAt m turns → AllFrom n turns
at_from n m [] less all = tt
at_from n m (turn ∷ turns) less all = (omega (arith, less, all.0), at_from n m turns less all.1)

pub draw_upto : (drawn : Option ℕ) (n : ℕ) → AllUpto n (turns_of drawn n)
draw_upto None n = tt
draw_upto (Some place) n = (omega arith, tt)

draw_from : (drawn : Option ℕ) (n : ℕ) (turns : List Turn) → AllFrom n turns → AllFrom n (turns_of drawn n ++ turns)
draw_from None n turns all = all
draw_from (Some place) n turns all = (omega arith, all)

-- ---- the order

module _ {A : Type 0} (events : List A → List Actor) (apart : (xs ys : List A) → events (xs ++ ys) ≡ events xs ++ events ys) (none : events [] ≡ []) where
  past_end : (xs ys : List A) (next : ℕ) (turns : List Turn) → next ≤ length xs → AllFrom (length xs) turns
      → order_from events (xs ++ ys) next turns ≡ events (drop next xs) ++ order_from events (xs ++ ys) (length xs) turns
  past_end xs ys next [] few from =
      ap events (drop_within next xs ys few) ∙ apart (drop next xs) ys ∙ ap (λ (rest : List A). events (drop next xs) ++ events rest) (sym (drop_all xs ys))
  past_end xs ys next (turn ∷ turns) few from =
      let m = turn.calls - length xs in
      let left = length-drop next xs in
      let taken : turn.calls - next ≡ length (drop next xs) + m = omega (arith, few, from.0, left) in
      let later : max next turn.calls ≡ max (length xs) turn.calls = omega (arith, few, from.0) in
      let rest : List Actor = lines turn.client turn.lines ++ order_from events (xs ++ ys) (max (length xs) turn.calls) turns in
      let some : take (turn.calls - next) (drop next (xs ++ ys)) ≡ drop next xs ++ take m ys =
      ap (λ (all : List A). take (turn.calls - next) all) (drop_within next xs ys few) ∙ ap (λ (n : ℕ). take n (drop next xs ++ ys)) taken ∙ take_past (drop next xs) ys m in
      ap (λ (n : ℕ). events (take (turn.calls - next) (drop next (xs ++ ys))) ++ (lines turn.client turn.lines ++ order_from events (xs ++ ys) n turns)) later
      ∙ ap (λ (all : List A). events all ++ rest) some
      ∙ ap (λ (all : List Actor). all ++ rest) (apart (drop next xs) (take m ys))
      ∙ append_assoc (events (drop next xs)) (events (take m ys)) rest
      ∙ ap (λ (all : List A). events (drop next xs) ++ (events (take m all) ++ rest)) (sym (drop_all xs ys))

  grows : (xs ys : List A) (next : ℕ) (before after : List Turn) → next ≤ length xs → AllUpto (length xs) before → AllFrom (length xs) after
      → order_from events (xs ++ ys) next (before ++ after) ≡ order_from events xs next before ++ order_from events (xs ++ ys) (length xs) after
  grows xs ys next [] after few upto from = past_end xs ys next after few from
  grows xs ys next (turn ∷ before) after few upto from =
      let n = turn.calls - next in
      let left = length-drop next xs in
      let within : n ≤ length (drop next xs) = omega (arith, few, upto.0, left) in
      let below : max next turn.calls ≤ length xs = omega (arith, few, upto.0) in
      let some : take n (drop next (xs ++ ys)) ≡ take n (drop next xs) =
      ap (λ (all : List A). take n all) (drop_within next xs ys few) ∙ take_within n (drop next xs) ys within in
      let own : List Actor = lines turn.client turn.lines in
      let more : List Actor = order_from events (xs ++ ys) (length xs) after in
      let rest : List Actor = order_from events xs (max next turn.calls) before in
      ap (λ (all : List A). events all ++ (own ++ order_from events (xs ++ ys) (max next turn.calls) (before ++ after))) some
      ∙ ap (λ (all : List Actor). events (take n (drop next xs)) ++ (own ++ all)) (grows xs ys (max next turn.calls) before after below upto.1 from)
      ∙ ap (λ (all : List Actor). events (take n (drop next xs)) ++ all) (sym (append_assoc own rest more))
      ∙ sym (append_assoc (events (take n (drop next xs))) (own ++ rest) more)

  -- what is written after all calls
  at_end : (all : List A) (next : ℕ) (turns : List Turn) → next ≤ length all → AllAt (length all) turns → order_from events all next turns ≡ events (drop next all) ++ wrote turns
  at_end all next [] few at = sym (append-nil (events (drop next all)))
  at_end all next (turn ∷ turns) few at =
      let left = length-drop next all in
      let whole : turn.calls - next ≡ length (drop next all) = omega (arith, few, at.0, left) in
      let last : max next turn.calls ≡ length all = omega (arith, few, at.0) in
      let own : List Actor = lines turn.client turn.lines in
      let rest : order_from events all (max next turn.calls) turns ≡ wrote turns =
      ap (λ (n : ℕ). order_from events all n turns) last
      ∙ at_end all (length all) turns (omega arith) at.1
      ∙ ap (λ (some : List A). events some ++ wrote turns) (drop_own all)
      ∙ ap (λ (some : List Actor). some ++ wrote turns) none in
      ap (λ (some : List A). events some ++ (own ++ order_from events all (max next turn.calls) turns)) (take_all (turn.calls - next) (drop next all) whole)
      ∙ ap (λ (some : List Actor). events (drop next all) ++ (own ++ some)) rest

  no_draw : (xs ys : List A) (took : List Turn) → AllAt (length (xs ++ ys)) took → order_from events (xs ++ ys) (length xs) took ≡ events ys ++ wrote took
  no_draw xs ys took at =
      at_end (xs ++ ys) (length xs) took (let sum = length-append xs ys in omega (arith, sum)) at ∙ ap (λ (all : List A). events all ++ wrote took) (drop_all xs ys)

  after_draw : (xs ys : List A) (drawn : Option ℕ) (took : List Turn) → AllAt (length (xs ++ ys)) took
      → order_from events (xs ++ ys) (length xs) (turns_of drawn (length xs) ++ took) ≡ draw_of drawn ++ (events ys ++ wrote took)
  after_draw xs ys None took at = no_draw xs ys took at
  after_draw xs ys (Some place) took at =
      let n = length xs in
      let all = xs ++ ys in
      let same : max n n ≡ n = omega arith in
      let zeros : n - n ≡ 0 = omega arith in
      ap (λ (some : List A). events some ++ (Client place ∷ order_from events all (max n n) took)) (take_none (n - n) (drop n all) zeros)
      ∙ ap (λ (some : List Actor). some ++ (Client place ∷ order_from events all (max n n) took)) none
      ∙ ap (λ (k : ℕ). Client place ∷ order_from events all k took) same
      ∙ ap (λ (rest : List Actor). Client place ∷ rest) (no_draw xs ys took at)

  -- a draw when these calls had been served, and these turns when more had
  pub with_more : (xs ys : List A) (before : List Turn) (drawn : Option ℕ) (took : List Turn) → AllUpto (length xs) before → AllAt (length (xs ++ ys)) took
      → order_from events (xs ++ ys) 0 ((before ++ turns_of drawn (length xs)) ++ took) ≡ order_from events xs 0 before ++ (draw_of drawn ++ (events ys ++ wrote took))
  with_more xs ys before drawn took upto at =
      let sum = length-append xs ys in
      ap (λ (turns : List Turn). order_from events (xs ++ ys) 0 turns) (append_assoc before (turns_of drawn (length xs)) took)
      ∙ grows xs ys 0 before (turns_of drawn (length xs) ++ took) (omega arith) upto (draw_from drawn (length xs) took (at_from (length xs) (length (xs ++ ys)) took (omega (arith, sum)) at))
      ∙ ap (λ (rest : List Actor). order_from events xs 0 before ++ rest) (after_draw xs ys drawn took at)

-- ---- whose lines they are

module _ (P : ℕ → Type 0) where
  of_client : (client n : ℕ) (rest : List Actor) → P client → AreLinesOf P rest → AreLinesOf P (lines client n ++ rest)
  of_client client zero rest may all = all
  of_client client (suc n) rest may all = ((client, refl, may), of_client client n rest may all)

  pub of_turns : (turns : List Turn) → AllByRecursion (λ (turn : Turn). P turn.client) turns → AreLinesOf P (wrote turns)
  of_turns [] may = tt
  of_turns (turn ∷ turns) may = of_client turn.client turn.lines (wrote turns) may.0 (of_turns turns may.1)

-- ---- how many events a client has

count_both : (place : ℕ) (one other : List Actor) → count_client place (one ++ other) ≡ count_client place one + count_client place other
count_both place one other = sum_by-append (λ (event : Actor). cond (is_client place event) 1 0) one other

pub count_first : (place : ℕ) (event : Actor) (events : List Actor) → count_client place (event ∷ events) ≡ cond (is_client place event) 1 0 + count_client place events
count_first place event events = sum_by-cons (λ (event : Actor). cond (is_client place event) 1 0) event events

one_more : (b : Bool) (n : ℕ) → cond b 1 0 + cond b n 0 ≡ cond b (suc n) 0
one_more true n = omega arith
one_more false n = refl

same_both : (b : Bool) (n : ℕ) → cond b n n ≡ n
same_both true n = refl
same_both false n = refl

count_lines : (place client n : ℕ) → count_client place (lines client n) ≡ cond (eqb client place) n 0
count_lines place client zero = sym (same_both (eqb client place) 0)
count_lines place client (suc n) =
    count_first place (Client client) (lines client n) ∙ ap (λ (k : ℕ). cond (eqb client place) 1 0 + k) (count_lines place client n) ∙ one_more (eqb client place) n

-- as many as its turns have lines, where calls are no client's
pub count_order : {A : Type 0} (events : List A → List Actor) → ((place : ℕ) (served : List A) → count_client place (events served) ≡ 0) → (all : List A) (next : ℕ) (turns : List Turn) (place : ℕ)
    → count_client place (order_from events all next turns) ≡ lines_by place turns
count_order events none all next [] place = none place (drop next all)
count_order events none all next (turn ∷ turns) place =
    let some = take (turn.calls - next) (drop next all) in
    let rest = order_from events all (max next turn.calls) turns in
    let one = count_both place (events some) (lines turn.client turn.lines ++ rest) in
    let other = count_both place (lines turn.client turn.lines) rest in
    let zero_calls = none place some in
    let own = count_lines place turn.client turn.lines in
    let last = count_order events none all (max next turn.calls) turns place in
    omega (arith, one, other, zero_calls, own, last)
