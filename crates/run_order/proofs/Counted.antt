-- How often each actor stands in the order of a run.
use Rattle.std.proofs.Common.{◌≡◌, ℕ, zero, suc, ◌+◌, ◌-◌, Bool, true, false, eqb, cond, List, [], ◌∷◌, ◌++◌, map, take, drop, refl, sym, ap, ◌∙◌, arith}
use Rattle.std.specs.Prelude.{max}
use Rattle.std.specs.List.{count_by}
use Rattle.std.proofs.lemmas.List.{drop-drop, take-append-drop}
use Rattle.std.proofs.lemmas.List.Sums.{sum_by-append, sum_by-cons}
use Rattle.stamp_clock.specs.Stamps.{times}
use Rattle.run_record.specs.declared.actor.Actor.TheVariants.{Endorser, Client}
use Rattle.run_record.specs.Events.{is_endorser, is_client, count_endorser, count_client, AreCounted}
use Rattle.client_acts.specs.declared.turn.Turn.{Turn}
use Rattle.client_acts.specs.Turns.{lines_by}
use Rattle.run_order.specs.Order.{lines, order_from}
use Rattle.run_order.proofs.Orders.{events}

abbrev bit : Bool → ℕ
bit b = cond b 1 0

count_both : {A : Type 0} (p : A → Bool) (xs ys : List A) → count_by p (xs ++ ys) ≡ count_by p xs + count_by p ys
count_both p xs ys = sum_by-append (λ y. cond (p y) 1 0) xs ys

count_first : {A : Type 0} (p : A → Bool) (x : A) (xs : List A) → count_by p (x ∷ xs) ≡ bit (p x) + count_by p xs
count_first p x xs = sum_by-cons (λ y. cond (p y) 1 0) x xs

count_three : {A : Type 0} (p : A → Bool) (xs ys zs : List A) → count_by p (xs ++ (ys ++ zs)) ≡ count_by p xs + (count_by p ys + count_by p zs)
count_three p xs ys zs = count_both p xs (ys ++ zs) ∙ ap (λ (n : ℕ). count_by p xs + n) (count_both p ys zs)

times_both : (place : ℕ) (one other : List ℕ) → times place (one ++ other) ≡ times place one + times place other
times_both place [] other = let e : times place other ≡ 0 + times place other = omega arith in e
times_both place (x ∷ one) other =
    let rest = times_both place one other in
    let e : cond (eqb x place) 1 0 + times place (one ++ other) ≡ cond (eqb x place) 1 0 + times place one + times place other = omega (arith, rest) in
    e

-- ---- the events of calls, and those of lines

of_places : (place : ℕ) (places : List ℕ) → count_endorser place (map Endorser places) ≡ times place places
of_places place [] = refl
of_places place (p ∷ places) = count_first (is_endorser place) (Endorser p) (map Endorser places) ∙ ap (λ (n : ℕ). bit (eqb p place) + n) (of_places place places)

no_client : (place : ℕ) (places : List ℕ) → count_client place (map Endorser places) ≡ 0
no_client place [] = refl
no_client place (p ∷ places) = count_first (is_client place) (Endorser p) (map Endorser places) ∙ ap (λ (n : ℕ). 0 + n) (no_client place places)

no_endorser : (place client n : ℕ) → count_endorser place (lines client n) ≡ 0
no_endorser place client zero = refl
no_endorser place client (suc n) = count_first (is_endorser place) (Client client) (lines client n) ∙ ap (λ (k : ℕ). 0 + k) (no_endorser place client n)

one_more : (b : Bool) (n : ℕ) → bit b + cond b n 0 ≡ cond b (suc n) 0
one_more true n = omega arith
one_more false n = refl

same_both : (b : Bool) (n : ℕ) → cond b n n ≡ n
same_both true n = refl
same_both false n = refl

of_lines : (place client n : ℕ) → count_client place (lines client n) ≡ cond (eqb client place) n 0
of_lines place client zero = sym (same_both (eqb client place) 0)
of_lines place client (suc n) =
    count_first (is_client place) (Client client) (lines client n) ∙ ap (λ (k : ℕ). bit (eqb client place) + k) (of_lines place client n) ∙ one_more (eqb client place) n

-- ---- the order

split_places : (place n : ℕ) (places : List ℕ) → times place (take n places) + times place (drop n places) ≡ times place places
split_places place n places = sym (times_both place (take n places) (drop n places)) ∙ ap (times place) (take-append-drop n places)

later : (next upto : ℕ) (places : List ℕ) → drop (upto - next) (drop next places) ≡ drop (max next upto) places
later next upto places = let e : next + (upto - next) ≡ max next upto = omega arith in drop-drop (upto - next) next places ∙ ap (λ (n : ℕ). drop n places) e

endorsers_counted : (places : List ℕ) (next : ℕ) (turns : List Turn) (place : ℕ) → count_endorser place (order_from events places next turns) ≡ times place (drop next places)
endorsers_counted places next [] place = of_places place (drop next places)
endorsers_counted places next (turn ∷ turns) place =
    let some = take (turn.calls - next) (drop next places) in
    let rest = order_from events places (max next turn.calls) turns in
    let all = count_three (is_endorser place) (events some) (lines turn.client turn.lines) rest in
    let first = of_places place some in
    let none = no_endorser place turn.client turn.lines in
    let last = endorsers_counted places (max next turn.calls) turns place ∙ ap (times place) (sym (later next turn.calls places)) in
    let both = split_places place (turn.calls - next) (drop next places) in
    omega (arith, all, first, none, last, both)

clients_counted : (places : List ℕ) (next : ℕ) (turns : List Turn) (place : ℕ) → count_client place (order_from events places next turns) ≡ lines_by place turns
clients_counted places next [] place = no_client place (drop next places)
clients_counted places next (turn ∷ turns) place =
    let some = take (turn.calls - next) (drop next places) in
    let rest = order_from events places (max next turn.calls) turns in
    let all = count_three (is_client place) (events some) (lines turn.client turn.lines) rest in
    let none = no_client place some in
    let own = of_lines place turn.client turn.lines in
    let last = clients_counted places (max next turn.calls) turns place in
    omega (arith, all, none, own, last)

pub counted : (places : List ℕ) (turns : List Turn) (served acts : ℕ → ℕ)
    → ((place : ℕ) → served place ≡ times place places) → ((place : ℕ) → lines_by place turns ≡ acts place) → AreCounted (order_from events places 0 turns) served acts
counted places turns served acts calls own = record {
  endorsers = λ place. endorsers_counted places 0 turns place ∙ sym (calls place);
  clients = λ place. clients_counted places 0 turns place ∙ own place;
}
