-- The events of a line come after those before it.
use Rattle.std.proofs.Common.{◌≡◌, ℕ, ◌+◌, suc, zero, ◌≤◌, List, [], ◌∷◌, ◌++◌, map, length, refl, sym, ap, subst, ◌∙◌, arith, length-append}
use Rattle.std.specs.Prelude.{filter_map, reverse}
use Rattle.std.specs.List.{AllByRecursion}
use Rattle.std.proofs.lemmas.List.{length-reverse, map-append, reverse-append}
use Rattle.std.proofs.lemmas.List.Elements.{filter_map-append}
use Rattle.client_acts.specs.declared.turn.Turn.{Turn}
use Rattle.client_acts.specs.ClientActs.{line_count}
use Rattle.client_acts.specs.Turns.{lines_by}
use Rattle.client_pass.specs.ClientPass.{ClientPass}
use Rattle.endorser_cell.specs.BankLine.{BankLine, served_by}
use Rattle.endorser_cell.specs.CellBank.{CellBank}
use Rattle.fault_script.specs.Command.{Command}
use Rattle.port.specs.Link.{Served}
use Rattle.roster_bank.specs.Places.{place_in}
use Rattle.run_record.specs.Events.{count_client}
use Rattle.run_order.specs.Order.{calls, order_from, order_of}
use Rattle.run_record.specs.declared.actor.Actor.TheVariants.{Endorser}
use Rattle.script_world.specs.Running.{AreTurnsCounted, Running}
use Rattle.script_runs.specs.OwnCalls.{served_in}
use Rattle.script_runs.specs.Stamps.{InOrder, MayWrite, events_of}
use Rattle.script_runs.proofs.LineTurns.{Wrote}
use Rattle.script_runs.proofs.Ordered.{AllAt, AllUpto, at_upto, count_first, count_order, draw_of, draw_upto, of_turns, turns_of, upto_both, upto_more, with_more, wrote}

apart : (roster : List ℕ) (one other : List Served) → calls roster (one ++ other) ≡ calls roster one ++ calls roster other
apart roster one other =
    ap (map Endorser) (filter_map-append (λ (served : Served). place_in roster served.id) one other)
    ∙ map-append Endorser (filter_map (λ (served : Served). place_in roster served.id) one) (filter_map (λ (served : Served). place_in roster served.id) other)

places_only : (place : ℕ) (places : List ℕ) → count_client place (map Endorser places) ≡ 0
places_only place [] = refl
places_only place (p ∷ places) = count_first place (Endorser p) (map Endorser places) ∙ ap (λ (n : ℕ). 0 + n) (places_only place places)

no_client : (roster : List ℕ) (place : ℕ) (served : List Served) → count_client place (calls roster served) ≡ 0
no_client roster place served = places_only place (filter_map (λ (one : Served). place_in roster one.id) served)

firsts : (P : ℕ → Type 0) (n : ℕ) (turns : List Turn) → AllByRecursion (λ (turn : Turn). P turn.client × (turn.calls ≡ n)) turns → AllByRecursion (λ (turn : Turn). P turn.client) turns
firsts P n [] all = tt
firsts P n (turn ∷ turns) all = (all.0.0, firsts P n turns all.1)

seconds : (P : ℕ → Type 0) (n m : ℕ) (turns : List Turn) → n ≡ m → AllByRecursion (λ (turn : Turn). P turn.client × (turn.calls ≡ n)) turns → AllAt m turns
seconds P n m [] same all = tt
seconds P n m (turn ∷ turns) same all = (all.0.1 ∙ same, seconds P n m turns same all.1)

module _ {S C : Type 0} (command : Command) (old new : Running (CellBank S C) C) (more : List Served) (served : served_in new ≡ more ++ served_in old) (line : Wrote command old new)
    (upto : AllUpto (length (served_in old)) old.turns) (counted : AreTurnsCounted new) where
  turned : reverse (served_in new) ≡ reverse (served_in old) ++ reverse more
  turned = ap reverse served ∙ reverse-append more (served_in old)

  before : length (served_in old) ≡ length (reverse (served_in old))
  before = sym (length-reverse (served_in old))

  after : length (served_in new) ≡ length (reverse (served_in old) ++ reverse more)
  after = sym (length-reverse (served_in new)) ∙ ap (length {A = Served}) turned

  pub in_order : (roster : List ℕ) → InOrder roster command old new
  in_order roster =
      let past = reverse (served_in old) in
      let fresh = reverse more in
      record {
        drawn = draw_of line.drawn;
        more = more;
        written = wrote line.took;
        draws = line.draws;
        served = served;
        writes = of_turns (MayWrite old new command) line.took (firsts (MayWrite old new command) (length (served_in new)) line.took line.each);
        events = ap (λ (all : List Served). order_from (calls roster) all 0 new.turns) turned
            ∙ ap (λ (turns : List Turn). order_from (calls roster) (past ++ fresh) 0 turns) line.turns
            ∙ ap (λ (n : ℕ). order_from (calls roster) (past ++ fresh) 0 ((old.turns ++ turns_of line.drawn n) ++ line.took)) before
            ∙ with_more (calls roster) (apart roster) refl past fresh old.turns line.drawn line.took (subst (λ (n : ℕ). AllUpto n old.turns) before upto)
            (seconds (MayWrite old new command) (length (served_in new)) (length (past ++ fresh)) line.took after line.each);
        noted = λ place. count_order (calls roster) (no_client roster) (reverse (served_in new)) 0 new.turns place ∙ counted place;
      }

  -- and none of the turns so far is later than the calls so far
  pub upto_now : AllUpto (length (served_in new)) new.turns
  upto_now =
      let n = length (served_in old) in
      let m = length (served_in new) in
      let sum = ap (length {A = Served}) served ∙ length-append more (served_in old) in
      let less : n ≤ m = omega (arith, sum) in
      subst (AllUpto m) (sym line.turns)
      (upto_both m (old.turns ++ turns_of line.drawn n) line.took
      (upto_more n m (old.turns ++ turns_of line.drawn n) less (upto_both n old.turns (turns_of line.drawn n) upto (draw_upto line.drawn n)))
      (at_upto m line.took (seconds (MayWrite old new command) m m line.took refl line.each)))

-- no client came yet
pub none_counted : {S C : Type 0} (first : Running (CellBank S C) C) → first.clients ≡ [] → first.turns ≡ [] → AreTurnsCounted first
none_counted {S} {C} first clients turns place =
    ap (lines_by place) turns ∙ nobody place ∙ sym (ap (λ (all : List (ClientPass C)). line_count all place) clients) where
      nobody : (place : ℕ) → lines_by place [] ≡ line_count {C = C} [] place
      nobody zero = refl
      nobody (suc place) = refl

-- nothing was served or written yet
pub none_before : {S C : Type 0} (roster : List ℕ) (first : Running (CellBank S C) C) → first.state.link.log ≡ [] → first.turns ≡ [] → events_of roster first ≡ []
none_before roster first log turns =
    ap (λ (lines : List BankLine). order_of roster (served_by [] lines) first.turns) log ∙ ap (λ (turns : List Turn). order_of roster [] turns) turns
