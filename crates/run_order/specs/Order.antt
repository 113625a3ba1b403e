-- In which order the endorsers and the clients of a run acted.
use Rattle.std.specs.Prelude.{ℕ, zero, suc, ◌-◌, max, List, [], ◌∷◌, ◌++◌, map, filter_map, reverse, take, drop}
use Rattle.port.specs.Link.{Served}
use Rattle.roster_bank.specs.Places.{place_in}
use Rattle.run_record.specs.declared.actor.Actor.{Actor}
use Rattle.run_record.specs.declared.actor.Actor.TheVariants.{Endorser, Client}
use Rattle.client_acts.specs.declared.turn.Turn.{Turn}

-- one event for each of these calls, at the place of its endorser among these ids
abbrev pub calls : List ℕ → List Served → List Actor
calls ids served = map Endorser (filter_map (λ (one : Served). place_in ids one.id) served)

-- so many events of the client at this place
abbrev pub lines : ℕ → ℕ → List Actor
lines client zero = []
lines client (suc n) = Client client ∷ lines client n

-- The events from this call on, where some of the calls have these events: before those of a turn come the calls that had been served then,
-- and after the last turn the calls that are left.
abbrev pub order_from : {A : Type 0} → (List A → List Actor) → List A → ℕ → List Turn → List Actor
order_from events served next [] = events (drop next served)
order_from events served next (turn ∷ turns) =
    events (take (turn.calls - next) (drop next served)) ++ (lines turn.client turn.lines ++ order_from events served (max next turn.calls) turns)

-- The events of a run: its endorsers stand in the roster by these ids, and served these calls, the newest first.
abbrev pub order_of : List ℕ → List Served → List Turn → List Actor
order_of ids served turns = order_from (calls ids) (reverse served) 0 turns
