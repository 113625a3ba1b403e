-- The events of a run: who acted, in the order in which it happened.
use Rattle.std.specs.Prelude.{◌≡◌, ℕ, ◌+◌, ◌==◌, Bool, false, if◌then◌else◌, List, [], ◌∷◌, length, slice_index_or, count_by}
use Rattle.endorser_core.specs.Line.{Line as CellLine}
use Rattle.client_pass.specs.Act.{Line as ClientLine}
use Rattle.run_record.specs.declared.actor.Actor.{Actor}
use Rattle.run_record.specs.declared.actor.Actor.TheVariants.{Endorser, Client}

-- the endorser at this place acted
abbrev pub is_endorser : ℕ → Actor → Bool
is_endorser place (Endorser acting) = acting == place
is_endorser place (Client acting) = false

-- the client at this place acted
abbrev pub is_client : ℕ → Actor → Bool
is_client place (Endorser acting) = false
is_client place (Client acting) = acting == place

-- how many events are the endorser's at this place
abbrev pub count_endorser : ℕ → List Actor → ℕ
count_endorser place order = count_by (is_endorser place) order

-- how many events are the client's at this place
abbrev pub count_client : ℕ → List Actor → ℕ
count_client place order = count_by (is_client place) order

-- each endorser and each client has as many events as this says of its place
pub record AreCounted (order : List Actor) (calls acts : ℕ → ℕ) : Type 0 where
  pub endorsers : (place : ℕ) → count_endorser place order ≡ calls place
  pub clients : (place : ℕ) → count_client place order ≡ acts place

-- the length of the list at this place, 0 where none stands
abbrev pub length_at : {A : Type 0} → List (List A) → ℕ → ℕ
length_at lists place = length (slice_index_or lists place [])

-- Each list has one line for each event of its actor. So no event names a place where no list stands.
abbrev pub AreEvents : List Actor → List (List CellLine) → List (List ClientLine) → Type 0
AreEvents order cells passes = AreCounted order (length_at cells) (length_at passes)

-- 1 at this place, and 0 at all others
abbrev pub one_at : ℕ → ℕ → ℕ
one_at acting place = if acting == place then 1 else 0

-- the places of the events that pass, in an order whose first event has this place
abbrev pub places_from : ℕ → (Actor → Bool) → List Actor → List ℕ
places_from first passes [] = []
places_from first passes (actor ∷ order) = if passes actor then first ∷ places_from (first + 1) passes order else places_from (first + 1) passes order

-- the places of the events that pass, from 0
abbrev pub places : (Actor → Bool) → List Actor → List ℕ
places passes order = places_from 0 passes order
