-- Which lines of a bank's list were served, by the places of their endorsers in the roster.
use Rattle.std.specs.Prelude.{◌≡◌, ℕ, ◌+◌, ◌==◌, Bool, true, false, if◌then◌else◌, List, [], ◌∷◌, filter_map, Option, Some, None, IsSome, option_map}
use Rattle.port.specs.Answer.{Answer, Refused, LogFull}
use Rattle.endorser_cell.specs.BankLine.{BankLine}

-- where the id stands first, None where it doesn't stand
abbrev pub place_in : List ℕ → ℕ → Option ℕ
place_in [] id = None
place_in (first ∷ ids) id = if first == id then Some 0 else option_map (λ place. place + 1) (place_in ids id)

-- whether an endorser served a call that was answered so: the call reached it, and it had a stamp left
abbrev pub was_served : Option Answer → Bool
was_served None = false
was_served (Some (Refused LogFull)) = false
was_served (Some answer) = true

-- the place of the endorser that served the line's call, None where none did
abbrev pub place_served : List ℕ → BankLine → Option ℕ
place_served ids line = if was_served line.answer then place_in ids line.id else None

-- the places of all that served a line, in the order of the lines
abbrev pub places_served : List ℕ → List BankLine → List ℕ
places_served ids log = filter_map (place_served ids) log

-- the endorser that served the line, where one did, stands in the roster
abbrev pub IsOfMember : List ℕ → BankLine → Type 0
IsOfMember ids line = was_served line.answer ≡ true → IsSome (place_in ids line.id)
