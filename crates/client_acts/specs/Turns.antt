-- When clients acted.
use Rattle.std.specs.Prelude.{◌≡◌, ℕ, ◌+◌, ◌==◌, if◌then◌else◌, List, [], ◌∷◌, ◌++◌}
use Rattle.std.specs.List.{AllByRecursion}
use Rattle.client_acts.specs.declared.turn.Turn.{Turn}

-- the client at this place, how many calls came before, and how many lines it wrote
abbrev pub turn_of : ℕ → ℕ → ℕ → Turn
turn_of client calls lines = record { client = client; calls = calls; lines = lines }

-- how many lines the client at this place wrote in these turns
abbrev pub lines_by : ℕ → List Turn → ℕ
lines_by place [] = 0
lines_by place (turn ∷ turns) = (if turn.client == place then turn.lines else 0) + lines_by place turns

-- the turns of this client alone are more, each after so many calls
abbrev pub TurnsAt : ℕ → ℕ → List Turn → List Turn → Type 0
TurnsAt client calls old new = (more : List Turn) × (new ≡ old ++ more) × AllByRecursion (λ (turn : Turn). (turn.client ≡ client) × (turn.calls ≡ calls)) more
