-- What became of the own row that was got.
use Rattle.std.specs.Prelude.{◌≡◌, ◌↔◌, ℕ, true, List}
use Rattle.std.specs.Option.{option_map}
use Rattle.port.specs.declared.store_answers.Got.{Got}
use Rattle.port.specs.declared.store_answers.Got.TheVariants as gots
use Rattle.port.specs.Cause.{cause_of}
use Rattle.port.specs.GoodRow.{IsGoodRow}
use Rattle.port.specs.Row.{Content}
use Rattle.port.specs.Stored.{Stored}
use Rattle.op_entry.specs.declared.finding.Finding.{Finding}
use Rattle.op_entry.specs.declared.finding.Finding.TheVariants.{Row, Refused}
use Rattle.op_entry.specs.OwnRow.{IsWhole, IsInPlaceOf}
use Rattle.op_entry.specs.Refusal.{IsRowRefused, IsTakenRefused}

-- what the store gave for the own row, whose place was taken
abbrev pub IsTakenFinding : Content → Got → Finding → Type 0
IsTakenFinding own got (Row found attached) =
    (stored : Stored) × (got ≡ gots.Some stored) × (stored.attached ≡ option_map (λ text. text.bytes) attached)
    × IsInPlaceOf own stored.body found.row × ((found.is_own ≡ true) ↔ (found.row.entry ≡ own.entry))
IsTakenFinding own got (Refused refusal) = IsTakenRefused own got (cause_of refusal)

-- what the store gave for the row of the ledger at the height
abbrev pub IsFindingAt : List ℕ → ℕ → Got → Finding → Type 0
IsFindingAt handle height got (Row found attached) =
    (stored : Stored) × (got ≡ gots.Some stored) × (stored.attached ≡ option_map (λ text. text.bytes) attached)
    × IsGoodRow handle height stored.body found.row × (found.is_own ≡ true)
IsFindingAt handle height got (Refused refusal) = IsRowRefused handle height got (cause_of refusal)

-- a row that was found has its entry's metablock
abbrev pub IsWholeFinding : Finding → Type 0
IsWholeFinding (Row found attached) = IsWhole found.row
IsWholeFinding (Refused refusal) = Unit {0}
