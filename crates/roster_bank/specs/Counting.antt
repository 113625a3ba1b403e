-- How many calls were served.
use Rattle.std.specs.Prelude.{ℕ, if◌then◌else◌, length, Option, Some, None}
use Rattle.std.specs.Option.{option_map_or}
use Rattle.port.specs.Link.{LinkView}
use Rattle.endorser_cell.specs.BankLine.{BankLine}
use Rattle.roster_bank.specs.Places.{was_served}

-- as many as a link tells, none where it doesn't
abbrev pub served_count : LinkView → ℕ
served_count view = option_map_or length view.served 0

-- one where there is a line whose call was served
abbrev pub count_in : Option BankLine → ℕ
count_in None = 0
count_in (Some line) = if was_served line.answer then 1 else 0
