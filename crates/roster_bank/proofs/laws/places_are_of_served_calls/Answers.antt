use Rattle.roster_bank.proofs.Grows.{of_all_served}
use Rattle.roster_bank.proofs.laws.places_are_of_served_calls.Goals as goal

pub returns : goal.returns
returns c = record { places = of_all_served }
