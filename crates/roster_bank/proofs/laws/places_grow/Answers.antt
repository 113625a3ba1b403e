use Rattle.roster_bank.proofs.Grows.{pushed, taken}
use Rattle.roster_bank.proofs.laws.places_grow.Goals as goal

pub returns : goal.returns
returns c = record { pushed = pushed; taken = taken }
