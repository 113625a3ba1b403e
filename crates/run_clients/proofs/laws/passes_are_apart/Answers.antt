use Rattle.run_clients.proofs.NamedClients.{other_kept, pass_is_set, place_kept, count_kept}
use Rattle.run_clients.proofs.laws.passes_are_apart.Goals as goal

pub returns-clause-set : goal.returns-clause-set
returns-clause-set g c = pass_is_set

pub returns-clause-others : goal.returns-clause-others
returns-clause-others g c = other_kept

pub returns-clause-places : goal.returns-clause-places
returns-clause-places g c = place_kept

pub returns-clause-count : goal.returns-clause-count
returns-clause-count g c = count_kept
