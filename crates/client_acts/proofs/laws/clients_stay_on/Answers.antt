use Rattle.client_acts.proofs.Staying.{stays_same, stays_acts, stays_again, idle}
use Rattle.client_acts.proofs.laws.clients_stay_on.Goals as goal

pub returns-clause-same : goal.returns-clause-same
returns-clause-same g c = λ acts. stays_same acts

pub returns-clause-acts : goal.returns-clause-acts
returns-clause-acts g c = λ old new place from to acts. stays_acts old new place from to acts

pub returns-clause-again : goal.returns-clause-again
returns-clause-again g c = λ old middle new one other. stays_again old middle new one other

pub returns-clause-idle : goal.returns-clause-idle
returns-clause-idle g c = λ acts place from stood. idle acts place from stood
