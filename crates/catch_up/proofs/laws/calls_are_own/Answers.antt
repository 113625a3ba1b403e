use Rattle.catch_up.proofs.Shown.{own_store, own_link}
use Rattle.catch_up.proofs.laws.calls_are_own.Goals as goal

pub returns-clause-store : goal.returns-clause-store
returns-clause-store c = own_store

pub returns-clause-link : goal.returns-clause-link
returns-clause-link c = own_link
