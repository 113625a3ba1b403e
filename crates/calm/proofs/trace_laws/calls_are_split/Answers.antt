use Rattle.calm.proofs.HonestGets.{split_calls}
use Rattle.calm.proofs.Turns.{between}
use Rattle.calm.proofs.trace_laws.calls_are_split.Goals as goal

pub returns-clause-store : goal.returns-clause-store
returns-clause-store c = λ contents after newer older honest. split_calls contents newer older after honest

pub returns-clause-link : goal.returns-clause-link
returns-clause-link c = λ signs bank after newer older faithful.
    let b = between signs bank newer older after faithful in (b.middle, b.older_calls, b.newer_calls)
