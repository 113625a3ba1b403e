use Rattle.op_parts.proofs.Walking.{below}
use Rattle.op_parts.proofs.walk_laws.walks_link.Goals as goal

pub returns-clause-heights : goal.returns-clause-heights
returns-clause-heights c accepts configs handle from to events fresh walked = (below accepts configs handle from fresh to events walked).0

pub returns-clause-links : goal.returns-clause-links
returns-clause-links c accepts configs handle from to events fresh walked = (below accepts configs handle from fresh to events walked).1
