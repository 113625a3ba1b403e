use Rattle.calm.proofs.NewestViews.{tail_is}
use Rattle.calm.proofs.NextRows.{is_next}
use Rattle.calm.proofs.CalmMembers.{newest_is_config, ready, room, full}
use Rattle.calm.proofs.calm_laws.calm_members_are_ready.Goals as goal

pub returns-clause-ready : goal.returns-clause-ready
returns-clause-ready c = λ service ask calm members view. ready service calm ask members view

pub returns-clause-config : goal.returns-clause-config
returns-clause-config c = λ service calm. newest_is_config service calm

pub returns-clause-tail : goal.returns-clause-tail
returns-clause-tail c = λ configs some. tail_is configs some

pub returns-clause-next : goal.returns-clause-next
returns-clause-next c = λ service handle entry calm next. is_next service.ledgers handle entry next service.rows calm.map

pub returns-clause-room : goal.returns-clause-room
returns-clause-room c = λ service handle calm some. room service calm handle some

pub returns-clause-full : goal.returns-clause-full
returns-clause-full c = λ service handle calm none all. full service calm handle none all
