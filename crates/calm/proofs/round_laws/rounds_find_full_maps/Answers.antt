use Rattle.calm.proofs.RoundEnds.{all_refused, refused_once}
use Rattle.calm.proofs.WholeRounds.{whole, all_able}
use Rattle.calm.proofs.FullMaps.{refused, no_marks}
use Rattle.calm.proofs.round_laws.rounds_find_full_maps.Goals as goal

pub returns-clause-reasons : goal.returns-clause-reasons
returns-clause-reasons c = λ r asked marks reasons past after full were faithful.
    (all_refused r.accepts r.signs r.bank r.view r.rows r.left r.ask r.ready r.next full asked marks reasons past after were faithful).lists.1

pub returns-clause-no_mark : goal.returns-clause-no_mark
returns-clause-no_mark c = λ r asked marks reasons past after full were faithful.
    (all_refused r.accepts r.signs r.bank r.view r.rows r.left r.ask r.ready r.next full asked marks reasons past after were faithful).lists.0

pub returns-clause-hold : goal.returns-clause-hold
returns-clause-hold c = λ r asked marks reasons past after full were faithful.
    (all_refused r.accepts r.signs r.bank r.view r.rows r.left r.ask r.ready r.next full asked marks reasons past after were faithful).were

pub returns-clause-same : goal.returns-clause-same
returns-clause-same c = λ r asked marks reasons past after contents later full were faithful honest.
    (all_refused r.accepts r.signs r.bank r.view r.rows r.left r.ask r.ready r.next full asked marks reasons past after were faithful).quiet contents later honest

pub returns-clause-once : goal.returns-clause-once
returns-clause-once c = λ r state past after full sound faithful. refused_once r.accepts r.signs r.bank r.view r.rows r.left r.ask r.ready r.next full state past after sound faithful

pub returns-clause-all : goal.returns-clause-all
returns-clause-all c = λ r state past after full sound all faithful.
    all_able r.bank after r.view r.ask.members r.rows r.left state.asked all (all_refused r.accepts r.signs r.bank r.view r.rows r.left r.ask r.ready r.next full state.asked state.marks state.reasons past after (whole r.accepts r.ask state past sound all) faithful).were

pub returns-clause-few : goal.returns-clause-few
returns-clause-few c = λ r state past after full sound all faithful.
    no_marks r.ask.members state.marks (all_refused r.accepts r.signs r.bank r.view r.rows r.left r.ask r.ready r.next full state.asked state.marks state.reasons past after (whole r.accepts r.ask state past sound all) faithful).lists.0

pub returns-clause-refusal : goal.returns-clause-refusal
returns-clause-refusal c = λ r state past after full sound all faithful from higher.
    refused r.ask.members state.asked from higher state.reasons r.ready.config.some all (all_refused r.accepts r.signs r.bank r.view r.rows r.left r.ask r.ready r.next full state.asked state.marks state.reasons past after (whole r.accepts r.ask state past sound all) faithful).lists.1
