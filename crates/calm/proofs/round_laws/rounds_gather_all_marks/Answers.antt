use Rattle.calm.specs.Appending.{rows_after}
use Rattle.calm.proofs.RoundEnds.{all_signed, signed_once}
use Rattle.calm.proofs.WholeRounds.{whole, all_able, no_reason_quorum}
use Rattle.calm.proofs.round_laws.rounds_gather_all_marks.Goals as goal

pub returns-clause-marks : goal.returns-clause-marks
returns-clause-marks c = λ r asked marks reasons past after room were faithful.
    (all_signed r.accepts r.signs r.bank r.view r.rows r.left r.ask r.ready r.next room asked marks reasons past after were faithful).lists.1

pub returns-clause-no_reason : goal.returns-clause-no_reason
returns-clause-no_reason c = λ r asked marks reasons past after room were faithful.
    (all_signed r.accepts r.signs r.bank r.view r.rows r.left r.ask r.ready r.next room asked marks reasons past after were faithful).lists.0

pub returns-clause-hold : goal.returns-clause-hold
returns-clause-hold c = λ r asked marks reasons past after room were faithful.
    (all_signed r.accepts r.signs r.bank r.view r.rows r.left r.ask r.ready r.next room asked marks reasons past after were faithful).were

pub returns-clause-same : goal.returns-clause-same
returns-clause-same c = λ r asked marks reasons past after contents later room were faithful honest.
    (all_signed r.accepts r.signs r.bank r.view r.rows r.left r.ask r.ready r.next room asked marks reasons past after were faithful).quiet contents later honest

pub returns-clause-once : goal.returns-clause-once
returns-clause-once c = λ r state past after room sound faithful. signed_once r.accepts r.signs r.bank r.view r.rows r.left r.ask r.ready r.next room state past after sound faithful

pub returns-clause-all : goal.returns-clause-all
returns-clause-all c = λ r state past after room sound all faithful.
    all_able r.bank after r.view r.ask.members (rows_after r) r.left state.asked all (all_signed r.accepts r.signs r.bank r.view r.rows r.left r.ask r.ready r.next room state.asked state.marks state.reasons past after (whole r.accepts r.ask state past sound all) faithful).were

pub returns-clause-quorum : goal.returns-clause-quorum
returns-clause-quorum c = λ r state past after room sound all faithful.
    no_reason_quorum c.members_are_shown.ensures.few r.accepts r.ask state past sound all r.ready.config.some (all_signed r.accepts r.signs r.bank r.view r.rows r.left r.ask r.ready r.next room state.asked state.marks state.reasons past after (whole r.accepts r.ask state past sound all) faithful).lists.0

pub returns-clause-accepted : goal.returns-clause-accepted
returns-clause-accepted c = λ r state past after room sound all faithful.
    c.members_are_shown.ensures.accepted r.accepts r.ask state past sound r.ready.config all
    (no_reason_quorum c.members_are_shown.ensures.few r.accepts r.ask state past sound all r.ready.config.some (all_signed r.accepts r.signs r.bank r.view r.rows r.left r.ask r.ready r.next room state.asked state.marks state.reasons past after (whole r.accepts r.ask state past sound all) faithful).lists.0)
