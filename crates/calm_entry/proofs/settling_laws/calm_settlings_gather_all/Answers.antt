use Rattle.calm_entry.proofs.LowerLaws.{CutLaws, RowLaws, ReadyLaws, RoundLaws}
use Rattle.calm_entry.proofs.Gathering.{has_own, is_calm, is_not_refused, has_no_receipt, is_refused_for_map}
use Rattle.calm_entry.proofs.settling_laws.calm_settlings_gather_all.Goals as goal

cut : goal.After-round_calls_are_own → CutLaws
cut c = record { store = c.calls_are_split.ensures.store; link = c.calls_are_split.ensures.link }

rounds : goal.After-round_calls_are_own → RoundLaws
rounds c = record {
  own = c.round_calls_are_own.ensures;
  marks = c.members_are_shown.ensures.marks;
  enough = c.rounds_gather_all_marks.ensures.quorum;
  reasons = c.rounds_find_full_maps.ensures.reasons;
  no_mark = c.rounds_find_full_maps.ensures.no_mark;
  refusal = c.rounds_find_full_maps.ensures.refusal;
}

rows : goal.After-round_calls_are_own → RowLaws
rows c = record {
  at = c.ledgers_are_lists.ensures.at;
  tail = c.ledgers_are_lists.ensures.tail;
  no_tail = c.ledgers_are_lists.ensures.none;
  kept = c.standing_rows_are_given.ensures.kept;
  one = c.standing_rows_are_given.ensures.one;
  attached = c.standing_rows_are_given.ensures.attached;
}

ready : goal.After-round_calls_are_own → ReadyLaws
ready c = record {
  ready = c.calm_members_are_ready.ensures.ready;
  config = c.calm_members_are_ready.ensures.config;
  tail = c.calm_members_are_ready.ensures.tail;
  next = c.calm_members_are_ready.ensures.next;
  room = c.calm_members_are_ready.ensures.room;
  full = c.calm_members_are_ready.ensures.full;
}

pub returns-clause-own : goal.returns-clause-own
returns-clause-own c = λ run chain receipt room settled. has_own (cut c) (rounds c) (rows c) (ready c) run room chain receipt settled

pub returns-clause-calm : goal.returns-clause-calm
returns-clause-calm c = λ run chain receipt room settled. is_calm (cut c) (rounds c) (rows c) (ready c) run room c.calm_services_append.ensures chain receipt settled

pub returns-clause-stands : goal.returns-clause-stands
returns-clause-stands c = λ run cause room refused. is_not_refused (cut c) (rounds c) (rows c) (ready c) run room cause refused

pub returns-clause-none : goal.returns-clause-none
returns-clause-none c = λ run chain receipt full settled. has_no_receipt (cut c) (rounds c) (rows c) (ready c) run full chain receipt settled

pub returns-clause-full : goal.returns-clause-full
returns-clause-full c = λ run cause full refused. is_refused_for_map (cut c) (rounds c) (rows c) (ready c) run full cause refused
