use Rattle.std.proofs.Common.{subst}
use Rattle.op_entry.specs.State.{Stage}
use Rattle.op_entry.specs.Sound.{IsAt}
use Rattle.calm_entry.proofs.LowerLaws.{CutLaws, RowLaws}
use Rattle.calm_entry.proofs.Quiet.{RefreshLaws}
use Rattle.calm_entry.proofs.KnownViews.{has_front, knows_all}
use Rattle.calm_entry.proofs.run_laws.calm_runs_know_views.Goals as goal

cut : goal.After-whole_refreshes_find_all_views → CutLaws
cut c = record { store = c.calls_are_split.ensures.store; link = c.calls_are_split.ensures.link }

rows : goal.After-whole_refreshes_find_all_views → RowLaws
rows c = record {
  at = c.ledgers_are_lists.ensures.at;
  tail = c.ledgers_are_lists.ensures.tail;
  no_tail = c.ledgers_are_lists.ensures.none;
  kept = c.standing_rows_are_given.ensures.kept;
  one = c.standing_rows_are_given.ensures.one;
  attached = c.standing_rows_are_given.ensures.attached;
}

refreshes : goal.After-whole_refreshes_find_all_views → RefreshLaws
refreshes c = record {
  all = c.whole_refreshes_find_all_views.ensures.all;
  same = c.whole_refreshes_find_all_views.ensures.same;
  unasked = c.whole_refreshes_find_all_views.ensures.unasked;
  view_stays = c.whole_refreshes_find_all_views.ensures.view_stays;
  finals_stay = c.whole_refreshes_find_all_views.ensures.finals_stay;
}

pub returns-clause-front : goal.returns-clause-front
returns-clause-front c = λ run.
    has_front run.service run.from run.state.chain (cut c) (rows c) (refreshes c) c.refreshes_find_all_views.ensures.front run.calm run.front run.ask run.past run.later.contents run.honest run.state.stage run.sound

pub returns-clause-all : goal.returns-clause-all
returns-clause-all c = λ run answer ended had.
    knows_all run.service run.from run.state.chain (cut c) (rows c) (refreshes c) c.refreshes_find_all_views.ensures.front run.calm run.front run.ask run.past run.later.contents run.honest answer had
    (subst (λ (s : Stage). IsAt run.service.accepts run.ask run.from run.state.chain s run.past) ended run.sound)
