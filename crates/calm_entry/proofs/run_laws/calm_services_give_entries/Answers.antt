use Rattle.std.proofs.Common.{subst}
use Rattle.op_entry.specs.Ask.{Ask}
use Rattle.op_entry.specs.State.{Stage, Ended}
use Rattle.op_entry.specs.Sound.{IsAt}
use Rattle.calm_entry.proofs.LowerLaws.{CutLaws, RowLaws}
use Rattle.calm_entry.proofs.Quiet.{RefreshLaws}
use Rattle.calm_entry.proofs.ReadsAt.{read}
use Rattle.calm_entry.proofs.run_laws.calm_services_give_entries.Goals as goal

cut : goal.After-whole_refreshes_find_all_views → CutLaws
cut c = record { store = c.calls_are_split.ensures.store; link = c.calls_are_split.ensures.link }

rows : goal.After-whole_refreshes_find_all_views → RowLaws
rows c = record {
  at = c.ledgers_are_lists.ensures.at;
  tail = c.ledgers_are_lists.ensures.tail;
  no_tail = c.ledgers_are_lists.ensures.none;
  kept = c.standing_rows_are_given.ensures.kept;
  one = c.standing_rows_are_given.ensures.one;
  attached = c.standing_rows_are_given.ensures.attached;
}

refreshes : goal.After-whole_refreshes_find_all_views → RefreshLaws
refreshes c = record {
  all = c.whole_refreshes_find_all_views.ensures.all;
  same = c.whole_refreshes_find_all_views.ensures.same;
  unasked = c.whole_refreshes_find_all_views.ensures.unasked;
  view_stays = c.whole_refreshes_find_all_views.ensures.view_stays;
  finals_stay = c.whole_refreshes_find_all_views.ensures.finals_stay;
}

pub returns : goal.returns
returns c = λ run handle height answer asked ended.
    let at = subst (λ (s : Stage). IsAt run.service.accepts run.ask run.from run.state.chain s run.past) ended run.sound in
    read (cut c) (rows c) (refreshes c) run.service run.calm run.from run.front handle height run.state.chain run.later run.one_more run.past run.honest run.faithful answer
    (subst (λ (a : Ask). IsAt run.service.accepts a run.from run.state.chain (Ended answer) run.past) asked at)
