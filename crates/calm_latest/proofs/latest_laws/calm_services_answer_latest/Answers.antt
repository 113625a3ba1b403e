use Rattle.std.proofs.Common.{subst}
use Rattle.op_latest.specs.LatestSound.{AtStage}
use Rattle.op_latest.specs.LatestState.{Stage}
use Rattle.calm_latest.proofs.Endings.{answer_says, front_stage}
use Rattle.calm_latest.proofs.LowerLaws.{Laws}
use Rattle.calm_latest.proofs.latest_laws.calm_services_answer_latest.Goals as goal

pub returns : goal.returns
returns c =
    let laws : Laws = record {
      few = c.quorums_are_parted.ensures.few;
      config = c.calm_members_are_ready.ensures.config;
      only = c.calm_services_read.ensures.only;
      unstored = c.calm_services_read.ensures.same;
      calm = c.calm_services_read.ensures.calm;
      split_store = c.calls_are_split.ensures.store;
      split_link = c.calls_are_split.ensures.link;
      at = c.ledgers_are_lists.ensures.at;
      tail = c.ledgers_are_lists.ensures.tail;
      no_tail = c.ledgers_are_lists.ensures.none;
      front = c.refreshes_find_all_views.ensures.front;
      all = c.whole_refreshes_find_all_views.ensures.all;
      same = c.whole_refreshes_find_all_views.ensures.same;
      unasked = c.whole_refreshes_find_all_views.ensures.unasked;
      view_stays = c.whole_refreshes_find_all_views.ensures.view_stays;
      finals_stay = c.whole_refreshes_find_all_views.ensures.finals_stay;
      row = c.standing_rows_are_given.ensures.row;
      one = c.standing_rows_are_given.ensures.one;
    } in record {
      answer = λ service left ask from state past answer contents bank calm one_more front sound stage honest faithful.
          answer_says laws service calm left one_more ask from front state.chain past answer contents bank
          (subst (λ (s : Stage). AtStage service.accepts ask from state.chain s past) stage sound.at) honest faithful;
      front = λ service ask from state past contents calm front sound honest.
          front_stage laws service calm ask from state.chain front state.stage past contents sound.at honest;
    }
