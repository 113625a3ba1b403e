use Rattle.statement.specs.Config.{ids}
use Rattle.script_runs.specs.Begins.{first_ids}
use Rattle.script_runs.specs.Roster.{all_members}
use Rattle.script_runs.proofs.RunFronts.{can_front, first_short}
use Rattle.script_runs.proofs.belonging.runs_belong_to_scripts.Goals as goal

pub returns : goal.returns
returns g c = λ key_of left_of checks script front rest first last printed split can begins runs.
    record {
      accepted = c.replies_are_accepted.ensures.accepted key_of left_of checks (first_ids script) front first last printed begins runs;
      elsewhere = c.replies_are_accepted.ensures.elsewhere key_of left_of checks (first_ids script) front first last printed begins runs;
      alone = c.replies_are_accepted.ensures.view_0 key_of left_of checks (first_ids script) front first last printed begins runs;
      drawn = c.entries_were_drawn.ensures key_of left_of checks (first_ids script) front first last printed (can_front script front rest split can) begins runs;
      once = c.appends_are_one.ensures key_of left_of checks (first_ids script) front first last printed (can_front script front rest split can) begins runs;
      own = c.other_calls_are_own.ensures key_of left_of checks (first_ids script) front first last printed (can_front script front rest split can) begins runs;
      unbegun = c.events_are_in_order.ensures.none key_of left_of checks (first_ids script) (ids (all_members key_of)) first begins;
      ordered = c.events_are_in_order.ensures.lines key_of left_of checks (first_ids script) front first last printed (can_front script front rest split can) begins runs;
      signed = c.marks_were_signed.ensures key_of left_of checks (first_ids script) front first last printed (first_short script can) (can_front script front rest split can) begins runs;
      losses = c.losses_were_asked_for.ensures key_of left_of checks (first_ids script) front first last printed begins runs;
      faults = c.store_faults_were_asked_for.ensures key_of left_of checks (first_ids script) front first last printed begins runs;
    }
