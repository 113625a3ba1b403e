use Rattle.std.proofs.Common.{map, rules}
use Rattle.std.specs.Prelude.{vec_items}
use Rattle.run_record.proofs.Made as made
use Rattle.run_record.proofs.stamping.record_of.Goals as goal

pub returns : goal.returns
returns c =
    let order = c.args.order.now in
    let cells = map vec_items c.args.cells.items in
    let now_cells = map vec_items c.stamp_all.new.cells.items in
    let passes = map vec_items c.args.passes.items in
    let now_passes = map vec_items c.stamp_all.new.passes.items in
    let events = c.requires.events in
    let calls = c.in_ok-stamp_all.ensures.cells in
    let acts = c.in_ok-stamp_all.ensures.passes in
    record {
      genesis = search rules;
      roster = search rules;
      calls = made.same_calls order cells now_cells passes now_passes events calls acts;
      acts = made.same_acts order cells now_cells passes now_passes events calls acts;
      call_stamps = made.calls_at order cells now_cells passes now_passes events calls acts;
      act_stamps = made.acts_at order cells now_cells passes now_passes events calls acts;
      rising = made.rises order cells now_cells passes now_passes events calls acts c.args.genesis c.args.roster.items;
      each_once = made.once order cells now_cells passes now_passes events calls acts c.args.genesis c.args.roster.items;
      count = made.counted order cells now_cells passes now_passes events calls acts c.args.genesis c.args.roster.items;
      lawful = made.lawful order cells now_cells passes now_passes events calls acts c.args.roster.items;
      clients = made.clients order cells now_cells passes now_passes events calls acts;
      is_record = made.is_record order cells now_cells passes now_passes events calls acts c.args.genesis c.args.roster.items;
    }
