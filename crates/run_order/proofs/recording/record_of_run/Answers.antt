use Rattle.std.proofs.Common.{◌≡◌, List, [], map, ap, ◌∙◌}
use Rattle.std.specs.Vec.{vec_items}
use Rattle.statement.specs.Config.{ids}
use Rattle.endorser_cell.specs.BankLine.{served_by}
use Rattle.roster_bank.specs.Places.{places_served}
use Rattle.client_acts.specs.declared.turn.Turn.{Turn}
use Rattle.run_record.specs.declared.actor.Actor.{Actor}
use Rattle.run_record.specs.Events.{is_client, is_endorser, places}
use Rattle.run_record.specs.Stamping.{acts_of}
use Rattle.run_order.specs.Order.{order_from, order_of}
use Rattle.run_order.proofs.Orders.{events, of_served}
use Rattle.run_order.proofs.Recorded.{are_events, same_acts, unstamped}
use Rattle.run_order.proofs.recording.record_of_run.Goals as goal

pub record_of-requires : goal.record_of-requires
record_of-requires g c =
    let order : c.deref.result.now ≡ order_from events (places_served (ids g.K.RunName.members) c.args.bank.log) 0 c.args.clients.turns =
    c.deref.ensures.value ∙ c.in_ok-order.ensures ∙ ap (λ (turns : List Turn). order_from events (places_served (ids g.K.RunName.members) c.args.bank.log) 0 turns) c.turns.ensures.turns in
    record {
      events = are_events (places_served (ids g.K.RunName.members) c.args.bank.log) c.args.clients.turns c.deref.result.now (map vec_items c.in_ok-cells.cells.items) (map vec_items c.in_ok-passes.passes.items)
          c.args.clients.clients order c.in_ok-cells.ensures.counted c.in_ok-passes.ensures.lines c.turns.ensures.counted;
    }

pub returns-clause-acts : goal.returns-clause-acts
returns-clause-acts g c =
    same_acts (map acts_of c.in_ok-made.made.passes) (map vec_items c.in_ok-passes.passes.items) c.args.clients.clients c.in_ok-made.ensures.acts c.in_ok-passes.ensures.lines

pub returns-clause-call_stamps : goal.returns-clause-call_stamps
returns-clause-call_stamps g c place =
    let order : c.deref.result.now ≡ order_of (ids g.K.RunName.members) (served_by [] c.args.bank.log) c.args.clients.turns =
    c.deref.ensures.value ∙ c.in_ok-order.ensures ∙ ap (λ (turns : List Turn). order_from events (places_served (ids g.K.RunName.members) c.args.bank.log) 0 turns) c.turns.ensures.turns
    ∙ of_served (ids g.K.RunName.members) c.args.bank.log c.args.clients.turns c.places_are_of_served_calls.ensures.places c.in_ok-cells.ensures.roster.known in
    c.in_ok-made.ensures.call_stamps place ∙ ap (λ (order : List Actor). places (is_endorser place) order) order

pub returns-clause-act_stamps : goal.returns-clause-act_stamps
returns-clause-act_stamps g c place =
    let order : c.deref.result.now ≡ order_of (ids g.K.RunName.members) (served_by [] c.args.bank.log) c.args.clients.turns =
    c.deref.ensures.value ∙ c.in_ok-order.ensures ∙ ap (λ (turns : List Turn). order_from events (places_served (ids g.K.RunName.members) c.args.bank.log) 0 turns) c.turns.ensures.turns
    ∙ of_served (ids g.K.RunName.members) c.args.bank.log c.args.clients.turns c.places_are_of_served_calls.ensures.places c.in_ok-cells.ensures.roster.known in
    c.in_ok-made.ensures.act_stamps place ∙ ap (λ (order : List Actor). places (is_client place) order) order

pub returns-clause-record : goal.returns-clause-record
returns-clause-record g c is begins keys genuine =
    c.in_ok-made.ensures.is_record g.K.RunName.accepts (
    unstamped g.K.RunName.accepts g.K.RunName.members c.args.genesis c.args.roster.items (map vec_items c.in_ok-cells.cells.items) (map vec_items c.in_ok-passes.passes.items)
    c.args.clients.first c.in_ok-cells.ensures.roster.rising c.in_ok-cells.ensures.lawful c.in_ok-passes.ensures.client is begins keys genuine
    )
