use Rattle.std.proofs.Common.{ℕ, List, IfOk, refl, sym, ap, subst, ◌∙◌}
use Rattle.nim_base.specs.Text.{Content as TextContent}
use Rattle.port.specs.Cause.{cause_of}
use Rattle.port.specs.Service.{ServiceAnswer, Refused, stood}
use Rattle.statement.specs.Statement.{view_of}
use Rattle.verifier.specs.Outcomes.{at_outcome}
use Rattle.client_pass.specs.Act.{At}
use Rattle.reply_lines.specs.Causes.{payload_of}
use Rattle.reply_lines.specs.Lines.{ok_line}
use Rattle.answer_lines.specs.Giving.{Gave}
use Rattle.answer_lines.specs.Taken.{TookAt}
use Rattle.answer_lines.proofs.Given.{found, gave_line, no_turn, only_learned, same_checker, turned_at}
use Rattle.answer_lines.proofs.Refused.{gave_refusal}
use Rattle.answer_lines.proofs.giving.give_at.Goals as goal

pub returns-in_ok-accepted-in-Ok-clause-took : goal.returns-in_ok-accepted-in-Ok-clause-took
returns-in_ok-accepted-in-Ok-clause-took g c =
    let standing = c.in-Ok.standing in
    subst (λ (answer : ServiceAnswer). IfOk c.taken_line.result (λ line. Gave c.args.acts.now c.take_at-taken.new.self c.args.client c.args.coordinator.now c.take_at-taken.new.coordinator (λ sides. TookAt g.K.RunName.accepts sides c.args.label.now c.args.handle.now c.args.height answer line.bytes)))
    (ap stood (sym c.in-Ok.is))
    (gave_line g.C.Checker.accepts g.S.Store.view g.L.Link.view c.args.acts.now c.take_at-taken.new.self c.args.coordinator.now c.take_at-taken.new.coordinator
    c.taken_line.result (λ (text : TextContent). text.bytes) c.args.client c.args.calls (view_of standing.receipt.statement) c.take_at-taken.result (At c.args.handle.now c.args.height standing) (At c.args.handle.now c.args.height standing) _
    c.in_ok-accepted-in-Ok.accepted.bytes (ok_line c.args.label.now c.args.height (payload_of standing.row.entry))
    (λ configs. at_outcome g.K.RunName.accepts configs c.args.handle.now c.args.height standing)
    (c.in_ok-accepted-in-Ok.ensures ∙ ap (λ (payload : List ℕ). ok_line c.args.label.now c.args.height payload) c.payload_in.ensures) refl
    c.take_at-taken.ensures (λ from to here says. says.0) c.taken_line.ensures)

pub returns-in_ok-accepted-in-Ok-clause-stays : goal.returns-in_ok-accepted-in-Ok-clause-stays
returns-in_ok-accepted-in-Ok-clause-stays g c =
    let took = c.take_at-taken.ensures in
    c.clients_stay_on.ensures.acts c.args.acts.now c.take_at-taken.new.self c.args.client took.from took.to took.acts

pub returns-in-Err-clause-took : goal.returns-in-Err-clause-took
returns-in-Err-clause-took g c =
    let acts = c.args.acts.now in
    let here = found acts.clients c.args.client c.requires.client in
    let cause = cause_of c.in-Err.refusal in
    subst (λ (answer : ServiceAnswer). IfOk c.refusal_line.result (λ line. Gave acts acts c.args.client c.args.coordinator.now c.args.coordinator.now (λ sides. TookAt g.K.RunName.accepts sides c.args.label.now c.args.handle.now c.args.height answer line.bytes)))
    (ap stood (sym c.in-Err.is))
    (gave_refusal acts c.args.client here.0 c.args.coordinator.now c.args.label.now cause c.refusal_line.result (λ (text : TextContent). text.bytes)
    (λ sides text. TookAt g.K.RunName.accepts sides c.args.label.now c.args.handle.now c.args.height (Refused cause) text)
    (c.clients_stay_on.ensures.idle acts c.args.client here.0 here.1) (λ sides text printed. printed) c.refusal_line.ensures.line c.refusal_line.ensures.no_memory)

pub returns-in_ok-accepted-in-Ok-clause-checker : goal.returns-in_ok-accepted-in-Ok-clause-checker
returns-in_ok-accepted-in-Ok-clause-checker g c =
    same_checker g.C.Checker.accepts g.S.Store.view g.L.Link.view c.args.acts.now c.take_at-taken.new.self c.args.coordinator.now c.take_at-taken.new.coordinator
    c.take_at-taken.result c.args.client c.args.calls (view_of c.in-Ok.standing.receipt.statement) (At c.args.handle.now c.args.height c.in-Ok.standing) _ c.take_at-taken.ensures

pub returns-in_ok-accepted-in-Ok-clause-learned : goal.returns-in_ok-accepted-in-Ok-clause-learned
returns-in_ok-accepted-in-Ok-clause-learned g c =
    only_learned g.C.Checker.accepts g.S.Store.view g.L.Link.view c.args.acts.now c.take_at-taken.new.self c.args.coordinator.now c.take_at-taken.new.coordinator
    c.take_at-taken.result c.args.client c.args.calls (view_of c.in-Ok.standing.receipt.statement) (At c.args.handle.now c.args.height c.in-Ok.standing) _ c.take_at-taken.ensures

pub returns-in_ok-accepted-in-Ok-clause-turns : goal.returns-in_ok-accepted-in-Ok-clause-turns
returns-in_ok-accepted-in-Ok-clause-turns g c =
    turned_at g.C.Checker.accepts g.S.Store.view g.L.Link.view c.args.acts.now c.take_at-taken.new.self c.args.coordinator.now c.take_at-taken.new.coordinator
    c.take_at-taken.result c.args.client c.args.calls (view_of c.in-Ok.standing.receipt.statement) (At c.args.handle.now c.args.height c.in-Ok.standing) _ c.take_at-taken.ensures

pub returns-in_err-accepted-in-Ok-clause-turns : goal.returns-in_err-accepted-in-Ok-clause-turns
returns-in_err-accepted-in-Ok-clause-turns g c = no_turn c.args.client c.args.calls c.args.acts.now.turns

pub returns-in-Err-clause-turns : goal.returns-in-Err-clause-turns
returns-in-Err-clause-turns g c = no_turn c.args.client c.args.calls c.args.acts.now.turns
