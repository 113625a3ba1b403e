use Rattle.std.proofs.Common.{◌≡◌, ℕ, Option, Result, IfOk, sym, ap, subst}
use Rattle.std.specs.Result.{result_err}
use Rattle.nim_base.specs.Text.{Content as TextContent}
use Rattle.port.specs.Cause.{cause_of}
use Rattle.port.specs.Reply.{LatestReply}
use Rattle.port.specs.Row.{Content}
use Rattle.port.specs.Service.{ServiceAnswer, Refused, replied}
use Rattle.statement.specs.Statement.{view_of}
use Rattle.verifier.specs.declared.reply_fault.ReplyFault.{ReplyFault}
use Rattle.verifier.specs.Outcomes.{latest_outcome}
use Rattle.client_pass.specs.Act.{Latest}
use Rattle.client_pass.specs.ClientList.{IsForRead}
use Rattle.answer_lines.specs.Giving.{Gave, count_by}
use Rattle.answer_lines.specs.Taken.{Took, TookLatest, latest_line}
use Rattle.answer_lines.proofs.Given.{drew_read, gave_drawn, gave_latest_line, no_turn, only_learned, same_checker, turned_at}
use Rattle.answer_lines.proofs.Refused.{gave_refusal}
use Rattle.answer_lines.proofs.giving.give_latest.Goals as goal

pub returns-in-Ok-clause-took : goal.returns-in-Ok-clause-took
returns-in-Ok-clause-took g c =
    let reply = c.in-Ok.reply in
    let nonce = c.args.nonce.now in
    let printed = subst (λ (row : Option Content). IfOk c.latest_line.result (λ line. (told : Result ℕ ReplyFault) × (c.take_latest-taken.result ≡ count_by told) × (line.bytes ≡ latest_line c.args.label.now row told)))
    (ap (λ (r : LatestReply). r.row) c.reply.view_is) c.latest_line.ensures in
    subst (λ (answer : ServiceAnswer). IfOk c.latest_line.result (λ line. Gave c.args.acts.now c.take_latest-taken.new.self c.args.client c.args.coordinator.now c.take_latest-taken.new.coordinator (λ sides. TookLatest g.K.RunName.accepts sides c.args.label.now c.args.handle.now nonce answer line.bytes)))
    (ap replied (sym c.in-Ok.is))
    (gave_drawn g.C.Checker.accepts g.S.Store.view g.L.Link.view c.args.acts.now c.take_latest-taken.new.self c.args.coordinator.now c.take_latest-taken.new.coordinator
    c.latest_line.result c.args.client c.args.draw (λ draw from. IsForRead from.lines draw nonce)
    (λ line draw sides. Took sides (view_of reply.receipt.statement) (λ configs. latest_outcome g.K.RunName.accepts configs c.args.handle.now nonce reply)
    (λ told. Latest draw c.args.handle.now reply (result_err told)) (latest_line c.args.label.now reply.row) line.bytes)
    (λ from here. drew_read c.args.acts.now.clients c.args.client c.args.draw from nonce c.requires.drawn here)
    (gave_latest_line g.C.Checker.accepts g.S.Store.view g.L.Link.view c.args.acts.now c.take_latest-taken.new.self c.args.coordinator.now c.take_latest-taken.new.coordinator
    c.latest_line.result (λ (text : TextContent). text.bytes) c.args.client c.args.calls (view_of reply.receipt.statement) c.take_latest-taken.result
    (Latest c.args.draw c.args.handle.now reply) _ c.args.label.now reply.row
    (λ configs. latest_outcome g.K.RunName.accepts configs c.args.handle.now nonce reply) c.take_latest-taken.ensures
    (λ from to here says. says.0 nonce (drew_read c.args.acts.now.clients c.args.client c.args.draw from nonce c.requires.drawn here))
    (λ from to here says. says.1 nonce (drew_read c.args.acts.now.clients c.args.client c.args.draw from nonce c.requires.drawn here))
    printed))

pub returns-in-Ok-clause-stays : goal.returns-in-Ok-clause-stays
returns-in-Ok-clause-stays g c =
    let took = c.take_latest-taken.ensures in
    c.clients_stay_on.ensures.acts c.args.acts.now c.take_latest-taken.new.self c.args.client took.from took.to took.acts

pub returns-in-Err-clause-took : goal.returns-in-Err-clause-took
returns-in-Err-clause-took g c =
    let acts = c.args.acts.now in
    let here = c.requires.drawn in
    let cause = cause_of c.in-Err.refusal in
    subst (λ (answer : ServiceAnswer). IfOk c.refusal_line.result (λ line. Gave acts acts c.args.client c.args.coordinator.now c.args.coordinator.now (λ sides. TookLatest g.K.RunName.accepts sides c.args.label.now c.args.handle.now c.args.nonce.now answer line.bytes)))
    (ap replied (sym c.in-Err.is))
    (gave_refusal acts c.args.client here.0 c.args.coordinator.now c.args.label.now cause c.refusal_line.result (λ (text : TextContent). text.bytes)
    (λ sides text. TookLatest g.K.RunName.accepts sides c.args.label.now c.args.handle.now c.args.nonce.now (Refused cause) text)
    (c.clients_stay_on.ensures.idle acts c.args.client here.0 here.1) (λ sides text printed. printed) c.refusal_line.ensures.line c.refusal_line.ensures.no_memory)

pub returns-in-Err-clause-stays : goal.returns-in-Err-clause-stays
returns-in-Err-clause-stays g c = c.clients_stay_on.ensures.same c.args.acts.now

pub returns-in-Ok-clause-checker : goal.returns-in-Ok-clause-checker
returns-in-Ok-clause-checker g c =
    same_checker g.C.Checker.accepts g.S.Store.view g.L.Link.view c.args.acts.now c.take_latest-taken.new.self c.args.coordinator.now c.take_latest-taken.new.coordinator
    c.take_latest-taken.result c.args.client c.args.calls (view_of c.in-Ok.reply.receipt.statement) (Latest c.args.draw c.args.handle.now c.in-Ok.reply) _ c.take_latest-taken.ensures

pub returns-in-Ok-clause-learned : goal.returns-in-Ok-clause-learned
returns-in-Ok-clause-learned g c =
    only_learned g.C.Checker.accepts g.S.Store.view g.L.Link.view c.args.acts.now c.take_latest-taken.new.self c.args.coordinator.now c.take_latest-taken.new.coordinator
    c.take_latest-taken.result c.args.client c.args.calls (view_of c.in-Ok.reply.receipt.statement) (Latest c.args.draw c.args.handle.now c.in-Ok.reply) _ c.take_latest-taken.ensures

pub returns-in-Ok-clause-turns : goal.returns-in-Ok-clause-turns
returns-in-Ok-clause-turns g c =
    turned_at g.C.Checker.accepts g.S.Store.view g.L.Link.view c.args.acts.now c.take_latest-taken.new.self c.args.coordinator.now c.take_latest-taken.new.coordinator
    c.take_latest-taken.result c.args.client c.args.calls (view_of c.in-Ok.reply.receipt.statement) (Latest c.args.draw c.args.handle.now c.in-Ok.reply) _ c.take_latest-taken.ensures

pub returns-in-Err-clause-turns : goal.returns-in-Err-clause-turns
returns-in-Err-clause-turns g c = no_turn c.args.client c.args.calls c.args.acts.now.turns
