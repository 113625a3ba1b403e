use Rattle.std.proofs.Common.{ℕ, List, IfOk, refl, sym, ap, subst, ◌∙◌}
use Rattle.chain_block.specs.Entry.{bare, height_of}
use Rattle.nim_base.specs.Text.{Content as TextContent}
use Rattle.port.specs.Service.{ServiceAnswer, stood}
use Rattle.statement.specs.Statement.{view_of}
use Rattle.verifier.specs.Outcomes.{append_outcome}
use Rattle.client_pass.specs.Act.{Append}
use Rattle.client_pass.specs.ClientList.{IsForEntry}
use Rattle.reply_lines.specs.Causes.{payload_of}
use Rattle.reply_lines.specs.Lines.{ok_line}
use Rattle.answer_lines.specs.Giving.{Gave}
use Rattle.answer_lines.specs.Taken.{Took, TookOwn, taken_line}
use Rattle.answer_lines.proofs.Given.{bare_height, bare_payload, drew_entry, gave_drawn, gave_line, no_turn, only_learned, same_checker, turned_at, within}
use Rattle.answer_lines.proofs.giving.give_own.Goals as goal

pub returns-in_ok-accepted-in-Ok-clause-took : goal.returns-in_ok-accepted-in-Ok-clause-took
returns-in_ok-accepted-in-Ok-clause-took g c =
    let standing = c.in-Ok.standing in
    let entry = c.args.entry.now in
    let label = c.args.label.now in
    subst (λ (answer : ServiceAnswer). IfOk c.taken_line.result (λ line. Gave c.args.acts.now c.take_own-taken.new.self c.args.client c.args.coordinator.now c.take_own-taken.new.coordinator (λ sides. TookOwn g.K.RunName.accepts sides label (bare entry) answer line.bytes)))
    (ap stood (sym c.in-Ok.is))
    (gave_drawn g.C.Checker.accepts g.S.Store.view g.L.Link.view c.args.acts.now c.take_own-taken.new.self c.args.coordinator.now c.take_own-taken.new.coordinator
    c.taken_line.result c.args.client c.args.draw (λ draw from. IsForEntry from.lines draw (bare entry))
    (λ line draw sides. Took sides (view_of standing.receipt.statement) (λ configs. append_outcome g.K.RunName.accepts configs (bare entry) standing)
    (Append draw standing) (taken_line (ok_line label (height_of (bare entry)) (payload_of (bare entry)))) line.bytes)
    (λ from here. drew_entry c.args.acts.now.clients c.args.client c.args.draw from (bare entry) c.requires.drawn here)
    (gave_line g.C.Checker.accepts g.S.Store.view g.L.Link.view c.args.acts.now c.take_own-taken.new.self c.args.coordinator.now c.take_own-taken.new.coordinator
    c.taken_line.result (λ (text : TextContent). text.bytes) c.args.client c.args.calls (view_of standing.receipt.statement) c.take_own-taken.result
    (Append c.args.draw standing) (Append c.args.draw standing) _
    c.in_ok-accepted-in-Ok.accepted.bytes (ok_line label (height_of (bare entry)) (payload_of (bare entry)))
    (λ configs. append_outcome g.K.RunName.accepts configs (bare entry) standing)
    (c.in_ok-accepted-in-Ok.ensures
    ∙ ap (λ (height : ℕ). ok_line label height c.payload_of.result.now) (c.height.ensures ∙ bare_height entry)
    ∙ ap (λ (payload : List ℕ). ok_line label (height_of (bare entry)) payload) (c.payload_of.ensures ∙ bare_payload entry)) refl
    c.take_own-taken.ensures
    (λ from to here says. says.0 (bare entry) (drew_entry c.args.acts.now.clients c.args.client c.args.draw from (bare entry) c.requires.drawn here)) c.taken_line.ensures))

pub returns-in_ok-accepted-in-Ok-clause-stays : goal.returns-in_ok-accepted-in-Ok-clause-stays
returns-in_ok-accepted-in-Ok-clause-stays g c =
    let took = c.take_own-taken.ensures in
    c.clients_stay_on.ensures.acts c.args.acts.now c.take_own-taken.new.self c.args.client took.from took.to took.acts

pub returns-in-Err-clause-took : goal.returns-in-Err-clause-took
returns-in-Err-clause-took g c =
    subst (λ (answer : ServiceAnswer). IfOk c.give_own_refusal.result (λ line. Gave c.args.acts.now c.give_own_refusal.new.acts c.args.client c.args.coordinator.now c.give_own_refusal.new.coordinator (λ sides. TookOwn g.K.RunName.accepts sides c.args.label.now (bare c.args.entry.now) answer line.bytes)))
    (ap stood (sym c.in-Err.is)) c.give_own_refusal.ensures.took

pub give_own_refusal-requires-clause-client : goal.give_own_refusal-requires-clause-client
give_own_refusal-requires-clause-client g c = within c.args.acts.now.clients c.args.client c.requires.drawn.0 c.requires.drawn.1

pub returns-in_ok-accepted-in-Ok-clause-checker : goal.returns-in_ok-accepted-in-Ok-clause-checker
returns-in_ok-accepted-in-Ok-clause-checker g c =
    same_checker g.C.Checker.accepts g.S.Store.view g.L.Link.view c.args.acts.now c.take_own-taken.new.self c.args.coordinator.now c.take_own-taken.new.coordinator
    c.take_own-taken.result c.args.client c.args.calls (view_of c.in-Ok.standing.receipt.statement) (Append c.args.draw c.in-Ok.standing) _ c.take_own-taken.ensures

pub returns-in_ok-accepted-in-Ok-clause-learned : goal.returns-in_ok-accepted-in-Ok-clause-learned
returns-in_ok-accepted-in-Ok-clause-learned g c =
    only_learned g.C.Checker.accepts g.S.Store.view g.L.Link.view c.args.acts.now c.take_own-taken.new.self c.args.coordinator.now c.take_own-taken.new.coordinator
    c.take_own-taken.result c.args.client c.args.calls (view_of c.in-Ok.standing.receipt.statement) (Append c.args.draw c.in-Ok.standing) _ c.take_own-taken.ensures

pub returns-in_ok-accepted-in-Ok-clause-turns : goal.returns-in_ok-accepted-in-Ok-clause-turns
returns-in_ok-accepted-in-Ok-clause-turns g c =
    turned_at g.C.Checker.accepts g.S.Store.view g.L.Link.view c.args.acts.now c.take_own-taken.new.self c.args.coordinator.now c.take_own-taken.new.coordinator
    c.take_own-taken.result c.args.client c.args.calls (view_of c.in-Ok.standing.receipt.statement) (Append c.args.draw c.in-Ok.standing) _ c.take_own-taken.ensures

pub returns-in_err-accepted-in-Ok-clause-turns : goal.returns-in_err-accepted-in-Ok-clause-turns
returns-in_err-accepted-in-Ok-clause-turns g c = no_turn c.args.client c.args.calls c.args.acts.now.turns
