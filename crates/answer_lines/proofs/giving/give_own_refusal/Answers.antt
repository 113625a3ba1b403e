use Rattle.std.proofs.Common.{◌≡◌, ℕ, List, IfOk, sym, ap, subst, ◌∙◌}
use Rattle.chain_block.specs.Entry.{bare, handle_of, height_of}
use Rattle.nim_base.specs.Text.{Content as TextContent}
use Rattle.port.specs.Cause.{Cause, cause_of}
use Rattle.port.specs.Service.{Refused}
use Rattle.statement.specs.Statement.{view_of}
use Rattle.verifier.specs.Outcomes.{at_outcome}
use Rattle.client_pass.specs.Act.{Look}
use Rattle.client_pass.specs.Answers.{IfReplyNoted}
use Rattle.reply_lines.specs.Causes.{payload_of}
use Rattle.reply_lines.specs.Lines.{conflict_line}
use Rattle.answer_lines.specs.Giving.{Gave}
use Rattle.answer_lines.specs.Taken.{TookOwn}
use Rattle.answer_lines.proofs.Given.{bare_handle, bare_height, found, gave_line, no_turn, only_learned, same_checker, turned_at}
use Rattle.answer_lines.proofs.Refused.{gave_refusal, is_conflict, printed_own}
use Rattle.answer_lines.proofs.giving.give_own_refusal.Goals as goal

pub returns-in_ok-accepted-in-Some-clause-took : goal.returns-in_ok-accepted-in-Some-clause-took
returns-in_ok-accepted-in-Some-clause-took g c =
    let standing = c.in-Some.standing.now in
    let entry = c.args.entry.now in
    let label = c.args.label.now in
    let handle_is : c.handle-handle.result ≡ handle_of (bare entry) = c.handle-handle.ensures ∙ bare_handle entry in
    let height_is : c.height-height.result ≡ height_of (bare entry) = c.height-height.ensures ∙ bare_height entry in
    subst (λ (cause : Cause). IfOk c.taken_line.result (λ line. Gave c.args.acts.now c.look-looked.new.self c.args.client c.args.coordinator.now c.look-looked.new.coordinator (λ sides. TookOwn g.K.RunName.accepts sides label (bare entry) (Refused cause) line.bytes)))
    (sym (is_conflict (cause_of c.args.refusal.now) standing (sym c.in-Some.ensures)))
    (gave_line g.C.Checker.accepts g.S.Store.view g.L.Link.view c.args.acts.now c.look-looked.new.self c.args.coordinator.now c.look-looked.new.coordinator
    c.taken_line.result (λ (text : TextContent). text.bytes) c.args.client c.args.calls (view_of standing.receipt.statement) c.look-looked.result (Look c.handle-handle.result c.height-height.result standing) (Look (handle_of (bare entry)) (height_of (bare entry)) standing) _
    c.in_ok-accepted-in-Some.accepted.bytes (conflict_line label (height_of (bare entry)) (payload_of standing.row.entry))
    (λ configs. at_outcome g.K.RunName.accepts configs (handle_of (bare entry)) (height_of (bare entry)) standing)
    (c.in_ok-accepted-in-Some.ensures
    ∙ ap (λ (height : ℕ). conflict_line label height c.payload_in.result.now) height_is
    ∙ ap (λ (payload : List ℕ). conflict_line label (height_of (bare entry)) payload) c.payload_in.ensures)
    (ap (λ (handle : List ℕ). Look handle c.height-height.result standing) handle_is ∙ ap (λ (height : ℕ). Look (handle_of (bare entry)) height standing) height_is)
    c.look-looked.ensures
    (λ from to here says.
    subst (λ (handle : List ℕ). IfReplyNoted c.look-looked.result (λ fault. fault ≡ at_outcome g.K.RunName.accepts to.chain.configs handle (height_of (bare entry)) standing)) handle_is
    (subst (λ (height : ℕ). IfReplyNoted c.look-looked.result (λ fault. fault ≡ at_outcome g.K.RunName.accepts to.chain.configs c.handle-handle.result height standing)) height_is says.0))
    c.taken_line.ensures)

pub returns-in_ok-accepted-in-Some-clause-stays : goal.returns-in_ok-accepted-in-Some-clause-stays
returns-in_ok-accepted-in-Some-clause-stays g c =
    let took = c.look-looked.ensures in
    c.clients_stay_on.ensures.acts c.args.acts.now c.look-looked.new.self c.args.client took.from took.to took.acts

pub returns-in-None-clause-took : goal.returns-in-None-clause-took
returns-in-None-clause-took g c =
    let acts = c.args.acts.now in
    let here = found acts.clients c.args.client c.requires.client in
    let cause = cause_of c.args.refusal.now in
    let entry = bare c.args.entry.now in
    let label = c.args.label.now in
    gave_refusal acts c.args.client here.0 c.args.coordinator.now label cause c.refusal_line.result (λ (text : TextContent). text.bytes)
    (λ sides text. TookOwn g.K.RunName.accepts sides label entry (Refused cause) text)
    (c.clients_stay_on.ensures.idle acts c.args.client here.0 here.1)
    (λ sides text printed. printed_own sides label text g.K.RunName.accepts entry cause (sym c.in-None.ensures) printed) c.refusal_line.ensures.line c.refusal_line.ensures.no_memory

pub returns-in_ok-accepted-in-Some-clause-checker : goal.returns-in_ok-accepted-in-Some-clause-checker
returns-in_ok-accepted-in-Some-clause-checker g c =
    let standing = c.in-Some.standing.now in
    same_checker g.C.Checker.accepts g.S.Store.view g.L.Link.view c.args.acts.now c.look-looked.new.self c.args.coordinator.now c.look-looked.new.coordinator
    c.look-looked.result c.args.client c.args.calls (view_of standing.receipt.statement) (Look c.handle-handle.result c.height-height.result standing) _ c.look-looked.ensures

pub returns-in_ok-accepted-in-Some-clause-learned : goal.returns-in_ok-accepted-in-Some-clause-learned
returns-in_ok-accepted-in-Some-clause-learned g c =
    let standing = c.in-Some.standing.now in
    only_learned g.C.Checker.accepts g.S.Store.view g.L.Link.view c.args.acts.now c.look-looked.new.self c.args.coordinator.now c.look-looked.new.coordinator
    c.look-looked.result c.args.client c.args.calls (view_of standing.receipt.statement) (Look c.handle-handle.result c.height-height.result standing) _ c.look-looked.ensures

pub returns-in_ok-accepted-in-Some-clause-turns : goal.returns-in_ok-accepted-in-Some-clause-turns
returns-in_ok-accepted-in-Some-clause-turns g c =
    turned_at g.C.Checker.accepts g.S.Store.view g.L.Link.view c.args.acts.now c.look-looked.new.self c.args.coordinator.now c.look-looked.new.coordinator
    c.look-looked.result c.args.client c.args.calls (view_of c.in-Some.standing.now.receipt.statement) (Look c.handle-handle.result c.height-height.result c.in-Some.standing.now) _ c.look-looked.ensures

pub returns-in_err-accepted-in-Some-clause-turns : goal.returns-in_err-accepted-in-Some-clause-turns
returns-in_err-accepted-in-Some-clause-turns g c = no_turn c.args.client c.args.calls c.args.acts.now.turns

pub returns-in-None-clause-turns : goal.returns-in-None-clause-turns
returns-in-None-clause-turns g c = no_turn c.args.client c.args.calls c.args.acts.now.turns
