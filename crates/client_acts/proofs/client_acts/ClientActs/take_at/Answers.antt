use Rattle.std.proofs.Common.{◌≡◌, ◌-◌, ◌∙◌, length, Err, subst, ap}
use Rattle.std.proofs.lemmas.Result.{err_from_is_err_and}
use Rattle.statement.specs.Statement.{view_of}
use Rattle.view_ledger.specs.Receipts.{Accepts}
use Rattle.verifier.specs.Outcomes.{at_outcome}
use Rattle.client_pass.specs.declared.take_fault.TakeFault.{TakeFault}
use Rattle.client_pass.specs.declared.take_fault.TakeFault.TheVariants.{NoMemory}
use Rattle.client_pass.specs.Act.{At}
use Rattle.client_pass.specs.Answers.{IfReplyNoted}
use Rattle.client_acts.proofs.Acting.{count_grown, noted_more}
use Rattle.client_acts.proofs.Taking.{checked_by, found, none_noted, not_again, took, unbegun}
use Rattle.client_acts.proofs.client_acts.ClientActs.take_at.Goals as goal

pub returns-in_err-reserve : goal.returns-in_err-reserve
returns-in_err-reserve g c =
    let p = err_from_is_err_and c.from_residual.result c.from_residual.ensures.1 in
    let gives : p.0 ≡ NoMemory = p.2 in
    let none : c.from_residual.result ≡ Err NoMemory = p.1 ∙ ap (λ (fault : TakeFault). Err fault) gives in
    let stood = found c.args.self.now.clients c.args.place c.requires.place in
    unbegun g.C.Checker.accepts g.S.Store.view g.L.Link.view c.self.inside.first c.self.inside.clients c.self.inside.turns.items c.reserve.new.self.items c.args.self.now c.args.coordinator.now c.args.place c.args.calls
    (view_of c.args.reply.now.receipt.statement) c.from_residual.result (At c.args.handle.now c.args.height c.args.reply.now) _ stood.0 c.self.view_is c.reserve.ensures.items stood.1 none
    (none_noted c.from_residual.result _ none, not_again c.from_residual.result none)

pub invariant_of-self-2 : goal.invariant_of-self-2
invariant_of-self-2 g c =
    let from = c.pass_mut-pass.result.now in
    let to = c.take_at-taken.new.pass in
    noted_more g.C.Checker.accepts c.self.inside.first g.K.RunName.accepts c.self.inside.clients c.self.inside.turns.items c.reserve.new.self.items c.push_reserved.new.self.items
    (record { client = c.args.place; calls = c.args.calls; lines = length c.lines.result.now - length c.lines-before.result.now }) from to
    c.self.invariant c.pass_mut-pass.ensures.value c.take_at-taken.ensures.grows
    (count_grown from to c.lines-before.result.now c.lines.result.now c.take_at-taken.ensures.grows c.lines-before.ensures.lines c.lines.ensures.lines)
    c.reserve.ensures.items c.push_reserved.ensures.items

pub returns : goal.returns
returns g c =
    let from = c.pass_mut-pass.result.now in
    let to = c.take_at-taken.new.pass in
    let checked = checked_by g.C.Checker.accepts c.self.inside.first g.K.RunName.accepts c.self.inside.clients c.args.place from c.self.invariant.0 c.pass_mut-pass.ensures.value in
    took g.C.Checker.accepts g.S.Store.view g.L.Link.view c.self.inside.first c.self.inside.clients c.self.inside.turns.items c.reserve.new.self.items c.push_reserved.new.self.items c.args.self.now c.args.coordinator.now
    c.take_at-taken.new.coordinator c.args.place c.args.calls (view_of c.args.reply.now.receipt.statement) c.take_at-taken.result (At c.args.handle.now c.args.height c.args.reply.now) _ from to c.lines-before.result.now c.lines.result.now
    c.self.view_is c.pass_mut-pass.ensures.value c.reserve.ensures.items c.lines-before.ensures.lines c.lines.ensures.lines c.push_reserved.ensures.items
    c.take_at-taken.ensures.grows c.take_at-taken.ensures.learns c.take_at-taken.ensures.noted c.take_at-taken.ensures.unnoted (
      subst (λ (by : Accepts). IfReplyNoted c.take_at-taken.result (λ fault. fault ≡ at_outcome by to.chain.configs c.args.handle.now c.args.height c.args.reply.now)) checked c.take_at-taken.ensures.outcome,
      c.take_at-taken.ensures.never_again,
    )
