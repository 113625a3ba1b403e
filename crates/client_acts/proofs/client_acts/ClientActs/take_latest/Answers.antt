use Rattle.std.proofs.Common.{◌≡◌, ◌-◌, ◌∙◌, ℕ, List, length, Ok, Err, IfOk, subst, ap}
use Rattle.std.proofs.lemmas.Result.{err_from_is_err_and}
use Rattle.std.specs.Result.{result_err}
use Rattle.statement.specs.Statement.{view_of}
use Rattle.view_ledger.specs.Receipts.{Accepts}
use Rattle.verifier.specs.Outcomes.{latest_outcome}
use Rattle.client_pass.specs.declared.take_fault.TakeFault.{TakeFault}
use Rattle.client_pass.specs.declared.take_fault.TakeFault.TheVariants.{NoMemory}
use Rattle.client_pass.specs.Act.{Latest}
use Rattle.client_pass.specs.Answers.{IfReplyNoted}
use Rattle.client_pass.specs.ClientList.{IsForRead}
use Rattle.client_pass.specs.ClientPass.{ClientPass}
use Rattle.client_acts.proofs.Acting.{count_grown, noted_more}
use Rattle.client_acts.proofs.Taking.{checked_by, none_noted, none_ok, not_again, own_pass, placed, took, unbegun}
use Rattle.client_acts.proofs.client_acts.ClientActs.take_latest.Goals as goal

pub returns-in_err-reserve : goal.returns-in_err-reserve
returns-in_err-reserve g c =
    let p = err_from_is_err_and c.from_residual.result c.from_residual.ensures.1 in
    let gives : p.0 ≡ NoMemory = p.2 in
    let none : c.from_residual.result ≡ Err NoMemory = p.1 ∙ ap (λ (fault : TakeFault). Err fault) gives in
    unbegun g.C.Checker.accepts g.S.Store.view g.L.Link.view c.self.inside.first c.self.inside.clients c.self.inside.turns.items c.reserve.new.self.items c.args.self.now c.args.coordinator.now c.args.place c.args.calls
    (view_of c.args.reply.now.receipt.statement) c.from_residual.result (Latest c.args.draw c.args.handle.now c.args.reply.now) _ c.requires.own_draw.0 c.self.view_is c.reserve.ensures.items c.requires.own_draw.1 none (
      λ nonce is_for. none_noted c.from_residual.result _ none,
      λ nonce is_for. none_ok c.from_residual.result _ none,
      λ again. absurd (not_again c.from_residual.result none again),
    )

pub pass_mut-pass-requires : goal.pass_mut-pass-requires
pass_mut-pass-requires g c =
    placed c.self.inside.first c.self.inside.clients c.self.inside.turns.items c.args.self.now c.args.place c.requires.own_draw.0 c.self.view_is c.requires.own_draw.1

pub take_latest-taken-requires : goal.take_latest-taken-requires
take_latest-taken-requires g c =
    let is = own_pass c.self.inside.first c.self.inside.clients c.self.inside.turns.items c.args.self.now c.args.place c.pass_mut-pass.result.now c.requires.own_draw.0 c.self.view_is c.pass_mut-pass.ensures.value c.requires.own_draw.1 in
    record { own_draw = subst (λ (pass : ClientPass g.row.C.Denot). (nonce : List ℕ) × IsForRead pass.lines c.args.draw nonce) is c.requires.own_draw.2 }

pub invariant_of-self-2 : goal.invariant_of-self-2
invariant_of-self-2 g c =
    let from = c.pass_mut-pass.result.now in
    let to = c.take_latest-taken.new.pass in
    noted_more g.C.Checker.accepts c.self.inside.first g.K.RunName.accepts c.self.inside.clients c.self.inside.turns.items c.reserve.new.self.items c.push_reserved.new.self.items
    (record { client = c.args.place; calls = c.args.calls; lines = length c.lines.result.now - length c.lines-before.result.now }) from to
    c.self.invariant c.pass_mut-pass.ensures.value c.take_latest-taken.ensures.grows
    (count_grown from to c.lines-before.result.now c.lines.result.now c.take_latest-taken.ensures.grows c.lines-before.ensures.lines c.lines.ensures.lines)
    c.reserve.ensures.items c.push_reserved.ensures.items

pub returns : goal.returns
returns g c =
    let from = c.pass_mut-pass.result.now in
    let to = c.take_latest-taken.new.pass in
    let checked = checked_by g.C.Checker.accepts c.self.inside.first g.K.RunName.accepts c.self.inside.clients c.args.place from c.self.invariant.0 c.pass_mut-pass.ensures.value in
    took g.C.Checker.accepts g.S.Store.view g.L.Link.view c.self.inside.first c.self.inside.clients c.self.inside.turns.items c.reserve.new.self.items c.push_reserved.new.self.items c.args.self.now c.args.coordinator.now
    c.take_latest-taken.new.coordinator c.args.place c.args.calls (view_of c.args.reply.now.receipt.statement) c.take_latest-taken.result (Latest c.args.draw c.args.handle.now c.args.reply.now) _ from to c.lines-before.result.now c.lines.result.now
    c.self.view_is c.pass_mut-pass.ensures.value c.reserve.ensures.items c.lines-before.ensures.lines c.lines.ensures.lines c.push_reserved.ensures.items
    c.take_latest-taken.ensures.grows c.take_latest-taken.ensures.learns c.take_latest-taken.ensures.noted c.take_latest-taken.ensures.unnoted (
      λ nonce is_for. subst (λ (by : Accepts). IfReplyNoted c.take_latest-taken.result (λ fault. fault ≡ result_err (latest_outcome by to.chain.configs c.args.handle.now nonce c.args.reply.now))) checked (c.take_latest-taken.ensures.outcome nonce is_for),
      λ nonce is_for. subst (λ (by : Accepts). IfOk c.take_latest-taken.result (λ count. latest_outcome by to.chain.configs c.args.handle.now nonce c.args.reply.now ≡ Ok count)) checked (c.take_latest-taken.ensures.count nonce is_for),
      c.take_latest-taken.ensures.again,
    )
