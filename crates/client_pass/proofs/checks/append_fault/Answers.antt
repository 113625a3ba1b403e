use Rattle.std.proofs.Common.{◌≡◌, Option, Some, sym, ap, ◌∙◌}
use Rattle.chain_block.specs.declared.entry.Entry.{Entry}
use Rattle.chain_block.specs.Entry.{bare}
use Rattle.client_pass.specs.declared.client_act.ClientAct.TheVariants as acts
use Rattle.client_pass.specs.Act.{Line, act_of, Draw}
use Rattle.verifier.specs.Outcomes.{append_outcome}
use Rattle.client_pass.proofs.Verdicts.{outcome_bare, read_entry, own_entry}
use Rattle.client_pass.proofs.checks.append_fault.Goals as goal

pub returns-clause-fault : goal.returns-clause-fault
returns-clause-fault g c =
    let accepts = g.C.Checker.accepts c.args.verifier.now.checker in
    let configs = c.args.verifier.now.chain.configs in
    let reply = c.args.reply.now in
    let own = c.in-Some.entry in
    let nonce = c.in-Draw.nonce in
    let intent : c.in-Draw.intent ≡ Some own = c.in-Some.is in
    let act : c.index-lines-draw.result.act ≡ Draw nonce (Some (bare own)) =
    sym (ap (λ (l : Line). l.act) c.drawn.view_is) ∙ ap act_of (c.in-Draw.is ∙ ap (λ (i : Option Entry). acts.Draw nonce i) intent) in
    λ entry is.
    let same : entry ≡ bare own = read_entry c.args.lines.now c.args.draw c.index-lines-draw.result nonce (bare own) entry c.index-lines-draw.is act is in
    c.err.ensures.value ∙ c.check_append.ensures.outcome ∙ sym (outcome_bare accepts configs own reply) ∙ sym (ap (λ (e : Entry). append_outcome accepts configs e reply) same)

pub returns-clause-own : goal.returns-clause-own
returns-clause-own g c =
    let own = c.in-Some.entry in
    let nonce = c.in-Draw.nonce in
    let intent : c.in-Draw.intent ≡ Some own = c.in-Some.is in
    let act : c.index-lines-draw.result.act ≡ Draw nonce (Some (bare own)) =
    sym (ap (λ (l : Line). l.act) c.drawn.view_is) ∙ ap act_of (c.in-Draw.is ∙ ap (λ (i : Option Entry). acts.Draw nonce i) intent) in
    λ entry is.
    let same : entry ≡ bare own = read_entry c.args.lines.now c.args.draw c.index-lines-draw.result nonce (bare own) entry c.index-lines-draw.is act is in
    own_entry c.check_append.result c.err.result (c.args.reply.now.row.entry ≡ entry) c.err.ensures.value (λ ok. sym (same ∙ (c.check_append.ensures.yes.0 ok).1))
