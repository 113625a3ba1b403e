use Rattle.std.proofs.Common.{List, ℕ, refl, ap, ◌∙◌}
use Rattle.name_map.specs.NameMap.{means}
use Rattle.port.specs.Call.{Latest}
use Rattle.script_world.specs.Labels.{handle_for}
use Rattle.script_world.specs.Nonce.{nonce}
use Rattle.script_world.specs.Running.{world_of}
use Rattle.script_world.proofs.Goes.{goes_same}
use Rattle.script_world.proofs.Lent.{ledgers_are, only_link, raw_seen, was_link}
use Rattle.script_world.proofs.world.World.raw_latest.Goals as goal

pub returns-clause-rest : goal.returns-clause-rest
returns-clause-rest g c = only_link c.args.self.now c.self.inside.coordinator c.self.inside.acts c.self.inside.operations c.self.inside.labels c.self.inside.draws c.self.view_is c.ask_raw.new.bank

pub returns-clause-goes : goal.returns-clause-goes
returns-clause-goes g c =
    let inside = c.self.inside in
    goes_same c.args.self.now inside.coordinator (record inside.coordinator { link = c.ask_raw.new.bank }) inside.acts inside.operations inside.operations inside.labels inside.labels inside.draws inside.draws c.self.view_is refl

pub returns-in_err-line-clause-rest : goal.returns-in_err-line-clause-rest
returns-in_err-line-clause-rest g c = only_link c.args.self.now c.self.inside.coordinator c.self.inside.acts c.self.inside.operations c.self.inside.labels c.self.inside.draws c.self.view_is c.ask_raw.new.bank

pub returns-in_err-line-clause-goes : goal.returns-in_err-line-clause-goes
returns-in_err-line-clause-goes g c =
    let inside = c.self.inside in
    goes_same c.args.self.now inside.coordinator (record inside.coordinator { link = c.ask_raw.new.bank }) inside.acts inside.operations inside.operations inside.labels inside.labels inside.draws inside.draws c.self.view_is refl

pub returns-clause-answered : goal.returns-clause-answered
returns-clause-answered g c =
    let handle = c.handle_for-handle.result in
    let drawn = c.nonce-nonce.result in
    raw_seen g.G.Signer.Signer.key_of g.G.Signer.Signer.left_of g.G.Signer.Signer.size_of g.G.Signer.Signer.signs g.G.Scheme.fits c.args.self.now c.link_mut.result.now c.ask_raw.new.bank c.args.id (Latest handle drawn) (Latest (handle_for (world_of c.args.self.now).labels c.args.label.now) (nonce c.args.number)) c.in_ok-line.line
    (was_link c.args.self.now c.self.inside.coordinator c.self.inside.acts c.self.inside.operations c.self.inside.labels c.self.inside.draws c.self.view_is c.link_mut.result.now c.link_mut.ensures.value)
    (ap (λ (drawn : List ℕ). Latest handle drawn) c.nonce-nonce.ensures
    ∙ ap (λ (handle : List ℕ). Latest handle (nonce c.args.number)) (c.handle_for-handle.ensures ∙ ap (λ (ledgers : List (List ℕ × List ℕ)). handle_for (means ledgers) c.args.label.now) (ledgers_are c.args.self.now c.self.inside.coordinator c.self.inside.acts c.self.inside.operations c.self.inside.labels c.self.inside.draws c.self.view_is)))
    c.in_ok-line.ensures.answered
