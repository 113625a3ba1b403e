use Rattle.std.proofs.Common.{List, ℕ, Option, IfSome, refl, subst}
use Rattle.script_world.specs.Raw.{IsPrevFor}
use Rattle.script_world.proofs.Goes.{goes_same, goes_still}
use Rattle.script_world.proofs.Lent.{appended_raw, only_link}
use Rattle.script_world.proofs.world.World.raw_append.Goals as goal

pub returns-clause-rest : goal.returns-clause-rest
returns-clause-rest g c = only_link c.args.self.now c.self.inside.coordinator c.self.inside.acts c.self.inside.operations c.self.inside.labels c.self.inside.draws c.self.view_is c.ask_raw.new.bank

pub returns-clause-goes : goal.returns-clause-goes
returns-clause-goes g c =
    let inside = c.self.inside in
    goes_same c.args.self.now inside.coordinator (record inside.coordinator { link = c.ask_raw.new.bank }) inside.acts inside.operations inside.operations inside.labels inside.labels inside.draws inside.draws c.self.view_is refl

pub returns-in_err-line-clause-rest : goal.returns-in_err-line-clause-rest
returns-in_err-line-clause-rest g c = only_link c.args.self.now c.self.inside.coordinator c.self.inside.acts c.self.inside.operations c.self.inside.labels c.self.inside.draws c.self.view_is c.ask_raw.new.bank

pub returns-in_err-line-clause-goes : goal.returns-in_err-line-clause-goes
returns-in_err-line-clause-goes g c =
    let inside = c.self.inside in
    goes_same c.args.self.now inside.coordinator (record inside.coordinator { link = c.ask_raw.new.bank }) inside.acts inside.operations inside.operations inside.labels inside.labels inside.draws inside.draws c.self.view_is refl

pub returns-in_err-entry-clause-goes : goal.returns-in_err-entry-clause-goes
returns-in_err-entry-clause-goes g c = goes_still c.args.self.now

pub returns-in_err-prev-clause-goes : goal.returns-in_err-prev-clause-goes
returns-in_err-prev-clause-goes g c = goes_still c.args.self.now

pub returns-in_default-clause-goes : goal.returns-in_default-clause-goes
returns-in_default-clause-goes g c = goes_still c.args.self.now

pub returns-clause-answered : goal.returns-clause-answered
returns-clause-answered g c =
    let inside = c.self.inside in
    appended_raw g.G.Signer.Signer.key_of g.G.Signer.Signer.left_of g.G.Signer.Signer.size_of g.G.Signer.Signer.signs g.G.Scheme.fits c.args.self.now c.link_mut.result.now c.ask_raw.new.bank c.args.id inside.coordinator inside.acts inside.operations inside.labels inside.draws
    c.handle_for-handle.result c.args.label.now c.args.height c.args.number c.args.payload.now c.in-Some.prev c.entry_digest-digest.result c.in_ok-entry.entry c.in_ok-line.line
    c.self.view_is c.handle_for-handle.ensures
    (subst (λ (prev : Option (List ℕ)). IfSome prev (IsPrevFor inside.coordinator c.args.id c.handle_for-handle.result c.args.height)) c.in-Some.is c.in_ok-prev.ensures.prev)
    c.link_mut.ensures.value c.in_ok-entry.ensures.entry c.entry_digest-digest.ensures c.in_ok-line.ensures.answered
