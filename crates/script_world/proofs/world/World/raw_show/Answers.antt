use Rattle.std.proofs.Common.{refl}
use Rattle.script_world.proofs.Goes.{goes_same}
use Rattle.script_world.proofs.Lent.{only_link}
use Rattle.script_world.proofs.world.World.raw_show.Goals as goal

pub returns-clause-rest : goal.returns-clause-rest
returns-clause-rest g c = only_link c.args.self.now c.self.inside.coordinator c.self.inside.acts c.self.inside.operations c.self.inside.labels c.self.inside.draws c.self.view_is c.ask_raw.new.bank

pub returns-clause-goes : goal.returns-clause-goes
returns-clause-goes g c =
    let inside = c.self.inside in
    goes_same c.args.self.now inside.coordinator (record inside.coordinator { link = c.ask_raw.new.bank }) inside.acts inside.operations inside.operations inside.labels inside.labels inside.draws inside.draws c.self.view_is refl

pub returns-in_err-line-clause-rest : goal.returns-in_err-line-clause-rest
returns-in_err-line-clause-rest g c = only_link c.args.self.now c.self.inside.coordinator c.self.inside.acts c.self.inside.operations c.self.inside.labels c.self.inside.draws c.self.view_is c.ask_raw.new.bank

pub returns-in_err-line-clause-goes : goal.returns-in_err-line-clause-goes
returns-in_err-line-clause-goes g c =
    let inside = c.self.inside in
    goes_same c.args.self.now inside.coordinator (record inside.coordinator { link = c.ask_raw.new.bank }) inside.acts inside.operations inside.operations inside.labels inside.labels inside.draws inside.draws c.self.view_is refl
