use Rattle.script_operations.proofs.height_operation.HeightOperation.finish.Goals as goal

pub returns-in-None-clause-stays : goal.returns-in-None-clause-stays
returns-in-None-clause-stays g c = c.clients_stay_on.ensures.same c.args.acts.now
