use Rattle.op_entry.proofs.calls.refresh_chain.Goals as goal

pub returns-clause-ready : goal.returns-clause-ready
returns-clause-ready g c = c.take_refreshed.ensures.ready c.step-progress.new.chain.configs
