use Rattle.script_world.proofs.Lent.{answered_raw}
use Rattle.port.specs.Call.{call_of}
use Rattle.script_world.proofs.raw.ask_raw.Goals as goal

pub returns-clause-answered : goal.returns-clause-answered
returns-clause-answered g c =
    answered_raw g.G.Signer.Signer.key_of g.G.Signer.Signer.left_of g.G.Signer.Signer.size_of g.G.Signer.Signer.signs g.G.Scheme.fits c.args.bank.now c.raw.new.self
    c.args.id (call_of c.args.call.now) c.raw.result c.in-Some.asked c.in_ok-answer.answer c.in_ok-line.line.bytes
    c.raw.ensures.raw c.in-Some.is c.in_ok-answer.was c.in_ok-line.ensures
