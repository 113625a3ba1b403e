use Rattle.script_runs.proofs.AskedRuns.{losses_asked_for}
use Rattle.script_runs.proofs.asked_for.losses_were_asked_for.Goals as goal

pub returns : goal.returns
returns g c = λ key_of left_of checks ids script first last printed begins ran.
    losses_asked_for g.G.Signer.Signer.key_of g.G.Signer.Signer.left_of g.G.Signer.Signer.size_of g.G.Signer.Signer.signs g.G.Scheme.fits g.G.Checker.Checker.accepts key_of left_of checks
    script ids first last printed begins ran
