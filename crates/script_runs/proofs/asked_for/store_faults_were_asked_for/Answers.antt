use Rattle.script_runs.proofs.AskedRuns.{store_faults_asked_for}
use Rattle.script_runs.proofs.asked_for.store_faults_were_asked_for.Goals as goal

pub returns : goal.returns
returns g c = λ key_of left_of checks ids script first last printed begins ran.
    store_faults_asked_for g.G.Signer.Signer.key_of g.G.Signer.Signer.left_of g.G.Signer.Signer.size_of g.G.Signer.Signer.signs g.G.Scheme.fits g.G.Checker.Checker.accepts key_of left_of checks
    script ids first last printed begins ran
    (record { entry = c.entry_refusals_are_shown.ensures.cause; read = c.latest_refusals_are_shown.ensures })
