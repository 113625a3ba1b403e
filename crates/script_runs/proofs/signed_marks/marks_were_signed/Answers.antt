use Rattle.script_runs.proofs.MarksSigned.{marks_signed}
use Rattle.script_runs.proofs.Standing.{Means}
use Rattle.script_runs.proofs.signed_marks.marks_were_signed.Given.{Over}
use Rattle.script_runs.proofs.signed_marks.marks_were_signed.Goals as goal

means : (g : Over) (c : goal.After-entry_calls_are_own g) → Means
means g c = record { append = c.outcomes_mean.ensures.append; at = c.outcomes_mean.ensures.at; latest = c.outcomes_mean.ensures.latest }

pub returns : goal.returns
returns g c = λ key_of left_of checks ids script first last printed short can begins runs.
    marks_signed g.G.Signer.Signer.key_of g.G.Signer.Signer.left_of g.G.Signer.Signer.size_of g.G.Signer.Signer.signs g.G.Scheme.fits g.G.Checker.Checker.accepts key_of left_of checks
    (means g c) c.entry_calls_are_own.ensures (λ checker key bytes sig accepted. g.met.G.Checker.Checker.limits checker key bytes sig accepted) ids script first last printed short can begins runs
