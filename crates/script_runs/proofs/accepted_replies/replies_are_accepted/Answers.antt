use Rattle.script_runs.proofs.AllAccepted.{none_is_refused_else, replies_are_accepted, view_0_stands_alone}
use Rattle.script_runs.proofs.Standing.{Means}
use Rattle.script_runs.proofs.accepted_replies.replies_are_accepted.Given.{Over}
use Rattle.script_runs.proofs.accepted_replies.replies_are_accepted.Goals as goal

means : (g : Over) (c : goal.After-entry_calls_are_own g) → Means
means g c = record { append = c.outcomes_mean.ensures.append; at = c.outcomes_mean.ensures.at; latest = c.outcomes_mean.ensures.latest }

pub returns-clause-accepted : goal.returns-clause-accepted
returns-clause-accepted g c = λ key_of left_of checks ids script first last printed begins runs.
    replies_are_accepted g.G.Signer.Signer.key_of g.G.Signer.Signer.left_of g.G.Signer.Signer.size_of g.G.Signer.Signer.signs g.G.Scheme.fits g.G.Checker.Checker.accepts key_of left_of checks
    (means g c) c.entry_calls_are_own.ensures ids script first last printed begins runs

pub returns-clause-elsewhere : goal.returns-clause-elsewhere
returns-clause-elsewhere g c = λ key_of left_of checks ids script first last printed begins runs.
    none_is_refused_else g.G.Signer.Signer.key_of g.G.Signer.Signer.left_of g.G.Signer.Signer.size_of g.G.Signer.Signer.signs g.G.Scheme.fits g.G.Checker.Checker.accepts key_of left_of checks
    (means g c) c.entry_calls_are_own.ensures ids script first last printed begins runs

pub returns-clause-view_0 : goal.returns-clause-view_0
returns-clause-view_0 g c = λ key_of left_of checks ids script first last printed begins runs.
    view_0_stands_alone g.G.Signer.Signer.key_of g.G.Signer.Signer.left_of g.G.Signer.Signer.size_of g.G.Signer.Signer.signs g.G.Scheme.fits g.G.Checker.Checker.accepts key_of left_of checks
    (means g c) c.entry_calls_are_own.ensures ids script first last printed begins runs
