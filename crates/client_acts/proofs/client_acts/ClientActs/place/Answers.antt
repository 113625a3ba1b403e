use Rattle.std.proofs.Common.{◌≡◌, ◌≢◌, ℕ, List, slice_get, Some, IfSome, ap, subst}
use Rattle.client_acts.proofs.Placing.{named_in, none_in}
use Rattle.client_acts.proofs.client_acts.ClientActs.place.Goals as goal

pub returns-clause-some : goal.returns-clause-some
returns-clause-some g c =
    subst (λ (names : List (List ℕ)). IfSome c.place.result (λ place. slice_get names place ≡ Some c.args.name.now))
    (ap (λ own. own.names) c.self.view_is)
    (named_in c.self.inside.clients c.args.name.now c.place.result c.place.ensures.at)

pub returns-clause-none : goal.returns-clause-none
returns-clause-none g c = λ none place.
    subst (λ (names : List (List ℕ)). slice_get names place ≢ Some c.args.name.now)
    (ap (λ own. own.names) c.self.view_is)
    (none_in c.self.inside.clients c.args.name.now c.place.result c.place.ensures.at none place)
